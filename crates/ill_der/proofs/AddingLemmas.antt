-- Proper prefixes of texts that are appended in several parts. The functions of `encoding.rt` append parts, one after
-- another. If memory runs out, they have appended a proper prefix of the whole.
use Rattle.std.proofs.Common.{◌≡◌, ℕ, List, [], ◌++◌, ◌<◌, length, Result, Ok, Err, OnErr, refl, sym, ap, ◌∙◌, arith}
use Rattle.std.proofs.Common.{append_assoc, length-append}
use Rattle.std.proofs.lemmas.List.{append-nil}
use Rattle.std.proofs.lemmas.Result.{on_err_weaker}
use Rattle.ill_der.specs.Adding.{AddsPrefix}

-- If `new` is `old` and `text` has a byte, `new` is `old` followed by the empty prefix of `text`, a proper one.
pub adds_nothing : (old new text : List ℕ) → new ≡ old → 0 < length text → AddsPrefix old new text
adds_nothing old new text same some =
    record { prefix = []; rest = text; parts = refl; added = same ∙ sym (append-nil old); lacks = some }

-- Let `new` be `old` followed by a proper prefix of `first`.
-- Then `new` is `old` followed by a proper prefix of `first ++ second`.
pub adds_first : (old new first second : List ℕ) → AddsPrefix old new first → AddsPrefix old new (first ++ second)
adds_first old new first second is = record {
  prefix = is.prefix;
  rest = is.rest ++ second;
  parts = ap (λ (x : List ℕ). x ++ second) is.parts ∙ append_assoc is.prefix is.rest second;
  added = is.added;
  lacks = omega (arith, is.lacks, length-append is.rest second);
}

-- Let `new` be `old ++ first` followed by a proper prefix of `second`.
-- Then `new` is `old` followed by a proper prefix of `first ++ second`.
pub adds_second : (old middle new first second : List ℕ) → middle ≡ old ++ first → AddsPrefix middle new second
    → AddsPrefix old new (first ++ second)
adds_second old middle new first second all is = record {
  prefix = first ++ is.prefix;
  rest = is.rest;
  parts = ap (λ (x : List ℕ). first ++ x) is.parts ∙ sym (append_assoc first is.prefix is.rest);
  added = is.added ∙ ap (λ (x : List ℕ). x ++ is.prefix) all ∙ append_assoc old first is.prefix;
  lacks = is.lacks;
}

-- If `P` holds, it holds if `result` is an error.
pub at_err : {T E P : Type 0} (result : Result T E) → P → OnErr result P
at_err (Ok value) holds = tt
at_err (Err fault) holds = holds

-- Let `middle` be `old ++ first`. If at an error `new` is `middle` followed by a proper prefix of `second`,
-- `new` is then `old` followed by a proper prefix of `first ++ second`.
pub adds_last : {T E : Type 0} (result : Result T E) (old middle new first second : List ℕ) → middle ≡ old ++ first
    → OnErr result (AddsPrefix middle new second)
    → OnErr result (AddsPrefix old new (first ++ second))
adds_last result old middle new first second all is = on_err_weaker result (adds_second old middle new first second all) is
