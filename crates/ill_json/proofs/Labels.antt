-- Proves that the labels of an object differ.
use Rattle.std.proofs.Common.{◌≡◌, ◌≢◌, ℕ, Bool, true, false, not, ◌&&◌, List, [], ◌∷◌, ◌++◌, map}
use Rattle.std.proofs.Common.{refl, sym, ◌∙◌, arith}
use Rattle.std.proofs.lemmas.Bool.{true≢false, and_parts, or_parts, not-true}
use Rattle.std.proofs.lemmas.List.Elements.{All-nil, All-cons}
use Rattle.std.proofs.lemmas.List.Kept.{AllPairs-cons}
use Rattle.std.proofs.lemmas.Slice.Eq.{bytes_eq-Decides}
use Rattle.std.specs.List.{All, list_any}
use Rattle.std.specs.Str.{bytes_eq}
use Rattle.json.specs.Strict.{AreDistinct}
use Rattle.ill_text.specs.Json.{Field}

-- Returns the labels of fields, in their order.
abbrev pub labels : List Field → List (List ℕ)
labels fields = map (λ field. field.0) fields

-- Returns true if no two of the texts are equal.
abbrev pub are_apart : List (List ℕ) → Bool
are_apart [] = true
are_apart (text ∷ texts) = not (list_any (bytes_eq text) texts) && are_apart texts

-- A text that is equal to none of the texts differs from each of them.
differs : (text : List ℕ) (texts : List (List ℕ)) → list_any (bytes_eq text) texts ≡ false → All (λ other. text ≢ other) texts
differs text [] none = All-nil (λ other. text ≢ other)
differs text (first ∷ texts) none =
    let both = or_parts (bytes_eq text first) (list_any (bytes_eq text) texts) none in
    All-cons (λ other. text ≢ other) first texts
    (λ same. true≢false (sym ((bytes_eq-Decides text first).1 same) ∙ both.0)) (differs text texts both.1)

-- If no two of the texts are equal by the test, each two of them differ.
pub apart_distinct : (texts : List (List ℕ)) → are_apart texts ≡ true → AreDistinct texts
apart_distinct [] apart = λ i j d lt within. absurd (omega arith)
apart_distinct (text ∷ texts) apart =
    let both = and_parts (not (list_any (bytes_eq text) texts)) (are_apart texts) apart in
    AllPairs-cons (λ a b. a ≢ b) text texts (differs text texts (not-true _ both.0)) (apart_distinct texts both.1)

-- If texts are apart, those after the first are.
pub apart_after : (text : List ℕ) (texts : List (List ℕ)) → are_apart (text ∷ texts) ≡ true → are_apart texts ≡ true
apart_after text texts apart = (and_parts (not (list_any (bytes_eq text) texts)) (are_apart texts) apart).1

-- If a text is equal to none of two lists together, it is equal to none of the first.
none_before : (text : List ℕ) (texts more : List (List ℕ)) → list_any (bytes_eq text) (texts ++ more) ≡ false
    → list_any (bytes_eq text) texts ≡ false
none_before text [] more none = refl
none_before text (first ∷ texts) more none =
    let both = or_parts (bytes_eq text first) (list_any (bytes_eq text) (texts ++ more)) none in
    rw (both.0, none_before text texts more both.1) refl

-- If the texts of two lists together are apart, those of the first list are.
pub apart_before : (texts more : List (List ℕ)) → are_apart (texts ++ more) ≡ true → are_apart texts ≡ true
apart_before [] more apart = refl
apart_before (text ∷ texts) more apart =
    let both = and_parts (not (list_any (bytes_eq text) (texts ++ more))) (are_apart (texts ++ more)) apart in
    rw (none_before text texts more (not-true _ both.0), apart_before texts more both.1) refl
