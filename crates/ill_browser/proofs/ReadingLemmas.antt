-- Proves that at most 4,096 bytes are read of a request.
use Rattle.std.proofs.Common.{◌≡◌, ◌≤◌, inl, inr, ℕ, List, [], length, Option, Some, None, Result, Ok, Err, refl, sym, subst}
use Rattle.std.proofs.Common.{arith}
use Rattle.std.specs.Io.KnownBytes.{Consumes}
use Rattle.ill_browser.specs.declared.fault.VisitFault.{VisitFault}
use Rattle.ill_browser.specs.declared.fault.VisitFault.TheVariants.{NoPage, Method, Foreign, NoUser, NoForm, NoLength, TooLong}
use Rattle.ill_browser.specs.declared.fault.VisitFault.TheVariants.{Cut, Fields, OutOfMemory}
use Rattle.ill_browser.specs.declared.wanted.Wanted.{Wanted}
use Rattle.ill_browser.specs.Visit.{RulesShown, VisitShown, body_size}
use Rattle.ill_browser.specs.Wanted.{Answers, Asked, BreaksOff}
use Rattle.ill_browser.proofs.AskingLemmas.{sized_few}

-- An input that stays as it was lost no bytes.
all_left : (left : Option (List ℕ)) → Consumes left left []
all_left None = tt
all_left (Some bytes) = refl

-- At most 4,096 bytes were read of `left`, and `rest` is what remains of it.
abbrev pub ReadsFew : (left rest : Option (List ℕ)) → Type 0
ReadsFew left rest = (body : List ℕ) × (length body ≤ 4096) × Consumes left rest body

-- If the input stayed, at most 4,096 bytes were read: none.
stays : (left rest : Option (List ℕ)) → rest ≡ left → ReadsFew left rest
stays left rest e = ([], omega arith, subst (λ rest. Consumes left rest []) (sym e) (all_left left))

-- If a body was not read (`BreaksOff`) and the result is not `Cut`, no bytes were read: memory ran out.
broken : (size : ℕ) (left rest : Option (List ℕ)) (result : Result Wanted VisitFault) → BreaksOff size left rest result
    → (result ≡ Err Cut → ⊥) → ReadsFew left rest
broken size left rest (Err OutOfMemory) breaks whole = stays left rest breaks
broken size left rest (Err Cut) breaks whole = absurd (whole refl)
broken size left rest (Ok wanted) breaks whole = absurd breaks
broken size left rest (Err NoPage) breaks whole = absurd breaks
broken size left rest (Err Method) breaks whole = absurd breaks
broken size left rest (Err Foreign) breaks whole = absurd breaks
broken size left rest (Err NoUser) breaks whole = absurd breaks
broken size left rest (Err NoForm) breaks whole = absurd breaks
broken size left rest (Err NoLength) breaks whole = absurd breaks
broken size left rest (Err TooLong) breaks whole = absurd breaks
broken size left rest (Err Fields) breaks whole = absurd breaks

-- If `size` is at most 4,096 or a refusal, and the result is not `Cut`, few bytes were read.
read_few : (size : Result ℕ VisitFault) (wanted : List ℕ → Result Asked VisitFault) (left rest : Option (List ℕ))
    (result : Result Wanted VisitFault) → ((n : ℕ) → size ≡ Ok n → n ≤ 4096) → Answers size wanted left rest result
    → (result ≡ Err Cut → ⊥) → ReadsFew left rest
read_few (Err refusal) wanted left rest result few (e, same) whole = stays left rest same
read_few (Ok size) wanted left rest result few (inl (body, full, lost, reads)) whole =
    (body, subst (λ n. n ≤ 4096) (sym full) (few size refl), lost)
read_few (Ok size) wanted left rest result few (inr breaks) whole = broken size left rest result breaks whole

-- At most 4,096 bytes are read of a request, unless its body breaks off.
pub reads_few : (rules : RulesShown) (v : VisitShown) (wanted : List ℕ → Result Asked VisitFault) (left rest : Option (List ℕ))
    (result : Result Wanted VisitFault) → Answers (body_size rules v) wanted left rest result → (result ≡ Err Cut → ⊥)
    → ReadsFew left rest
reads_few rules v wanted left rest result answers whole =
    read_few (body_size rules v) wanted left rest result (sized_few rules v) answers whole
