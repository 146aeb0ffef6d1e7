-- Proves statements on the transitions of a table of actions, of either role.
use Rattle.std.proofs.Common.{rules, arith, ◌≡◌, ℕ, ◌≤◌, Bool, true, false, List, [], ◌∷◌, length, length-append, Result, Ok, Err}
use Rattle.std.proofs.Common.{if◌then◌else◌, refl, subst}
use Rattle.ill_values.specs.TxnId.{Qualifiers}
use Rattle.ill_values.specs.declared.apdu.Apdu.{Apdu}
use Rattle.ill_values.specs.Body.{Body}
use Rattle.ill_core.specs.declared.refusal.Refusal.{Refusal}
use Rattle.ill_core.specs.Issued.{next_apdu, next_number, with_next}
use Rattle.ill_core.proofs.IssuedLemmas.{next_of}

-- If two transitions are equal as results, they are equal.
pub transition_is : {R : Type 0} (here row : R) → ◌≡◌ {A = Result R Refusal} (Ok here) (Ok row) → here ≡ row
transition_is here row e = search rules

-- A choice by `is_here` between `here` and `others` gives `row`. If `P` holds of `row` whenever `here` gives it, and
-- whenever `others` gives it, `P` holds of `row`.
pub at_transition : {R : Type 0} (P : R → Type 0) (is_here : Bool) (here others : Result R Refusal) (row : R)
    → (is_here ≡ true → here ≡ Ok row → P row) → (others ≡ Ok row → P row)
    → (if is_here then here else others) ≡ Ok row → P row
at_transition P true here others row leads after e = leads refl e
at_transition P false here others row leads after e = after e

-- If `P` holds of the transition `here`, it holds of each `row` that is equal to it as a result.
pub is_this : {R : Type 0} (P : R → Type 0) (here row : R) → P here → ◌≡◌ {A = Result R Refusal} (Ok here) (Ok row) → P row
is_this P here row there e = subst P (transition_is here row e) there

-- A refusal is not a transition, so any statement holds after the last transition.
pub no_more : {R : Type 0} (P : R → Type 0) (refusal : Refusal) (row : R) → Err refusal ≡ Ok row → P row
no_more P refusal row e = search rules

-- ---- numbers

-- If a number is left, the list with the next APDU has at most 255 APDUs.
pub few_with_next : (txn : Qualifiers) (apdus : List Apdu) (body : Body) (number : ℕ) → next_number apdus ≡ Ok number
    → length (with_next txn apdus body) ≤ 255
few_with_next txn apdus body number left =
    omega (arith, (next_of (length apdus) number left).1, length-append apdus (next_apdu txn apdus body ∷ []))
