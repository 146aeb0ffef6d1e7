-- Proves that a text is read as a value if, and only if, it is the name of that value.
use Rattle.std.proofs.Common.{◌≡◌, ℕ, Bool, true, false, cond, List, [], ◌∷◌, Option, Some, refl, sym, ap, subst, ◌∙◌, ◌⊎◌, inl}
use Rattle.std.proofs.Common.{inr, ◌↔◌}
use Rattle.std.specs.Str.{bytes_eq}
use Rattle.std.proofs.lemmas.Slice.Eq.{bytes_eq-Decides}
use Rattle.std.proofs.lemmas.Option.{same_Some}
use Rattle.ill_values.specs.declared.apdu.AnswerResult.{AnswerResult}
use Rattle.ill_values.specs.declared.apdu.AnswerResult.TheVariants.{Conditional, Retry, Unfilled, LocationsProvided, WillSupply}
use Rattle.ill_values.specs.declared.apdu.AnswerResult.TheVariants.{HoldPlaced, Estimate}
use Rattle.ill_values.specs.declared.apdu_type.ApduType.{ApduType}
use Rattle.ill_values.specs.declared.apdu_type.ApduType.TheVariants as types
use Rattle.ill_values.specs.Names.{named_by}
use Rattle.ill_values.specs.Results.{result_name, result_named}
use Rattle.ill_values.specs.Types.{apdu_type_name, apdu_type_named}

-- If `cond b (Some a) others` is `Some x`, `b` is true and `a` is `x`, or `others` is `Some x`.
found_first : {A : Type 0} (b : Bool) (a : A) (others : Option A) (x : A) → cond b (Some a) others ≡ Some x
    → ((b ≡ true) × (a ≡ x)) ⊎ (others ≡ Some x)
found_first true a others x e = inl (refl, same_Some a x e)
found_first false a others x e = inr e

-- If `text` is read as `x`, it is the name of `x`.
name_found : {A : Type 0} (name_of : A → List ℕ) (all : List A) (text : List ℕ) (x : A)
    → named_by name_of all text ≡ Some x → text ≡ name_of x
name_found name_of [] text x e = absurd cc
name_found name_of (a ∷ all) text x e =
    elim (found_first (bytes_eq (name_of a) text) a (named_by name_of all text) x e) [
      | inl h ↦ sym ((bytes_eq-Decides (name_of a) text).0 h.0) ∙ ap name_of h.1
      | inr h ↦ name_found name_of all text x h
    ]

-- Let the name of each value be read as that value. Then `text` is read as `x` if, and only if, it is the name of `x`.
pub named_exactly : {A : Type 0} (name_of : A → List ℕ) (all : List A) → ((x : A) → named_by name_of all (name_of x) ≡ Some x)
    → (text : List ℕ) (x : A) → (named_by name_of all text ≡ Some x) ↔ (text ≡ name_of x)
named_exactly name_of all again text x = (
  name_found name_of all text x,
  λ e. subst (λ (word : List ℕ). named_by name_of all word ≡ Some x) (sym e) (again x),
)

-- The name of a result is read as that result.
pub result_again : (answer : AnswerResult) → result_named (result_name answer) ≡ Some answer
result_again Conditional = refl
result_again Retry = refl
result_again Unfilled = refl
result_again LocationsProvided = refl
result_again WillSupply = refl
result_again HoldPlaced = refl
result_again Estimate = refl

-- The name of a type is read as that type.
pub apdu_type_again : (apdu_type : ApduType) → apdu_type_named (apdu_type_name apdu_type) ≡ Some apdu_type
apdu_type_again types.IllRequest = refl
apdu_type_again types.Shipped = refl
apdu_type_again types.IllAnswer = refl
apdu_type_again types.ConditionalReply = refl
apdu_type_again types.Cancel = refl
apdu_type_again types.CancelReply = refl
apdu_type_again types.Received = refl
apdu_type_again types.Recall = refl
apdu_type_again types.Returned = refl
apdu_type_again types.CheckedIn = refl
apdu_type_again types.Overdue = refl
apdu_type_again types.Renew = refl
apdu_type_again types.RenewAnswer = refl
apdu_type_again types.Expired = refl
