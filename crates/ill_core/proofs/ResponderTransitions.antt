-- Lists the transitions of a responder's table of actions, and proves that each deed has one of them.
use Rattle.std.proofs.Common.{rules, ◌≡◌, Bool, true, false, [], ◌∷◌, Some, None, Ok, refl, subst}
use Rattle.std.specs.Option.{unwrap_or}
use Rattle.ill_values.specs.Day.{Date}
use Rattle.ill_values.specs.declared.apdu.BodyWith.TheVariants as types
use Rattle.ill_values.specs.declared.apdu.AnswerResult.{AnswerResult}
use Rattle.ill_core.specs.declared.state.State.TheVariants.{InProcess, Conditional, CancelPending, Cancelled, NotSupplied}
use Rattle.ill_core.specs.declared.state.State.TheVariants.{Shipped, RenewPending, Overdue, RenewOverdue, Recall, Returned}
use Rattle.ill_core.specs.declared.state.State.TheVariants.{CheckedIn}
use Rattle.ill_core.specs.declared.refusal.Refusal.{Refusal}
use Rattle.ill_core.specs.declared.responder.Deed.{Deed}
use Rattle.ill_core.specs.declared.responder.Deed.TheVariants as deeds
use Rattle.ill_core.specs.State.{is_among}
use Rattle.ill_core.specs.Dates.{is_after_due}
use Rattle.ill_core.specs.Responder.{ResponderRecord, due_of}
use Rattle.ill_core.specs.ResponderActions.{Transition, after_answer, if_allowed, no_date, transition_of}
use Rattle.ill_core.proofs.TransitionLemmas.{transition_is, at_transition, is_this, no_more}

-- The transition is one of those of a responder's deeds. Each has the states before, the state after and the APDU.
pub data IsTransition (y : ResponderRecord) : Transition → Type 0 where
  answers : (answer : AnswerResult) → is_among (InProcess ∷ []) y.state ≡ true
      → IsTransition y (record { next = after_answer answer; body = types.IllAnswer answer })
  allows_cancel : is_among (CancelPending ∷ []) y.state ≡ true
      → IsTransition y (record { next = Cancelled; body = types.CancelReply (unwrap_or y.last_cancel 0) true })
  refuses_cancel : is_among (CancelPending ∷ []) y.state ≡ true
      → IsTransition y (record { next = InProcess; body = types.CancelReply (unwrap_or y.last_cancel 0) false })
  ships : (due : Date) → is_among (InProcess ∷ []) y.state ≡ true
      → IsTransition y (record { next = Shipped; body = types.Shipped due })
  renews : (due : Date) → is_among (RenewPending ∷ RenewOverdue ∷ []) y.state ≡ true → is_after_due due (due_of y) ≡ true
      → IsTransition y (record { next = Shipped; body = types.RenewAnswer (unwrap_or y.last_renew 0) (Some due) })
  refuses_renewal : is_among (RenewPending ∷ []) y.state ≡ true
      → IsTransition y (record { next = Shipped; body = types.RenewAnswer (unwrap_or y.last_renew 0) None })
  refuses_late : is_among (RenewOverdue ∷ []) y.state ≡ true
      → IsTransition y (record { next = Overdue; body = types.RenewAnswer (unwrap_or y.last_renew 0) None })
  reminds : is_among (Shipped ∷ []) y.state ≡ true
      → IsTransition y (record { next = Overdue; body = types.Overdue (unwrap_or (due_of y) no_date) })
  reminds_renewing : is_among (RenewPending ∷ []) y.state ≡ true
      → IsTransition y (record { next = RenewOverdue; body = types.Overdue (unwrap_or (due_of y) no_date) })
  recalls : is_among (Shipped ∷ Overdue ∷ []) y.state ≡ true → IsTransition y (record { next = Recall; body = types.Recall })
  checks_in : is_among (Returned ∷ []) y.state ≡ true → IsTransition y (record { next = CheckedIn; body = types.CheckedIn })
  expires : is_among (InProcess ∷ Conditional ∷ []) y.state ≡ true
      → IsTransition y (record { next = NotSupplied; body = types.Expired })

-- If `P` holds of `here` when `is_allowed` is true, `P` holds of the `transition` that `if_allowed` gives.
allowed : (P : Transition → Type 0) (is_allowed : Bool) (refusal : Refusal) (here transition : Transition)
    → (is_allowed ≡ true → P here) → if_allowed is_allowed refusal (Ok here) ≡ Ok transition → P transition
allowed P true refusal here transition there e = subst P (transition_is here transition e) (there refl)
allowed P false refusal here transition there e = search rules

-- RENEW/PENDING is one of RENEW/PENDING and RENEW/OVERDUE.
one_of_renewing : (y : ResponderRecord) → is_among (RenewPending ∷ []) y.state ≡ true
    → is_among (RenewPending ∷ RenewOverdue ∷ []) y.state ≡ true
one_of_renewing y is = search rules

-- RENEW/OVERDUE is one of RENEW/PENDING and RENEW/OVERDUE.
other_renewing : (y : ResponderRecord) → is_among (RenewOverdue ∷ []) y.state ≡ true
    → is_among (RenewPending ∷ RenewOverdue ∷ []) y.state ≡ true
other_renewing y is = search rules

-- The transition of each deed satisfies `IsTransition`. Each case follows the tests of `transition_of`, one by one.
pub is_transition : (y : ResponderRecord) (deed : Deed) (today : Date) (transition : Transition)
    → transition_of y deed today ≡ Ok transition → IsTransition y transition
is_transition y (deeds.Answer answer) today transition =
    at_transition (IsTransition y) (is_among (InProcess ∷ []) y.state) _ _ transition
    (λ is. is_this (IsTransition y) _ transition (answers answer is)) (no_more (IsTransition y) _ transition)
is_transition y (deeds.CancelReply true) today transition =
    at_transition (IsTransition y) (is_among (CancelPending ∷ []) y.state) _ _ transition
    (λ is. is_this (IsTransition y) _ transition (allows_cancel is)) (no_more (IsTransition y) _ transition)
is_transition y (deeds.CancelReply false) today transition =
    at_transition (IsTransition y) (is_among (CancelPending ∷ []) y.state) _ _ transition
    (λ is. is_this (IsTransition y) _ transition (refuses_cancel is)) (no_more (IsTransition y) _ transition)
is_transition y (deeds.Ship due) today transition =
    at_transition (IsTransition y) (is_among (InProcess ∷ []) y.state) _ _ transition
    (λ is. allowed (IsTransition y) _ _ _ transition (λ _. ships due is)) (no_more (IsTransition y) _ transition)
is_transition y (deeds.RenewAnswer (Some due)) today transition =
    at_transition (IsTransition y) (is_among (RenewPending ∷ []) y.state) _ _ transition
    (λ is. allowed (IsTransition y) _ _ _ transition (renews due (one_of_renewing y is))) (
    at_transition (IsTransition y) (is_among (RenewOverdue ∷ []) y.state) _ _ transition
    (λ is. allowed (IsTransition y) _ _ _ transition (renews due (other_renewing y is)))
    (no_more (IsTransition y) _ transition))
is_transition y (deeds.RenewAnswer None) today transition =
    at_transition (IsTransition y) (is_among (RenewPending ∷ []) y.state) _ _ transition
    (λ is. is_this (IsTransition y) _ transition (refuses_renewal is)) (
    at_transition (IsTransition y) (is_among (RenewOverdue ∷ []) y.state) _ _ transition
    (λ is. is_this (IsTransition y) _ transition (refuses_late is)) (no_more (IsTransition y) _ transition))
is_transition y deeds.Overdue today transition =
    at_transition (IsTransition y) (is_among (Shipped ∷ []) y.state) _ _ transition
    (λ is. allowed (IsTransition y) _ _ _ transition (λ _. reminds is)) (
    at_transition (IsTransition y) (is_among (RenewPending ∷ []) y.state) _ _ transition
    (λ is. allowed (IsTransition y) _ _ _ transition (λ _. reminds_renewing is)) (no_more (IsTransition y) _ transition))
is_transition y deeds.Recall today transition =
    at_transition (IsTransition y) (is_among (Shipped ∷ Overdue ∷ []) y.state) _ _ transition
    (λ is. is_this (IsTransition y) _ transition (recalls is)) (no_more (IsTransition y) _ transition)
is_transition y deeds.CheckIn today transition =
    at_transition (IsTransition y) (is_among (Returned ∷ []) y.state) _ _ transition
    (λ is. is_this (IsTransition y) _ transition (checks_in is)) (no_more (IsTransition y) _ transition)
is_transition y deeds.Expire today transition =
    at_transition (IsTransition y) (is_among (InProcess ∷ Conditional ∷ []) y.state) _ _ transition
    (λ is. allowed (IsTransition y) _ _ _ transition (λ _. expires is)) (no_more (IsTransition y) _ transition)
