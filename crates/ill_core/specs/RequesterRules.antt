-- Splits the invariant `is_consistent` of a requester's record into its rules, one field for each.
use Rattle.std.specs.Prelude.{◌≡◌, Bool, true, false, not, List, [], ◌∷◌, is_some}
use Rattle.std.specs.List.{list_all}
use Rattle.ill_values.specs.declared.apdu.Apdu.{Apdu}
use Rattle.ill_core.specs.declared.state.State.{State}
use Rattle.ill_core.specs.declared.state.State.TheVariants.{Idle, Pending, InProcess, Conditional, CancelPending, Cancelled}
use Rattle.ill_core.specs.declared.state.State.TheVariants.{Received, RenewPending, Overdue, RenewOverdue, Recall, Returned}
use Rattle.ill_core.specs.declared.state.State.TheVariants.{CheckedIn}
use Rattle.ill_core.specs.State.{is_among}
use Rattle.ill_core.specs.Rules.{implies}
use Rattle.ill_values.specs.Bodies.{declines, is_requesters, is_cancel, is_received, is_renew, is_returned}
use Rattle.ill_core.specs.Issued.{is_none, are_numbered, has_message_with}
use Rattle.ill_core.specs.Requester.{RequesterRecord, later, begins_with_request}

-- The state is a requester's, and the parts of the record fit it. `is_held` says that conditions are held, and `is_due`
-- that there is a due date. `is_marked` says that the checked-in mark is set.
pub record PartsFit (state : State) (is_held is_due is_marked : Bool) : Type 0 where
  pub role : is_among (InProcess ∷ CheckedIn ∷ []) state ≡ false
  pub held : is_held ≡ is_among (Conditional ∷ []) state
  pub due : is_due ≡ is_among later state
  pub checked_in : implies is_marked (is_among (Returned ∷ []) state) ≡ true

-- The list fits the state. `none` says that the list is empty, and `has_no` that it has a Conditional-Reply no. Each
-- other test says that the list has an APDU of the type in its name.
pub record IssuedFit (state : State) (none has_received has_cancel has_renew has_returned has_no : Bool)
    : Type 0 where
  pub idle : none ≡ is_among (Idle ∷ []) state
  pub received : implies
      (is_among (Received ∷ RenewPending ∷ Overdue ∷ RenewOverdue ∷ Returned ∷ []) state)
      has_received ≡ true
  pub not_received : implies has_received
      (is_among (Received ∷ RenewPending ∷ Overdue ∷ RenewOverdue ∷ Recall ∷ Returned ∷ []) state)
      ≡ true
  pub cancel : implies (is_among (CancelPending ∷ Cancelled ∷ []) state) has_cancel ≡ true
  pub renew : implies (is_among (RenewPending ∷ RenewOverdue ∷ []) state) has_renew ≡ true
  pub returned : has_returned ≡ is_among (Returned ∷ []) state
  pub declined : implies has_no
      (not (is_among (Pending ∷ CancelPending ∷ Cancelled ∷ []) state)) ≡ true

-- The list `issued` fits `state`.
abbrev pub IssuedFits : State → List Apdu → Type 0
IssuedFits state issued =
    IssuedFit state (is_none issued) (has_message_with is_received issued) (has_message_with is_cancel issued)
    (has_message_with is_renew issued) (has_message_with is_returned issued) (has_message_with declines issued)

-- The record `x` satisfies all rules of a requester.
pub record RequesterRules (x : RequesterRecord) : Type 0 where
  pub numbered : are_numbered x.txn 1 x.issued ≡ true
  pub role : list_all (λ a. is_requesters a.body) x.issued ≡ true
  pub request : begins_with_request x.issued ≡ true
  pub parts : PartsFit x.state (is_some x.held) (is_some x.due) x.checked_in
  pub issued : IssuedFits x.state x.issued
