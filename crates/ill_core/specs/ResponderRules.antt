-- Splits the invariant `is_consistent` of a responder's record into its rules, one field for each.
use Rattle.std.specs.Prelude.{◌≡◌, Bool, true, false, not, ◌&&◌, List, [], ◌∷◌, is_some, if◌then◌else◌}
use Rattle.std.specs.List.{list_all, filter_map, count_by}
use Rattle.ill_values.specs.declared.apdu.Apdu.{Apdu}
use Rattle.ill_core.specs.declared.state.State.{State}
use Rattle.ill_core.specs.declared.state.State.TheVariants.{Idle, Pending, Conditional, CancelPending, Cancelled, Received}
use Rattle.ill_core.specs.declared.state.State.TheVariants.{RenewPending, RenewOverdue, NotReceivedOverdue, CheckedIn}
use Rattle.ill_core.specs.State.{is_among}
use Rattle.ill_core.specs.Rules.{implies}
use Rattle.ill_values.specs.Bodies.{is_requesters, is_shipped, is_checked_in}
use Rattle.ill_core.specs.Issued.{are_numbered, has_message_with, is_none, granted_day}
use Rattle.ill_core.specs.Responder.{ResponderRecord, later, are_rising, ships_first, ends_with_conditions, is_named}
use Rattle.ill_core.specs.Responder.{is_request_of}

-- The state is a responder's, and the parts of the record fit it. Each test says that a part is there. `is_marked` says
-- that the received mark is set, and `none` that the list is empty.
pub record PartsFit (state : State) (has_request has_accepted has_cancel has_renew is_marked none : Bool)
    : Type 0 where
  pub role : is_among (Pending ∷ Received ∷ NotReceivedOverdue ∷ []) state ≡ false
  pub idle : has_request ≡ not (is_among (Idle ∷ []) state)
  pub empty : implies (is_among (Idle ∷ []) state)
      (not has_accepted && (not has_cancel && (not has_renew && (not is_marked && none)))) ≡ true
  pub marked : implies is_marked (is_among later state) ≡ true
  pub cancel : implies (is_among (CancelPending ∷ Cancelled ∷ []) state) has_cancel ≡ true
  pub renew : implies (is_among (RenewPending ∷ RenewOverdue ∷ []) state) has_renew ≡ true

-- The list `apdus` fits `state`. It has one Shipped in SHIPPED or later, and else none. It has a Checked-In exactly in
-- CHECKED-IN. In CONDITIONAL it ends with conditions.
pub record IssuedFits (state : State) (apdus : List Apdu) : Type 0 where
  pub shipped : count_by (λ a. is_shipped a.body) apdus ≡ (if is_among later state then 1 else 0)
  pub checked_in : has_message_with is_checked_in apdus ≡ is_among (CheckedIn ∷ []) state
  pub conditions : implies (is_among (Conditional ∷ []) state) (ends_with_conditions apdus) ≡ true

-- The record `y` satisfies all rules of a responder.
pub record ResponderRules (y : ResponderRecord) : Type 0 where
  pub numbered : are_numbered y.txn 1 y.issued ≡ true
  pub role : list_all (λ a. not (is_requesters a.body)) y.issued ≡ true
  pub request : is_request_of y.txn y.request ≡ true
  pub parts : PartsFit y.state (is_some y.request) (is_some y.accepted) (is_some y.last_cancel)
      (is_some y.last_renew) y.received (is_none y.issued)
  pub issued : IssuedFits y.state y.issued
  pub accepted : is_named y.accepted y.issued ≡ true
  pub rising : are_rising (filter_map granted_day y.issued) ≡ true
  pub ships_first : ships_first y.issued ≡ true
