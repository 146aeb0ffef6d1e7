-- Defines the record of a responder in a transaction, and its rules (this profile's own).
use Rattle.std.specs.Prelude.{◌≡◌, ℕ, Bool, true, not, ◌&&◌, ◌||◌, ◌==◌, List, [], ◌∷◌, length, take, Option, Some, None, is_some}
use Rattle.std.specs.Prelude.{if◌then◌else◌}
use Rattle.std.specs.List.{list_all, filter_map, count_by}
use Rattle.ill_values.specs.Day.{Date}
use Rattle.ill_values.specs.TxnId.{Qualifiers}
use Rattle.ill_values.specs.declared.apdu.Apdu.{Apdu}
use Rattle.ill_core.specs.declared.state.State.{State}
use Rattle.ill_core.specs.declared.state.State.TheVariants.{Idle, Pending, Conditional, CancelPending, Cancelled, Shipped}
use Rattle.ill_core.specs.declared.state.State.TheVariants.{Received, RenewPending, Overdue, RenewOverdue, NotReceivedOverdue}
use Rattle.ill_core.specs.declared.state.State.TheVariants.{Recall, Returned, CheckedIn}
use Rattle.ill_core.specs.declared.responder.standing.Standing.{Standing}
use Rattle.ill_core.specs.State.{is_among}
use Rattle.ill_core.specs.Dates.{is_after_due}
use Rattle.ill_core.specs.Rules.{implies, are_alike}
use Rattle.ill_values.specs.Bodies.{is_requesters, is_ill_request, is_shipped, is_checked_in, names_conditions, is_renewal}
use Rattle.ill_core.specs.Issued.{are_numbered, is_same_txn, has_message_with, is_message_with, last_of, is_none, granted_day}
use Rattle.ill_core.specs.Issued.{number_of_end}

-- The record of a responder in a transaction, with the request and all APDUs that it has issued.
pub record ResponderRecord : Type 0 where
  pub txn : Qualifiers
  pub state : State
  pub accepted : Option ℕ  -- The number of the conditions that were accepted last.
  pub last_cancel : Option ℕ  -- The number of the last Cancel taken.
  pub last_renew : Option ℕ  -- The number of the last Renew taken.
  pub received : Bool  -- The responder has taken a Received.
  pub request : Option Apdu
  pub issued : List Apdu

-- Returns the responder's record with these parts.
abbrev pub responder_of : Qualifiers → State → Option ℕ → Option ℕ → Option ℕ → Bool → Option Apdu →
    List Apdu → ResponderRecord
responder_of txn state accepted last_cancel last_renew received request issued =
    record {
      txn = txn;
      state = state;
      accepted = accepted;
      last_cancel = last_cancel;
      last_renew = last_renew;
      received = received;
      request = request;
      issued = issued;
    }

-- Returns the standing of a responder: its record without the transaction, the request and the list.
abbrev pub standing_of : ResponderRecord → Standing
standing_of y =
    record {
      state = y.state;
      accepted = y.accepted;
      last_cancel = y.last_cancel;
      last_renew = y.last_renew;
      received = y.received;
    }

-- Returns the request of a responder in `state`: none in IDLE, and else `request`.
abbrev pub request_in : State → Option Apdu → Option Apdu
request_in state request = if is_among (Idle ∷ []) state then None else request

-- Returns record `y` with the parts of standing `s` and the first `count` of its messages.
abbrev pub back_to : Standing → ℕ → ResponderRecord → ResponderRecord
back_to s count y =
    responder_of y.txn s.state s.accepted s.last_cancel s.last_renew s.received
    (request_in s.state y.request) (take count y.issued)

-- Returns the due date, which is the date of the last Shipped or Renew-Answer yes, or `None`.
abbrev pub due_of : ResponderRecord → Option Date
due_of y = last_of granted_day y.issued

-- Returns the number of the last APDU that ends the request, or `None`.
abbrev pub end_number : ResponderRecord → Option ℕ
end_number y = last_of number_of_end y.issued

-- Returns the number of the conditions that wait for an answer. In CONDITIONAL it is the number of the last APDU, else
-- `None`.
abbrev pub outstanding_number : ResponderRecord → Option ℕ
outstanding_number y =
    if is_among (Conditional ∷ []) y.state
    then (if is_none y.issued then None else Some (length y.issued))
    else None

-- Lists the responder's states from SHIPPED on.
abbrev pub later : List State
later = Shipped ∷ RenewPending ∷ Overdue ∷ RenewOverdue ∷ Recall ∷ Returned ∷ CheckedIn ∷ []

-- Returns true if the new date is absent, or `last` is absent, or the new date is after `last`.
abbrev pub is_after_last : Option Date → Option Date → Bool
is_after_last last None = true
is_after_last last (Some d) = not (is_some last) || is_after_due d last

-- Returns true if each date is after the one before it. If there is a `last`, the first date must be after `last`.
unfoldable pub rise_from : Option Date → List Date → Bool
rise_from last [] = true
rise_from last (d ∷ dates) = is_after_last last (Some d) && rise_from (Some d) dates

-- Returns true if each date is after the one before it.
abbrev pub are_rising : List Date → Bool
are_rising dates = rise_from None dates

-- Returns true if a Shipped comes before each Renew-Answer yes.
unfoldable pub ships_first : List Apdu → Bool
ships_first [] = true
ships_first (a ∷ apdus) = is_shipped a.body || (not (is_renewal a.body) && ships_first apdus)

-- Returns true if the last APDU is an ILL-Answer conditional.
abbrev pub ends_with_conditions : List Apdu → Bool
ends_with_conditions apdus = is_message_with names_conditions apdus (length apdus)

-- Returns true if there is no number, or the message with this number is an ILL-Answer conditional.
abbrev pub is_named : Option ℕ → List Apdu → Bool
is_named None apdus = true
is_named (Some c) apdus = is_message_with names_conditions apdus c

-- Returns true if there is no request, or it is an ILL-Request of `txn`.
abbrev pub is_request_of : Qualifiers → Option Apdu → Bool
is_request_of txn None = true
is_request_of txn (Some a) = is_same_txn a.txn txn && is_ill_request a.body

-- Returns true if `state` is not IDLE, or the responder has no number, no mark and no message.
abbrev pub idle_fits : State → Bool → Bool → Bool → Bool → Bool → Bool
idle_fits state has_accepted has_cancel has_renew is_marked none =
    implies (is_among (Idle ∷ []) state)
    (not has_accepted && (not has_cancel && (not has_renew && (not is_marked && none))))

-- Returns true if `state` is a responder's, and the parts fit it. A request is there exactly outside IDLE. The received
-- mark is set only in SHIPPED or later. CANCEL-PENDING and CANCELLED require a last Cancel, RENEW/PENDING and
-- RENEW/OVERDUE a last Renew.
abbrev pub parts_fit : State → Bool → Bool → Bool → Bool → Bool → Bool → Bool
parts_fit state has_request has_accepted has_cancel has_renew is_marked none =
    not (is_among (Pending ∷ Received ∷ NotReceivedOverdue ∷ []) state)
    && (are_alike has_request (not (is_among (Idle ∷ []) state))
    && (idle_fits state has_accepted has_cancel has_renew is_marked none
    && (implies is_marked (is_among later state)
    && (implies (is_among (CancelPending ∷ Cancelled ∷ []) state) has_cancel
    && implies (is_among (RenewPending ∷ RenewOverdue ∷ []) state) has_renew))))

-- Returns true if the list fits `state`. It has one Shipped in SHIPPED or later, and else none. It has a Checked-In
-- exactly in CHECKED-IN. In CONDITIONAL it ends with conditions.
abbrev pub issued_fits : State → List Apdu → Bool
issued_fits state apdus =
    (count_by (λ a. is_shipped a.body) apdus == (if is_among later state then 1 else 0))
    && (are_alike (has_message_with is_checked_in apdus) (is_among (CheckedIn ∷ []) state)
    && implies (is_among (Conditional ∷ []) state) (ends_with_conditions apdus))

-- Returns true if the list satisfies the rules of a responder. A responder issues each of its types, and the list fits
-- `state`. The accepted conditions are in it. The due dates rise, and a Shipped comes before each renewal.
abbrev pub issued_keeps_rules : State → Option ℕ → List Apdu → Bool
issued_keeps_rules state accepted apdus =
    list_all (λ a. not (is_requesters a.body)) apdus
    && (issued_fits state apdus
    && (is_named accepted apdus
    && (are_rising (filter_map granted_day apdus) && ships_first apdus)))

-- Returns true if a record satisfies the rules of a responder. Its messages are numbered from 1 on. Its request belongs
-- to the transaction, and its parts and its list fit its state.
unfoldable pub is_consistent : ResponderRecord → Bool
is_consistent y =
    are_numbered y.txn 1 y.issued
    && (is_request_of y.txn y.request
    && (parts_fit y.state (is_some y.request) (is_some y.accepted) (is_some y.last_cancel)
    (is_some y.last_renew) y.received (is_none y.issued)
    && issued_keeps_rules y.state y.accepted y.issued))

-- The record `y` satisfies the rules of a responder.
abbrev pub IsResponder : ResponderRecord → Type 0
IsResponder y = is_consistent y ≡ true
