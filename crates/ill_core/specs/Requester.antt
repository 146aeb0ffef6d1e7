-- Defines the record of a requester in a transaction, and its rules (this profile's own).
use Rattle.std.specs.Prelude.{◌≡◌, ℕ, Bool, true, not, ◌&&◌, List, [], ◌∷◌, take, Option, is_some}
use Rattle.std.specs.List.{list_all}
use Rattle.ill_values.specs.Day.{Date}
use Rattle.ill_values.specs.TxnId.{Qualifiers}
use Rattle.ill_values.specs.declared.apdu.Apdu.{Apdu}
use Rattle.ill_core.specs.declared.state.State.{State}
use Rattle.ill_core.specs.declared.state.State.TheVariants.{Idle, Pending, InProcess, Conditional, CancelPending, Cancelled}
use Rattle.ill_core.specs.declared.state.State.TheVariants.{Shipped, Received, RenewPending, Overdue, RenewOverdue}
use Rattle.ill_core.specs.declared.state.State.TheVariants.{NotReceivedOverdue, Recall, Returned, CheckedIn}
use Rattle.ill_core.specs.declared.requester.standing.Standing.{Standing}
use Rattle.ill_core.specs.State.{is_among}
use Rattle.ill_core.specs.Rules.{implies, are_alike}
use Rattle.ill_values.specs.Bodies.{declines, is_requesters, is_ill_request, is_cancel, is_received, is_renew, is_returned}
use Rattle.ill_core.specs.Issued.{is_none, are_numbered, has_message_with, last_of, number_of_cancel, number_of_renew}
use Rattle.ill_core.specs.Issued.{accepted_in}

-- The record of a requester in a transaction, with all APDUs that it has issued.
pub record RequesterRecord : Type 0 where
  pub txn : Qualifiers
  pub state : State
  pub held : Option ℕ  -- The number of the ILL-Answer with the conditions that are held.
  pub checked_in : Bool  -- The responder has said that the item is back.
  pub due : Option Date
  pub issued : List Apdu

-- Returns the requester's record with these parts.
abbrev pub requester_of : Qualifiers → State → Option ℕ → Bool → Option Date → List Apdu →
    RequesterRecord
requester_of txn state held checked_in due issued =
    record {
      txn = txn;
      state = state;
      held = held;
      checked_in = checked_in;
      due = due;
      issued = issued;
    }

-- Returns the standing of a requester: the parts that a row changes, without the list.
abbrev pub standing_of : RequesterRecord → Standing
standing_of x = record { state = x.state; held = x.held; checked_in = x.checked_in; due = x.due }

-- Returns record `x` with the parts of standing `s` and the first `count` of its messages.
abbrev pub back_to : Standing → ℕ → RequesterRecord → RequesterRecord
back_to s count x = requester_of x.txn s.state s.held s.checked_in s.due (take count x.issued)

-- Returns the number that the last Conditional-Reply yes answers, or `None`.
abbrev pub accepted_number : RequesterRecord → Option ℕ
accepted_number x = last_of accepted_in x.issued

-- Returns true if the requester is in CONDITIONAL and has issued a Conditional-Reply no.
abbrev pub is_declined : RequesterRecord → Bool
is_declined x = is_among (Conditional ∷ []) x.state && has_message_with declines x.issued

-- Returns true if the requester has issued a Received.
abbrev pub is_received_by : RequesterRecord → Bool
is_received_by x = has_message_with is_received x.issued

-- Returns the number of the last Cancel in the list, or `None`.
abbrev pub last_cancel : RequesterRecord → Option ℕ
last_cancel x = last_of number_of_cancel x.issued

-- Returns the number of the last Renew in the list, or `None`.
abbrev pub last_renew : RequesterRecord → Option ℕ
last_renew x = last_of number_of_renew x.issued

-- Lists the requester's states from SHIPPED on.
abbrev pub later : List State
later =
    Shipped ∷ Received ∷ RenewPending ∷ Overdue ∷ RenewOverdue ∷ NotReceivedOverdue ∷ Recall
    ∷ Returned ∷ []

-- Returns true if the list is empty, or its first APDU and no other is an ILL-Request.
abbrev pub begins_with_request : List Apdu → Bool
begins_with_request [] = true
begins_with_request (a ∷ apdus) = is_ill_request a.body && not (has_message_with is_ill_request apdus)

-- Returns true if `state` is a requester's, and the parts fit it. Conditions are held exactly in CONDITIONAL. A due
-- date is there exactly in SHIPPED or later. The checked-in mark is set only in RETURNED.
abbrev pub parts_fit : State → Bool → Bool → Bool → Bool
parts_fit state is_held is_due is_marked =
    not (is_among (InProcess ∷ CheckedIn ∷ []) state)
    && (are_alike is_held (is_among (Conditional ∷ []) state)
    && (are_alike is_due (is_among later state)
    && implies is_marked (is_among (Returned ∷ []) state)))

-- Returns true if `has_received`, which says that the list has a Received, fits `state`. RECEIVED, RENEW/PENDING,
-- OVERDUE, RENEW/OVERDUE and RETURNED require a Received. Beside these states, only RECALL permits one.
abbrev pub received_fits : State → Bool → Bool
received_fits state has_received =
    implies (is_among (Received ∷ RenewPending ∷ Overdue ∷ RenewOverdue ∷ Returned ∷ []) state)
    has_received
    && implies has_received
    (is_among (Received ∷ RenewPending ∷ Overdue ∷ RenewOverdue ∷ Recall ∷ Returned ∷ []) state)

-- Returns true if the list has a Cancel, or `state` is neither CANCEL-PENDING nor CANCELLED.
abbrev pub cancel_fits : State → Bool → Bool
cancel_fits state has_cancel = implies (is_among (CancelPending ∷ Cancelled ∷ []) state) has_cancel

-- Returns true if the list has a Renew, or `state` is neither RENEW/PENDING nor RENEW/OVERDUE.
abbrev pub renew_fits : State → Bool → Bool
renew_fits state has_renew = implies (is_among (RenewPending ∷ RenewOverdue ∷ []) state) has_renew

-- Returns true if the list has no Conditional-Reply no, or `state` is none of PENDING, CANCEL-PENDING and CANCELLED.
abbrev pub declined_fits : State → Bool → Bool
declined_fits state has_no =
    implies has_no (not (is_among (Pending ∷ CancelPending ∷ Cancelled ∷ []) state))

-- Returns true if the list fits `state`. It is empty exactly in IDLE, and has a Returned exactly in RETURNED. Its
-- Received, Cancel, Renew and Conditional-Reply no fit `state`, too.
abbrev pub issued_fits : State → List Apdu → Bool
issued_fits state issued =
    are_alike (is_none issued) (is_among (Idle ∷ []) state)
    && (received_fits state (has_message_with is_received issued)
    && (cancel_fits state (has_message_with is_cancel issued)
    && (renew_fits state (has_message_with is_renew issued)
    && (are_alike (has_message_with is_returned issued) (is_among (Returned ∷ []) state)
    && declined_fits state (has_message_with declines issued)))))

-- Returns true if the list satisfies the rules of a requester. A requester issues each of its types, the first APDU
-- alone is an ILL-Request, and the list fits `state`.
abbrev pub issued_keeps_rules : State → List Apdu → Bool
issued_keeps_rules state issued =
    list_all (λ a. is_requesters a.body) issued
    && (begins_with_request issued && issued_fits state issued)

-- Returns true if a record satisfies the rules of a requester. Its messages are numbered from 1 on, and its parts and
-- its list fit its state.
unfoldable pub is_consistent : RequesterRecord → Bool
is_consistent x =
    are_numbered x.txn 1 x.issued
    && (parts_fit x.state (is_some x.held) (is_some x.due) x.checked_in
    && issued_keeps_rules x.state x.issued)

-- The record `x` satisfies the rules of a requester.
abbrev pub IsRequester : RequesterRecord → Type 0
IsRequester x = is_consistent x ≡ true
