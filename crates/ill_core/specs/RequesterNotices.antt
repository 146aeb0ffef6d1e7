-- Defines the notices that a requester's record reflects, and the responder's APDUs that attest them. Then it defines
-- the APDUs that would not change the record (this profile's own).
use Rattle.std.specs.Prelude.{◌≡◌, ◌⊎◌, ℕ, ◌<◌, Bool, true, false, not, ◌&&◌, ◌||◌, List, [], ◌∷◌, length, Option, Some, None}
use Rattle.ill_values.specs.Day.{Date}
use Rattle.ill_values.specs.Body.{Body}
use Rattle.ill_values.specs.declared.apdu.BodyWith.TheVariants as types
use Rattle.ill_values.specs.declared.apdu.AnswerResult.TheVariants as results
use Rattle.ill_core.specs.declared.state.State.{State}
use Rattle.ill_core.specs.declared.state.State.TheVariants as states
use Rattle.ill_core.specs.State.{is_among}
use Rattle.ill_core.specs.Rules.{implies}
use Rattle.ill_core.specs.Dates.{is_same_day, is_due_on, is_before, is_after_due}
use Rattle.ill_core.specs.Numbers.{is_equal_number, is_at_most}
use Rattle.ill_values.specs.Bodies.{is_renew}
use Rattle.ill_core.specs.Issued.{is_message_with}
use Rattle.ill_core.specs.Requester.{RequesterRecord, accepted_number, last_cancel, last_renew}

-- ---- notices

-- A notice that a message of the responder may give.
pub data Notice : Type 0 where
  Recalled : Notice  -- The responder asks for the item.
  Named : (conditions : ℕ) → Notice  -- The responder named conditions with number `conditions`.
  -- The Renew with number `renew` was answered. The answer grants no date after `day`.
  Answered : (renew : ℕ) → (day : Date) → Notice
  -- A Shipped, or an answer to a Renew with a number below `renew`, grants the due date `due`.
  GrantedBefore : (renew : ℕ) → (due : Date) → Notice
  PastDue : (due : Date) → Notice  -- The item was not back after its due date `due`.

-- Returns true if `renew` is the last Renew, and waits for its answer.
abbrev pub is_awaiting_answer : RequesterRecord → ℕ → Bool
is_awaiting_answer x renew =
    is_among (states.RenewPending ∷ states.RenewOverdue ∷ []) x.state && is_equal_number renew (last_renew x)

-- Returns true if `cancel` is the last Cancel, and waits for its answer.
abbrev pub is_awaiting_cancel_reply : RequesterRecord → ℕ → Bool
is_awaiting_cancel_reply x cancel = is_among (states.CancelPending ∷ []) x.state && is_equal_number cancel (last_cancel x)

-- Returns true if there is a due date, and it is after `day`.
abbrev pub is_due_after : Date → Option Date → Bool
is_due_after day None = false
is_due_after day (Some due) = is_before day due

-- The record `x` reflects the notice.
abbrev pub Reflects : RequesterRecord → Notice → Type 0
Reflects x Recalled = x.state ≡ states.Recall
-- The conditions are held, or were accepted last.
Reflects x (Named conditions) = (x.held ≡ Some conditions) ⊎ (accepted_number x ≡ Some conditions)
-- The requester issued Renew `renew`, which waits no longer. The state is neither RECALL nor RETURNED, and the due date
-- is not after `day`.
Reflects x (Answered renew day) =
    (is_message_with is_renew x.issued renew ≡ true)
    × (is_among (states.Recall ∷ states.Returned ∷ []) x.state ≡ false)
    × (is_awaiting_answer x renew ≡ false) × (is_due_after day x.due ≡ false)
-- The due date is `due`. Renew `renew` waits for its answer, or is not issued yet.
Reflects x (GrantedBefore renew due) =
    (x.due ≡ Some due) × ((is_awaiting_answer x renew ≡ true) ⊎ (length x.issued < renew))
-- The due date is `due`, and the state says that the item is overdue.
Reflects x (PastDue due) =
    (x.due ≡ Some due)
    × (is_among (states.NotReceivedOverdue ∷ states.Overdue ∷ states.RenewOverdue ∷ []) x.state ≡ true)

-- An APDU with this number and body attests the notice.
abbrev pub Attests : ℕ → Body → Notice → Type 0
Attests number types.Recall Recalled = Unit {0}
Attests number (types.IllAnswer results.Conditional) (Named conditions) = number ≡ conditions
-- The APDU answers Renew `renew`, and grants no date after `day`.
Attests number (types.RenewAnswer answers granted) (Answered renew day) =
    (answers ≡ renew) × (is_due_after day granted ≡ false)
Attests number (types.Shipped granted) (GrantedBefore renew due) = granted ≡ due
-- The APDU grants `due`, and answers a Renew with a number below `renew`.
Attests number (types.RenewAnswer answers (Some granted)) (GrantedBefore renew due) =
    (granted ≡ due) × (answers < renew)
Attests number (types.Overdue day) (PastDue due) = day ≡ due
Attests number other notice = ⊥

-- ---- messages that change nothing

-- Lists the states in which the requester waits for the responder to ship, to cancel or to refuse.
abbrev pub undecided : List State
undecided = states.Pending ∷ states.Conditional ∷ states.CancelPending ∷ []

-- Lists the states in which the item is lent: shipped, not returned and not recalled.
abbrev pub lent : List State
lent =
    states.Shipped ∷ states.NotReceivedOverdue ∷ states.Received ∷ states.Overdue ∷ states.RenewPending
    ∷ states.RenewOverdue ∷ []

-- Lists the states that an Overdue for the due date changes.
abbrev pub states_before_overdue : List State
states_before_overdue = states.Shipped ∷ states.Received ∷ states.RenewPending ∷ []

-- Returns true if an APDU with `number` and this body would not change record `x` now.
abbrev pub has_heard : RequesterRecord → ℕ → Body → Bool
has_heard x number (types.IllAnswer results.Conditional) =
    not (is_among (states.Pending ∷ []) x.state) || is_at_most number (accepted_number x)
has_heard x number (types.IllAnswer results.WillSupply) = true
has_heard x number (types.IllAnswer results.HoldPlaced) = true
has_heard x number (types.IllAnswer other) = not (is_among undecided x.state)
has_heard x number types.Expired = not (is_among undecided x.state)
has_heard x number (types.CancelReply answers is_yes) = not (is_awaiting_cancel_reply x answers)
has_heard x number (types.Shipped due) = not (is_among undecided x.state)
has_heard x number (types.RenewAnswer answers None) = not (is_awaiting_answer x answers)
has_heard x number (types.RenewAnswer answers (Some due)) = not (is_awaiting_answer x answers && is_after_due due x.due)
has_heard x number (types.Overdue day) = not (is_among states_before_overdue x.state && is_due_on day x.due)
has_heard x number types.Recall = not (is_among lent x.state)
has_heard x number types.CheckedIn = implies (is_among (states.Returned ∷ []) x.state) x.checked_in
has_heard x number other = true

-- Returns true if, after `first`, `second` may change a record that it would not have changed before.
abbrev pub reopens : Body → Body → Bool
reopens (types.CancelReply answers false) (types.IllAnswer results.Conditional) = true
reopens (types.Shipped due) types.Recall = true
reopens (types.Shipped due) (types.Overdue day) = is_same_day day due
reopens (types.RenewAnswer answers (Some due)) (types.Overdue day) = is_same_day day due
reopens first second = false
