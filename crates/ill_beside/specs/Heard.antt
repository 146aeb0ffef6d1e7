-- The messages that a record shows as taken (this profile's own). The record alone tells it, whatever file keeps the
-- messages.
use Rattle.std.specs.Prelude.{ℕ, Bool, true, false, not, ◌&&◌, ◌||◌, ◌==◌, List, [], ◌∷◌, length, Option, None, Some}
use Rattle.ill_values.specs.Day.{Date}
use Rattle.ill_values.specs.declared.apdu.Apdu.{Apdu}
use Rattle.ill_values.specs.Body.{Body}
use Rattle.ill_values.specs.Bodies.{is_cancel, is_renew}
use Rattle.ill_values.specs.declared.apdu.BodyWith.TheVariants as types
use Rattle.ill_values.specs.declared.apdu.AnswerResult.{AnswerResult}
use Rattle.ill_values.specs.declared.apdu.AnswerResult.TheVariants.{Conditional, WillSupply, HoldPlaced}
use Rattle.ill_core.specs.declared.state.State.{State}
use Rattle.ill_core.specs.declared.state.State.TheVariants as states
use Rattle.ill_core.specs.State.{is_among}
use Rattle.ill_core.specs.Dates.{is_due_on}
use Rattle.ill_core.specs.Issued.{is_message_with}
use Rattle.ill_core.specs.Numbers.{is_equal_number, is_at_most}
use Rattle.ill_core.specs.Requester.{RequesterRecord, accepted_number}
use Rattle.ill_core.specs.Requester as requesters
use Rattle.ill_core.specs.RequesterNotices.{states_before_overdue}
use Rattle.ill_core.specs.Responder.{ResponderRecord}
use Rattle.ill_record.specs.declared.side.Side.{Side}
use Rattle.ill_record.specs.declared.side.Side.TheVariants.{Requester, Responder}

-- ---- at a requester

-- Returns true if the last message of the requester has the number `asked`, and the state is one of `states`, in which
-- it waits for its answer.
abbrev pub waits_in : List State → RequesterRecord → ℕ → Bool
waits_in states x asked = is_among states x.state && asked == length x.issued

-- Returns true if the requester's record shows that the ILL-Answer with this number and result was taken. A promise
-- (`WillSupply`, `HoldPlaced`) leaves no trace in the record, so each counts as taken.
abbrev pub answer_heard : RequesterRecord → ℕ → AnswerResult → Bool
answer_heard x number Conditional =
    is_equal_number number x.held || (is_at_most number (accepted_number x)
    || is_among (states.NotSupplied ∷ requesters.later) x.state)
answer_heard x number WillSupply = true
answer_heard x number HoldPlaced = true
answer_heard x number ends = is_among (states.NotSupplied ∷ []) x.state

-- Returns true if the requester's record shows that the reply to its Cancel `cancel` was taken.
abbrev pub cancel_reply_heard : RequesterRecord → ℕ → (is_yes : Bool) → Bool
cancel_reply_heard x cancel true = is_among (states.Cancelled ∷ []) x.state && cancel == length x.issued
cancel_reply_heard x cancel false =
    is_message_with is_cancel x.issued cancel
    && not (waits_in (states.CancelPending ∷ states.Cancelled ∷ []) x cancel)

-- Returns true if the requester's record shows that the answer to its Renew `renew` was taken.
abbrev pub renewal_heard : RequesterRecord → ℕ → Bool
renewal_heard x renew =
    is_message_with is_renew x.issued renew && not (waits_in (states.RenewPending ∷ states.RenewOverdue ∷ []) x renew)

-- Returns true if the requester's record shows that an Overdue for `day` was taken.
abbrev pub overdue_heard : RequesterRecord → Date → Bool
overdue_heard x day =
    is_among requesters.later x.state
    && not (is_due_on day x.due && is_among states_before_overdue x.state)

-- Returns true if the requester's record shows that the message with this number and body was taken. Returns false for
-- a message that only a requester issues.
abbrev pub requester_heard : RequesterRecord → ℕ → Body → Bool
requester_heard x number (types.IllAnswer result) = answer_heard x number result
requester_heard x number types.Expired = is_among (states.NotSupplied ∷ []) x.state
requester_heard x number (types.CancelReply answers is_yes) = cancel_reply_heard x answers is_yes
requester_heard x number (types.Shipped due) = is_among requesters.later x.state
requester_heard x number (types.Overdue day) = overdue_heard x day
requester_heard x number (types.RenewAnswer answers granted) = renewal_heard x answers
requester_heard x number types.Recall = is_among (states.Recall ∷ states.Returned ∷ []) x.state
requester_heard x number types.CheckedIn = x.checked_in
requester_heard x number other = false

-- ---- at a responder

-- Returns true if there is a request, and it has this number.
abbrev pub is_request_number : ℕ → Option Apdu → Bool
is_request_number number None = false
is_request_number number (Some request) = number == request.number

-- Returns true if the responder's record shows that the message with this number and body was taken. Returns false for
-- a message that only a responder issues.
abbrev pub responder_heard : ResponderRecord → ℕ → Body → Bool
responder_heard y number (types.IllRequest expiry item) = is_request_number number y.request
responder_heard y number (types.ConditionalReply answers true) = is_at_most answers y.accepted
responder_heard y number (types.ConditionalReply answers false) = is_among (states.NotSupplied ∷ []) y.state
responder_heard y number types.Cancel = is_at_most number y.last_cancel
responder_heard y number types.Received = y.received
responder_heard y number (types.Renew wished) = is_at_most number y.last_renew
responder_heard y number types.Returned = is_among (states.Returned ∷ states.CheckedIn ∷ []) y.state
responder_heard y number other = false

-- ---- at a side

-- Returns true if the record of the side shows that the message was taken.
abbrev pub is_heard : Side → Apdu → Bool
is_heard (Requester x) a = requester_heard x a.number a.body
is_heard (Responder y) a = responder_heard y a.number a.body
