-- Tells staff in words how a loan stands (this profile's own; the states are those of ISO 10161-1).
use Rattle.std.specs.Prelude.{Bool, if◌then◌else◌, List, ℕ, codes}
use Rattle.ill_core.specs.declared.state.State.{State}
use Rattle.ill_core.specs.declared.state.State.TheVariants.{Idle, Pending, InProcess, Conditional, CancelPending, Cancelled}
use Rattle.ill_core.specs.declared.state.State.TheVariants.{NotSupplied, Shipped, Received, RenewPending, Overdue, RenewOverdue}
use Rattle.ill_core.specs.declared.state.State.TheVariants.{NotReceivedOverdue, Recall, Returned, CheckedIn}
use Rattle.ill_core.specs.Requester.{is_declined, is_received_by}
use Rattle.ill_core.specs.State.{state_name}
use Rattle.ill_record.specs.declared.side.Side.{Side}
use Rattle.ill_record.specs.declared.side.Side.TheVariants as sides

-- Returns the words for a requester's state. `declined` says that it declined the conditions, `received` that it issued
-- a Received, and `checked_in` that it has the checked-in mark. A state that no requester has keeps its name.
abbrev pub requester_words : State → Bool → Bool → Bool → List ℕ
requester_words Idle declined received checked_in = codes "Nothing is asked for yet."
requester_words Pending declined received checked_in = codes "The request is open, as far as we know."
requester_words Conditional declined received checked_in =
    if declined then codes "We have said no, and wait." else codes "The responder supplies only on conditions: say yes or no."
requester_words CancelPending declined received checked_in = codes "We have asked to cancel. The item may still come."
requester_words Cancelled declined received checked_in = codes "The responder has agreed to cancel."
requester_words NotSupplied declined received checked_in = codes "The responder does not supply the item."
requester_words Shipped declined received checked_in = codes "The item is shipped. We have not said that it came."
requester_words Received declined received checked_in = codes "The item is here, and may be kept until it is due."
requester_words RenewPending declined received checked_in = codes "The item is here. We have asked to keep it longer."
requester_words Overdue declined received checked_in = codes "The item is here and overdue."
requester_words RenewOverdue declined received checked_in =
    codes "The item is here and overdue. We have asked to keep it longer."
requester_words NotReceivedOverdue declined received checked_in =
    codes "The item is overdue, and we have never said that it came: look for it."
requester_words Recall declined received checked_in =
    if received then codes "The responder wants the item back."
    else codes "The responder wants the item back. We have not said that it came."
requester_words Returned declined received checked_in =
    if checked_in then codes "The responder has the item back." else codes "We have sent the item back."
requester_words other declined received checked_in = state_name other

-- Returns the words for a responder's state. A state that no responder has keeps its name.
abbrev pub responder_words : State → List ℕ
responder_words Idle = codes "No request has come yet."
responder_words InProcess = codes "The request is here: answer it, or ship the item."
responder_words Conditional = codes "We have named conditions, and wait for yes or no."
responder_words CancelPending = codes "The requester asks to cancel: say yes or no."
responder_words Cancelled = codes "We have agreed to cancel."
responder_words NotSupplied = codes "We do not supply the item."
responder_words Shipped = codes "We have shipped the item."
responder_words RenewPending = codes "The requester asks to keep the item longer: say yes or no."
responder_words Overdue = codes "We have said that the item is overdue."
responder_words RenewOverdue =
    codes "We have said that the item is overdue. The requester asks to keep it longer: say yes or no."
responder_words Recall = codes "We have asked for the item back."
responder_words Returned = codes "The item is on its way back: check it in when it is here."
responder_words CheckedIn = codes "The item is here again."
responder_words other = state_name other

-- Returns the words for the state of `side`.
abbrev pub state_words : Side → List ℕ
state_words (sides.Requester x) = requester_words x.state (is_declined x) (is_received_by x) x.checked_in
state_words (sides.Responder y) = responder_words y.state
