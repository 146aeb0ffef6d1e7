-- Defines the table of the kinds of work, which staff do next with a side. The work depends on its state, its marks and
-- its dates on a day. The table is this profile's own; the states are those of ISO 10161-1.
use Rattle.std.specs.Prelude.{ℕ, Bool, false, if◌then◌else◌, Option, None, Some}
use Rattle.ill_values.specs.Day.{Date}
use Rattle.ill_core.specs.declared.state.State.{State}
use Rattle.ill_core.specs.declared.state.State.TheVariants as states
use Rattle.ill_core.specs.Requester.{RequesterRecord, is_declined, is_received_by}
use Rattle.ill_core.specs.Responder.{ResponderRecord}
use Rattle.ill_core.specs.ResponderActions.{expiry_of}
use Rattle.ill_core.specs.Dates.{is_after_due}
use Rattle.ill_record.specs.declared.side.Side.{Side}
use Rattle.ill_record.specs.declared.side.Side.TheVariants as sides
use Rattle.ill_record.specs.Side.{due_date_of}
use Rattle.ill_words.specs.Possible.{request_of}
use Rattle.ill_work.specs.Dates.{is_due_within}
use Rattle.ill_work.specs.declared.dates.Dates.{Dates}
use Rattle.ill_work.specs.declared.work.Work.{Work}
use Rattle.ill_work.specs.declared.work.Work.TheVariants.{SendBackRecalled, LookFor, SendBackOverdue, AnswerCancel}
use Rattle.ill_work.specs.declared.work.Work.TheVariants.{AnswerRenewal, AnswerConditions, AnswerRequest, NotifyOverdue}
use Rattle.ill_work.specs.declared.work.Work.TheVariants.{RecallOrAsk, LetExpire, CancelOrAsk, SendBackOrRenew, CheckIn}
use Rattle.ill_work.specs.declared.work.Work.TheVariants.{Unpack, Request, OnItsWay, WithReader, Wait, Over}

-- ---- a requester

-- Returns the work with an item that the requester has received. `on` says how the dates stand to the day.
abbrev pub received_work : Dates → Work
received_work on =
    if on.is_overdue then SendBackOverdue else (if on.is_due_soon then SendBackOrRenew else WithReader)

-- Returns the work in a requester's state. `declined` says that it declined the conditions, `received` that it issued a
-- Received, `checked_in` that it has the checked-in mark, and `on` how its dates stand to the day.
abbrev pub requester_work_in : State → Bool → Bool → Bool → Dates → Work
requester_work_in states.Idle declined received checked_in on = Request
requester_work_in states.Pending declined received checked_in on = if on.has_expired then CancelOrAsk else Wait
requester_work_in states.Conditional declined received checked_in on = if declined then Wait else AnswerConditions
requester_work_in states.CancelPending declined received checked_in on = Wait
requester_work_in states.Shipped declined received checked_in on = if on.is_overdue then LookFor else Unpack
requester_work_in states.Received declined received checked_in on = received_work on
requester_work_in states.RenewPending declined received checked_in on = if on.is_overdue then SendBackOverdue else Wait
requester_work_in states.Overdue declined received checked_in on = SendBackOverdue
requester_work_in states.RenewOverdue declined received checked_in on = if on.is_overdue then SendBackOverdue else Wait
requester_work_in states.NotReceivedOverdue declined received checked_in on = LookFor
requester_work_in states.Recall declined received checked_in on = if received then SendBackRecalled else LookFor
requester_work_in states.Returned declined received checked_in on = if checked_in then Over else Wait
requester_work_in other declined received checked_in on = Over

-- Returns the work with the side of requester `x`, whose dates stand to the day as `on` says.
abbrev pub requester_work : RequesterRecord → Dates → Work
requester_work x on = requester_work_in x.state (is_declined x) (is_received_by x) x.checked_in on

-- ---- a responder

-- Returns the work with an item that is shipped. `received` says that the responder has the received mark, and `on` how
-- its dates stand to the day.
abbrev pub shipped_work : Bool → Dates → Work
shipped_work received on = if on.is_overdue then NotifyOverdue else (if received then Wait else OnItsWay)

-- Returns the work in a responder's state. `received` says that it has the received mark, and `on` how its dates stand
-- to the day.
abbrev pub responder_work_in : State → Bool → Dates → Work
responder_work_in states.Idle received on = Wait
responder_work_in states.InProcess received on = if on.has_expired then LetExpire else AnswerRequest
responder_work_in states.Conditional received on = if on.has_expired then LetExpire else Wait
responder_work_in states.CancelPending received on = AnswerCancel
responder_work_in states.Shipped received on = shipped_work received on
responder_work_in states.RenewPending received on = AnswerRenewal
responder_work_in states.Overdue received on = if on.is_overdue then RecallOrAsk else Wait
responder_work_in states.RenewOverdue received on = AnswerRenewal
responder_work_in states.Recall received on = Wait
responder_work_in states.Returned received on = CheckIn
responder_work_in other received on = Over

-- Returns the work with the side of responder `y`, whose dates stand to the day as `on` says.
abbrev pub responder_work : ResponderRecord → Dates → Work
responder_work y on = responder_work_in y.state y.received on

-- ---- a side on a day

-- Returns how the dates of `side` stand to the day `today`. A due date is soon if it is at most `ahead` days away.
abbrev pub dates_on : Date → ℕ → Side → Dates
dates_on today ahead side = record {
  has_expired = is_after_due today (expiry_of (request_of side));
  is_overdue = is_after_due today (due_date_of side);
  is_due_soon = is_due_within today ahead (due_date_of side);
}

-- Returns the work with `side`, whose dates stand to the day as `on` says.
abbrev pub work_with : Side → Dates → Work
work_with (sides.Requester x) on = requester_work x on
work_with (sides.Responder y) on = responder_work y on

-- Returns the kind of work with `side` on the day `today`. A due date is soon if it is at most `ahead` days away.
abbrev pub kind_of_work : Date → ℕ → Side → Work
kind_of_work today ahead side = work_with side (dates_on today ahead side)

-- ---- a side without a day

-- Returns the dates of a loan of which none is past, and none is soon.
abbrev pub no_date_presses : Dates
no_date_presses = record { has_expired = false; is_overdue = false; is_due_soon = false }

-- Returns the kind of work with `side` on the day `today`. A due date is soon if it is at most `ahead` days away.
-- Without a day no date is past, and none is soon.
abbrev pub work_on : Option Date → ℕ → Side → Work
work_on None ahead side = work_with side no_date_presses
work_on (Some today) ahead side = kind_of_work today ahead side
