-- The deeds that a date makes due for a responder (this profile's own). They are Overdue in an overdue loan,
-- and Expire of a request whose last day is past.
use Rattle.std.specs.Prelude.{ℕ, Bool, ◌&&◌, if◌then◌else◌, List, [], ◌∷◌, ◌++◌, fold, Option, None, Some, option_map}
use Rattle.std.specs.Prelude.{Result, Ok, Err}
use Rattle.std.specs.List.{filter_map, flat_map}
use Rattle.ill_values.specs.Day.{Date}
use Rattle.ill_values.specs.TxnId.{Qualifiers}
use Rattle.ill_core.specs.declared.state.State.{State}
use Rattle.ill_core.specs.declared.state.State.TheVariants.{InProcess, Conditional, Shipped, RenewPending}
use Rattle.ill_core.specs.declared.responder.Deed.{Deed}
use Rattle.ill_core.specs.declared.responder.Deed.TheVariants as deeds
use Rattle.ill_core.specs.State.{is_among}
use Rattle.ill_record.specs.declared.role.Role.{Role}
use Rattle.ill_record.specs.declared.role.Role.TheVariants.{Requester, Responder}
use Rattle.ill_record.specs.declared.side.Side.{Side}
use Rattle.ill_record.specs.declared.side.Action.TheVariants as actions
use Rattle.ill_saved.specs.declared.fault.DeskFault.{DeskFault}
use Rattle.ill_record.specs.Side.{due_date_of, role_of, state_of, txn_of}
use Rattle.ill_saved.specs.ManySides.{DeskContents, sides_held, many_sides}
use Rattle.ill_text.specs.declared.fault.ToolFault.{ToolFault}
use Rattle.ill_night.specs.declared.night.Dates.{Dates}
use Rattle.ill_inbox.specs.declared.due.Due.{Due}
use Rattle.ill_saved.specs.Holdings.{Effects}
use Rattle.ill_desk.specs.Performing.{CommandState, has_any, Run, EndsRun}
use Rattle.ill_text.specs.declared.form.Form.{Form}
use Rattle.ill_inbox.specs.Objects.{printed_deed}
use Rattle.ill_words.specs.Waiting.{is_sooner}

-- ---- the deed of a loan

-- Returns true if the item is out, and its due date is before the day `today`.
abbrev pub is_overdue : Date → State → Option Date → Bool
is_overdue today state due = is_among (Shipped ∷ RenewPending ∷ []) state && is_sooner due (Some today)

-- Returns true if a request in this state may still expire.
abbrev pub may_expire : State → Bool
may_expire state = is_among (InProcess ∷ Conditional ∷ []) state

-- Returns the deed to attempt on the day `today` in a responder's loan with this state and due date. `which`
-- has the deeds that are wanted. Expire is attempted for each open request, and refused if the request has
-- not expired.
abbrev pub deed_at : Dates → Date → State → Option Date → Option Deed
deed_at which today state due =
    if which.overdue && is_overdue today state due then Some deeds.Overdue
    else if which.expire && may_expire state then Some deeds.Expire
    else None

-- Returns the deed to attempt on the day `today` in a loan of this role. A requester has no deeds.
abbrev pub deed_of_role : Dates → Date → Role → State → Option Date → Option Deed
deed_of_role which today Requester state due = None
deed_of_role which today Responder state due = deed_at which today state due

-- Returns the deed that is due on the day `today` in the loan of `side`.
abbrev pub deed_by_date : Dates → Date → Side → Option Deed
deed_by_date which today side = deed_of_role which today (role_of side) (state_of side) (due_date_of side)

-- Returns the deed that is due on the day `today` in the loan of `side`, with its transaction.
abbrev pub due_in : Dates → Date → Side → Option Due
due_in which today side =
    option_map (λ deed. record { txn = txn_of side; deed = deed }) (deed_by_date which today side)

-- Returns the deed that is due on the day `today` in a loan, if there is a loan.
abbrev pub due_at : Dates → Date → Option Side → Option Due
due_at which today None = None
due_at which today (Some side) = due_in which today side

-- Returns the deeds that are due on the day `today` in all loans, in the order of `sides`.
abbrev pub all_due : Dates → Date → List Side → List Due
all_due which today sides = filter_map (due_in which today) sides

-- ---- one deed after another

-- The sides that a desk holds after some deeds, and the deeds that were done.
pub record Doing (L : Type 0) : Type 0 where
  pub live : L
  pub done : List Due

-- Returns the record of the sides `live` and the deeds `done`.
abbrev pub doing : {L : Type 0} → L → List Due → Doing L
doing live done = record { live = live; done = done }

-- Returns the sides and the done deeds after an attempt at `due`. If the deed was refused, nothing changes.
abbrev pub after_act : {L : Type 0} → Due → Result L DeskFault → Doing L → Doing L
after_act due (Ok live) old = doing live (old.done ++ due ∷ [])
after_act due (Err fault) old = old

-- Returns the sides and the done deeds after an attempt at `due` on the day `today`.
abbrev pub after_deed : {L : Type 0} → Effects L Qualifiers → Date → Doing L → Due → Doing L
after_deed effects today old due =
    after_act due (effects.acts old.live due.txn (actions.Deed due.deed today)) old

-- Returns the sides and the done deeds after attempts at all of `dues`, in their order.
abbrev pub after_deeds : {L : Type 0} → Effects L Qualifiers → Date → L → List Due → Doing L
after_deeds effects today live dues = fold (after_deed effects today) (doing live []) dues

-- ---- the lines

-- Returns the texts of all deeds of `done`, in this form, with the sides of the desk `live`.
abbrev pub printed_deeds : {L : Type 0} → Form → Effects L Qualifiers → L → List Due → List ℕ
printed_deeds form effects live done = flat_map (printed_deed form effects live) done

-- ---- the run

-- Returns the run of the deeds that lead to `end`.
abbrev pub deeds_run : {L : Type 0} → Form → Effects L Qualifiers → Doing L → Run L (Unit {0})
deeds_run form effects end = record {
  live = end.live;
  has_changed = has_any end.done;
  printed = printed_deeds form effects end.live end.done;
  answer = tt;
}

-- The deeds that lead to `end` were performed, saved at once, and printed. The state of the command went from `old` to
-- `new`.
abbrev pub RunsDeeds : {L : Type 0} → Form → Effects L Qualifiers → Doing L → CommandState L →
    Result (Unit {0}) ToolFault → CommandState L → Type 0
RunsDeeds form effects end old result new = EndsRun effects (deeds_run form effects end) old result new

-- Returns the sides of a desk and the done deeds after an attempt at each deed that is due on the day `today`.
abbrev pub after_dates : Dates → Date → DeskContents → Doing DeskContents
after_dates which today live = after_deeds many_sides today live (all_due which today (sides_held live).sides)

-- All deeds that are due on the day `today` were attempted at a desk, as `RunsDeeds` says.
abbrev pub RunsDates : Form → Dates → Date → CommandState DeskContents → Result (Unit {0}) ToolFault →
    CommandState DeskContents → Type 0
RunsDates form which today old result new =
    RunsDeeds form many_sides (after_dates which today old.desk.live) old result new
