-- Says how the dates of a loan stand to a day, and which due dates a deed may name (this profile's own).
use Rattle.std.specs.Prelude.{ℕ, Bool, true, false, not, Option, Some, None, Result, Ok, Err}
use Rattle.ill_values.specs.Day.{Date, day_after}
use Rattle.ill_values.specs.declared.fault.DayFault.{DayFault}
use Rattle.ill_core.specs.declared.responder.Deed.{Deed}
use Rattle.ill_core.specs.declared.responder.Deed.TheVariants.{Ship, RenewAnswer}
use Rattle.ill_core.specs.Dates.{is_before, is_after_due}
use Rattle.ill_core.specs.Responder.{ResponderRecord, due_of}

-- Returns true if `due` is not after the last day. If the calendar ends before that day, it returns true for each due
-- date.
abbrev pub is_by : Result Date DayFault → Date → Bool
is_by (Ok last) due = not (is_before last due)
is_by (Err fault) due = true

-- Returns true if there is a due date, and it is at most `ahead` days after `today`.
abbrev pub is_due_within : Date → ℕ → Option Date → Bool
is_due_within today ahead None = false
is_due_within today ahead (Some due) = is_by (day_after ahead today) due

-- Returns true if a deed may name its due date on the day `today`. The date of a Ship may not be before this day. The
-- date of a RenewAnswer must be after the due date of `y`. A deed without a date may always be done.
abbrev pub may_name_due : Date → ResponderRecord → Deed → Bool
may_name_due today y (Ship due) = not (is_before due today)
may_name_due today y (RenewAnswer (Some due)) = is_after_due due (due_of y)
may_name_due today y other = true
