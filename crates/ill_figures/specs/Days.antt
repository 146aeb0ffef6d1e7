-- Spans of days, and the number of days from one day to another.
use Rattle.std.specs.Prelude.{ℕ, ◌-◌, Bool, false, not, ◌&&◌, nat_le, if◌then◌else◌, pos, Option, None, Some}
use Rattle.jiff_core.specs.Calendar.{day_count}
use Rattle.ill_values.specs.Day.{Date}
use Rattle.ill_core.specs.Dates.{is_before}
use Rattle.ill_figures.specs.declared.days.Span.{Span}

-- Returns the span from `first` to `last`, if `last` is not before `first`.
abbrev pub span_between : Date → Date → Option Span
span_between first last = if is_before last first then None else Some (record { first = first; last = last })

-- Returns true if `day` is known and in the span. Both days of the span are in it.
abbrev pub is_in : Span → Option Date → Bool
is_in span None = false
is_in span (Some day) = not (is_before day span.first) && not (is_before span.last day)

-- Returns the number of a day, counted by the calendar from a first day.
abbrev pub day_number : Date → ℕ
day_number day = day_count (pos day.year) day.month day.day

-- Returns the number of days from `first` to `last`. If `last` is before `first`, there is none.
abbrev pub days_between : Date → Date → Option ℕ
days_between first last =
    if nat_le (day_number first) (day_number last) then Some (day_number last - day_number first) else None

-- Returns the number of days from `first` to `last`, if both are known and `last` is not before `first`.
abbrev pub days_from : Option Date → Option Date → Option ℕ
days_from (Some first) (Some last) = days_between first last
days_from first last = None
