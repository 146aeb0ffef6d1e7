-- Compares two days, and a day with a due date (this profile's own).
use Rattle.std.specs.Prelude.{Bool, false, ◌&&◌, ◌==◌, nat_lt, Option, Some, None, if◌then◌else◌}
use Rattle.ill_values.specs.Day.{Date}

-- Returns true if `a` and `b` are equal in year, month and day.
abbrev pub is_same_day : Date → Date → Bool
is_same_day a b = (a.year == b.year) && ((a.month == b.month) && (a.day == b.day))

-- Returns true if there is a due date, and `d` is that day.
abbrev pub is_due_on : Date → Option Date → Bool
is_due_on d None = false
is_due_on d (Some due) = is_same_day d due

-- Returns true if day `a` is before day `b`.
abbrev pub is_before : Date → Date → Bool
is_before a b =
    if a.year == b.year
    then (if a.month == b.month then nat_lt a.day b.day else nat_lt a.month b.month)
    else nat_lt a.year b.year

-- Returns true if there is a due date, and `d` is after it.
abbrev pub is_after_due : Date → Option Date → Bool
is_after_due d None = false
is_after_due d (Some due) = is_before due d
