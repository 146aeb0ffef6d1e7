-- Defines the day of a text with hyphens or without.
use Rattle.std.specs.Prelude.{ℕ, Bool, ◌&&◌, ◌==◌, if◌then◌else◌, List, [], ◌∷◌, length, slice_index, Option, Some, None}
use Rattle.std.specs.Prelude.{Result}
use Rattle.std.specs.Result.{result_ok}
use Rattle.ill_values.specs.Day.{Date, read_date}
use Rattle.ill_values.specs.declared.fault.DayFault.{DayFault}

-- Returns true if `text` has the shape of a day with hyphens: four bytes, two and two, with hyphens between.
abbrev pub is_dashed : List ℕ → Bool
is_dashed text = (length text == 10) && (slice_index text 4 == 0x2D) && (slice_index text 7 == 0x2D)

-- Returns the bytes of `text` without its hyphens, as `20250315` of `2025-03-15`. Returns `None` for a text of another
-- shape.
abbrev pub undashed : List ℕ → Option (List ℕ)
undashed text =
    if is_dashed text
    then Some (slice_index text 0 ∷ slice_index text 1 ∷ slice_index text 2 ∷ slice_index text 3
    ∷ slice_index text 5 ∷ slice_index text 6 ∷ slice_index text 8 ∷ slice_index text 9 ∷ [])
    else None

-- Returns `digits`, the bytes of `text` without its hyphens. If they are `None`, it returns `text` itself.
abbrev pub without_dashes : List ℕ → Option (List ℕ) → List ℕ
without_dashes text None = text
without_dashes text (Some digits) = digits

-- Returns the digits of a day. A text that has not the shape of a day with hyphens is returned as it is.
abbrev pub day_digits : List ℕ → List ℕ
day_digits text = without_dashes text (undashed text)

-- Returns the day of `text`, or the first fault of its digits.
abbrev pub read_day : List ℕ → Result Date DayFault
read_day text = read_date (day_digits text)

-- Returns the day of `text`, if it is the text of one.
abbrev pub day_of_text : List ℕ → Option Date
day_of_text text = result_ok (read_day text)
