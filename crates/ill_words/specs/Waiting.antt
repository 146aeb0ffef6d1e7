-- The loans that wait for this library, and their order by urgency (this profile's own).
use Rattle.std.specs.Prelude.{Bool, true, false, ◌&&◌, nat_lt, if◌then◌else◌, List, [], ◌∷◌, length, Option, Some, None, is_some}
use Rattle.std.specs.Option.{option_or}
use Rattle.ill_values.specs.Day.{Date}
use Rattle.ill_core.specs.declared.turn.Turn.{Turn}
use Rattle.ill_core.specs.declared.turn.Turn.TheVariants.{Over, Mine, Theirs}
use Rattle.ill_core.specs.Dates.{is_before}
use Rattle.ill_core.specs.ResponderActions.{expiry_of}
use Rattle.ill_record.specs.declared.side.Side.{Side}
use Rattle.ill_record.specs.Side.{due_date_of}
use Rattle.ill_record.specs.SideVerbs.{turn_of, verbs_of}
use Rattle.ill_words.specs.Possible.{request_of}

-- ---- turns

-- Returns true if `turn` and `other` are equal.
abbrev pub is_turn : Turn → Turn → Bool
is_turn Mine Mine = true
is_turn Theirs Theirs = true
is_turn Over Over = true
is_turn turn other = false

-- ---- deadlines

-- Returns the deadline of a loan: its due date, or else the expiry date of its request.
abbrev pub deadline_of : Side → Option Date
deadline_of side = option_or (due_date_of side) (expiry_of (request_of side))

-- Returns true if the first deadline is before the second. Any deadline is before none.
abbrev pub is_sooner : Option Date → Option Date → Bool
is_sooner None other = false
is_sooner (Some day) None = true
is_sooner (Some day) (Some other) = is_before day other

-- Returns true if the deadline of a loan is before the day `today`, and this library can act in it. It cannot
-- act in a loan that is over.
abbrev pub is_pressing : Option Date → Side → Bool
is_pressing None side = false
is_pressing (Some today) side =
    is_sooner (deadline_of side) (Some today) && nat_lt 0 (length (verbs_of side))

-- Returns the turn of a loan on the day `today`. If its deadline is past and this library can act, the turn
-- is this library's. Without a day it is the turn by the record.
abbrev pub turn_on : Option Date → Side → Turn
turn_on today side = if is_pressing today side then Mine else turn_of side

-- Returns true if the loan waits for this library on a day after its deadline. It does if it has a deadline, and this
-- library can act in it.
abbrev pub waits_by_date : Side → Bool
waits_by_date side = is_some (deadline_of side) && nat_lt 0 (length (verbs_of side))

-- Returns true if the deadline of `side` is before that of `other`.
abbrev pub is_more_urgent : Side → Side → Bool
is_more_urgent side other = is_sooner (deadline_of side) (deadline_of other)

-- ---- in order

-- Returns the list with `item` in it, after the leading items that come before it by `is_before`.
abbrev pub placed : {X : Type 0} → (X → X → Bool) → X → List X → List X
placed is_before item [] = item ∷ []
placed is_before item (first ∷ others) =
    if is_before first item then first ∷ placed is_before item others else item ∷ first ∷ others

-- Returns the items in the order of `is_before`. Items of which neither comes before the other keep their order.
abbrev pub ordered : {X : Type 0} → (X → X → Bool) → List X → List X
ordered is_before [] = []
ordered is_before (item ∷ items) = placed is_before item (ordered is_before items)

-- Returns the loans in the order of their deadlines, and loans without one last. Loans with equal deadlines
-- stay in the order in which they were begun.
abbrev pub most_urgent_first : List Side → List Side
most_urgent_first sides = ordered is_more_urgent sides
