-- The command `retire` on a shelf: which group is marked as retired, and when.
use Rattle.std.specs.Prelude.{◌≡◌, ◌⊎◌, ℕ, Bool, true, false, List, codes, Option, is_some, Result, Ok, Err}
use Rattle.ill_record.specs.declared.side.Side.{Side}
use Rattle.ill_saved.specs.Desk.{DeskOf}
use Rattle.ill_saved.specs.ManySides.{DeskContents, sides_held}
use Rattle.ill_text.specs.declared.fault.ToolFault.{ToolFault}
use Rattle.ill_text.specs.Known.{known}
use Rattle.ill_text.specs.Output.{WritesPrefix}
use Rattle.ill_night.specs.Retire.{Retires}
use Rattle.ill_files.specs.Opening.{FailsToOpen}
use Rattle.ill_files.specs.ShelfNames.{retired_path}
use Rattle.ill_place.specs.Place.{IsAt, PlaceOf, ShelfOf, StartsAt, place_of}
use Rattle.ill_shelf.specs.Home.{AtHome}

-- Returns the place of the mark that a group is retired. `place` is that of the desk of the group.
abbrev pub mark_place : {S : Type 0} → PlaceOf S → PlaceOf S
mark_place place = place_of place.state (retired_path place.path)

-- A store at the place of a mark has bytes: the group was marked before. No contract says what a store has that is not
-- correct.
abbrev pub WasMarked : {S : Type 0} → (mark : PlaceOf S) → Type 0
WasMarked {S} mark =
    (store : S) × IsAt mark store × ((mark.state store).is_correct ≡ true → is_some (mark.state store).committed ≡ true)

-- A desk with `sides` was to be marked as retired, in a store at the place of its mark. The mark was saved if
-- `is_marked`, and all loans are over then. Else a loan is not over, and nothing was saved.
abbrev pub MarksSides : {S : Type 0} → (mark : PlaceOf S) → List Side → (is_marked : Bool) → Type 0
MarksSides {S} mark sides is_marked =
    (store : S) × (after : Option (Option (List ℕ))) × IsAt mark store
    × Retires sides (known (mark.state store)) (Ok is_marked) after

-- The desk that was loaded from the place was to be marked as retired, as `MarksSides` says.
abbrev pub MarksDesk : {S : Type 0} → PlaceOf S → (is_marked : Bool) → Type 0
MarksDesk {S} place is_marked =
    (desk : DeskOf DeskContents S) × StartsAt place desk
    × MarksSides (mark_place place) (sides_held desk.live).sides is_marked

-- The group of the desk of the place is marked as retired if `is_marked`: it was marked before, or is marked now. Else
-- a loan of its desk is not over.
abbrev pub MarksGroup : {S : Type 0} → PlaceOf S → (is_marked : Bool) → Type 0
MarksGroup place true = WasMarked (mark_place place) ⊎ MarksDesk place true
MarksGroup place false = MarksDesk place false

-- Returns the line of the command: `done` if the group is retired, `not-now` if a loan is not over.
abbrev pub retired_line : Bool → List ℕ
retired_line true = codes "done\n"
retired_line false = codes "not-now\n"

-- Returns `is_success`, the answer of a command, if its line was written. Else it returns the fault of the writing.
abbrev pub printed_with : Bool → Result (Unit {0}) ToolFault → Result Bool ToolFault
printed_with is_success (Ok done) = Ok is_success
printed_with is_success (Err fault) = Err fault

-- The group of the desk of the place is retired, or is not, and the command wrote its line. Or a file could not be
-- opened.
abbrev pub RetiresAtPlace : {S : Type 0} → PlaceOf S → Option (List ℕ) → Option (List ℕ) → Result Bool ToolFault → Type 0
RetiresAtPlace place before after result =
    FailsToOpen before after result
    ⊎ ((is_marked : Bool) × (printed : Result (Unit {0}) ToolFault) × MarksGroup place is_marked
    × WritesPrefix before after (retired_line is_marked) printed × (result ≡ printed_with is_marked printed))

-- The group was retired at its desk, as `RetiresAtPlace` says.
abbrev pub RetiresAtHome : {S : Type 0} → ShelfOf S → (group : List ℕ) → Option (List ℕ) → Option (List ℕ) →
    Result Bool ToolFault → Type 0
RetiresAtHome shelf group before after result = AtHome shelf group (λ place. RetiresAtPlace place before after result)
