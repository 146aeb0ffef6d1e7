-- These are groups of whose desks none was loaded, or none that is over. By the laws no command of a shelf ends well
-- for them.
use Rattle.std.specs.Prelude.{◌≡◌, ℕ, false, List}
use Rattle.ill_saved.specs.Desk.{DeskOf}
use Rattle.ill_saved.specs.ManySides.{DeskContents, sides_held}
use Rattle.ill_night.specs.Retire.{are_all_over}
use Rattle.ill_place.specs.BadPlaces.{AreElsewhere}
use Rattle.ill_place.specs.Place.{PlaceOf, ShelfOf, StartsAt, place_of}
use Rattle.ill_shelf.specs.Home.{IsDeskFor, IsHome}
use Rattle.ill_shelf.specs.Retiring.{WasMarked, mark_place}

-- No desk was loaded from the path of the desk of `group` on the shelf, in either role.
abbrev pub IsNowhere : {S : Type 0} → ShelfOf S → (group : List ℕ) → Type 0
IsNowhere shelf group = (path : List ℕ) → IsHome shelf.folder group path → AreElsewhere (place_of shelf.state path)

-- No desk was loaded from the path of the desk of `group`, or from that of the shelf's own desk.
abbrev pub IsTakenNowhere : {S : Type 0} → ShelfOf S → (group : List ℕ) → Type 0
IsTakenNowhere shelf group =
    (path : List ℕ) → IsDeskFor shelf.folder group path → AreElsewhere (place_of shelf.state path)

-- The group of the desk of the place was not marked before, and each desk that was loaded from the place has a loan
-- that is not over.
pub record IsOpenAt {S : Type 0} (place : PlaceOf S) : Type 0 where
  pub unmarked : WasMarked (mark_place place) → ⊥
  pub open_loan : (desk : DeskOf DeskContents S) → StartsAt place desk →
      are_all_over (sides_held desk.live).sides ≡ false

-- The group was not marked before, and each desk that was loaded from its path has a loan that is not over, in either
-- role.
abbrev pub IsOpenGroup : {S : Type 0} → ShelfOf S → (group : List ℕ) → Type 0
IsOpenGroup shelf group = (path : List ℕ) → IsHome shelf.folder group path → IsOpenAt (place_of shelf.state path)
