-- These are desks that were not loaded from a place. By the laws `StartsAt` excludes them all.
use Rattle.std.specs.Prelude.{◌≡◌, ℕ, true, List, None, Some, Ok}
use Rattle.ill_saved.specs.Desk.{AreAllReleased, DeskOf}
use Rattle.ill_saved.specs.ManySides.{DeskContents, many_sides}
use Rattle.ill_place.specs.Place.{PlaceOf}

-- The desk was not loaded from the place. Its store is at another path or at none, or a correct store has other sides
-- or no record, or a message of the desk may not be sent.
pub data IsElsewhere {S : Type 0} (place : PlaceOf S) (desk : DeskOf DeskContents S) : Type 0 where
  other_path : (path : List ℕ) → (place.state desk.store).path ≡ Some path → (path ≡ place.path → ⊥) → IsElsewhere place desk
  no_path : (place.state desk.store).path ≡ None → IsElsewhere place desk
  other_sides : (bytes : List ℕ) → (place.state desk.store).is_correct ≡ true → (place.state desk.store).committed ≡ Some bytes →
      (many_sides.read bytes ≡ Ok desk.live → ⊥) → IsElsewhere place desk
  no_record : (place.state desk.store).is_correct ≡ true → (place.state desk.store).committed ≡ None → IsElsewhere place desk
  unsaved : (AreAllReleased many_sides desk.live → ⊥) → IsElsewhere place desk

-- Each desk is elsewhere than the place, so none was loaded from it.
abbrev pub AreElsewhere : {S : Type 0} → PlaceOf S → Type 0
AreElsewhere {S} place = (desk : DeskOf DeskContents S) → IsElsewhere place desk
