-- These are calls on the message files of a run that no correct disk may show. Each case has its own fault. By the laws
-- the definitions of `Spots`, `Runs` and `Whole` exclude them all.
use Rattle.std.specs.Prelude.{◌≡◌, ◌≢◌, ℕ, List, [], ◌∷◌, true, slice_get, Option, Some, Result, Ok}
use Rattle.ill_disk.specs.Disk.{In, Disk, Crash, Leaves, content, found_at}
use Rattle.ill_disk.specs.Calls.{DiskState, IsMoment}
use Rattle.ill_message_disk.specs.Touches.{IsNoneOf}
use Rattle.ill_message_disk.specs.Spots.{SpotOf, Place, Claimed, Outlasts, paths_of}
use Rattle.ill_message_disk.specs.Runs.{RunState}

-- A loss of power at some moment between two states of a correct disk has left the file of a message file at none of
-- its paths.
pub data LosesMessageFile (spot : SpotOf) (old new : DiskState) : Type 0 where
  -- Each crash left the message file at first. A crash at `moment` leaves a disk `after`, on which its file is at none
  -- of its paths.
  at_no_path : (moment after : Disk) → old.is_correct ≡ true → Outlasts spot old.now → IsMoment old new moment →
      Crash moment after → ((path : List ℕ) → In (paths_of spot) path → found_at path after.names ≢ Some spot.file) →
      LosesMessageFile spot old new

-- A call that was to move `number` to the place `to` cannot lead a run with a correct disk from `old` to `new`.
pub data IsBadMove {A E : Type 0} (to : Place) (number : ℕ) (old : RunState) (answer : Result A E) (new : RunState) : Type 0
  where
    -- Another message file has moved.
    other_moves : (other : ℕ) (place : Place) → old.is_correct ≡ true → other ≢ number →
        slice_get old.places other ≡ Some place → slice_get new.places other ≢ Some place
        → IsBadMove to number old answer new
    -- The claimed message file has come to a third place.
    third_place : (place : Place) → old.is_correct ≡ true → slice_get old.places number ≡ Some Claimed →
        slice_get new.places number ≡ Some place → place ≢ Claimed → place ≢ to → IsBadMove to number old answer new
    -- The message file was not claimed, and has moved.
    unclaimed_moves : (place : Place) → old.is_correct ≡ true → slice_get old.places number ≡ Some place → place ≢ Claimed →
        slice_get new.places number ≢ Some place → IsBadMove to number old answer new
    -- The call is done, and the message file is still claimed.
    not_moved : (done : A) → old.is_correct ≡ true → answer ≡ Ok done → to ≢ Claimed →
        slice_get old.places number ≡ Some Claimed → slice_get new.places number ≡ Some Claimed
        → IsBadMove to number old answer new
    -- The messages that ask have changed.
    other_asks : old.is_correct ≡ true → new.asked ≢ old.asked → IsBadMove to number old answer new

-- A call that gives the message file `spot` back cannot lead a correct disk from `old` to `new`.
pub data IsBadGivingBack (spot : SpotOf) (old new : DiskState) : Type 0 where
  -- A file stood at the name of the message file in the folder, and does not stand there now.
  over_another : (file : ℕ) → old.is_correct ≡ true → found_at spot.waiting old.now.names ≡ Some file →
      found_at spot.waiting new.now.names ≢ Some file → IsBadGivingBack spot old new

-- A put of `bytes` at `path`, made at `temporary` first, cannot lead a correct disk from `old` to `new`.
pub data IsBadPut {A E : Type 0} (temporary path bytes : List ℕ) (old : DiskState) (answer : Result A E) (new : DiskState)
    : Type 0 where
  -- A loss of power leaves at the path a third content: neither what it might have left before, nor these bytes.
  torn : (moment : Disk) (found : Option (List ℕ)) → old.is_correct ≡ true → IsMoment old new moment →
      Leaves moment path found → (Leaves old.now path found → ⊥) → found ≢ Some bytes
      → IsBadPut temporary path bytes old answer new
  -- The call is done, and other bytes are at the path.
  other_bytes : (done : A) → old.is_correct ≡ true → answer ≡ Ok done → content path new.now ≢ Some bytes →
      IsBadPut temporary path bytes old answer new
  -- Another name has changed than the path and the temporary one.
  other_name : (other : List ℕ) → old.is_correct ≡ true → IsNoneOf (temporary ∷ path ∷ []) other →
      found_at other new.now.names ≢ found_at other old.now.names → IsBadPut temporary path bytes old answer new
