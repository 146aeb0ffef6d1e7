-- These are ends of a run that no room may have. By the laws the definitions of `Room` exclude them all.
use Rattle.std.specs.Prelude.{◌≡◌, ◌≢◌, ℕ, List, slice_get, None, Some}
use Rattle.ill_words.specs.declared.outcome.DeskOutcome.{DeskOutcome}
use Rattle.ill_night.specs.declared.verdict.Unfit.{Unfit}
use Rattle.ill_night.specs.declared.verdict.Delay.{Delay}
use Rattle.ill_night.specs.declared.verdict.Verdict.{Verdict}
use Rattle.ill_night.specs.declared.verdict.Verdict.TheVariants.{Done, Deferred}
use Rattle.ill_night.specs.declared.verdict.Verdict.TheVariants as verdicts
use Rattle.ill_room.specs.declared.room.Place.{Place}
use Rattle.ill_room.specs.declared.room.Place.TheVariants.{Waiting, Claimed, Quarantined, Gone}
use Rattle.ill_room.specs.Room.{RoomState, place_of}

-- A settling of message files with the verdicts `all` cannot lead from the room `old` to `new`, whether it is done or
-- failed.
pub data IsBadSettling (all : List Verdict) (old new : RoomState) : Type 0 where
  -- A claimed message file was to wait, and is gone.
  left_gone : (number : ℕ) (delay : Delay) → slice_get all number ≡ Some (verdicts.Deferred delay) →
      place_of old number ≡ Some Claimed → place_of new number ≡ Some Gone → IsBadSettling all old new
  -- A claimed message file was to wait, and is quarantined.
  left_quarantined : (number : ℕ) (delay : Delay) → slice_get all number ≡ Some (verdicts.Deferred delay) →
      place_of old number ≡ Some Claimed → place_of new number ≡ Some Quarantined → IsBadSettling all old new
  -- A claimed message file was to be quarantined, and is gone.
  quarantined_gone : (number : ℕ) (unfit : Unfit) → slice_get all number ≡ Some (verdicts.Quarantined unfit) →
      place_of old number ≡ Some Claimed → place_of new number ≡ Some Gone → IsBadSettling all old new
  -- A claimed message file was to be quarantined, and waits.
  quarantined_waits : (number : ℕ) (unfit : Unfit) → slice_get all number ≡ Some (verdicts.Quarantined unfit) →
      place_of old number ≡ Some Claimed → place_of new number ≡ Some Waiting → IsBadSettling all old new
  -- A claimed message file was done, and is quarantined.
  done_quarantined : (number : ℕ) (outcome : DeskOutcome) → slice_get all number ≡ Some (Done outcome) →
      place_of old number ≡ Some Claimed → place_of new number ≡ Some Quarantined → IsBadSettling all old new
  -- A claimed message file was done, and waits.
  done_waits : (number : ℕ) (outcome : DeskOutcome) → slice_get all number ≡ Some (Done outcome) →
      place_of old number ≡ Some Claimed → place_of new number ≡ Some Waiting → IsBadSettling all old new
  -- A message file that was not claimed has moved.
  unclaimed_moves : (number : ℕ) (place : Place) → place_of old number ≡ Some place → place ≢ Claimed →
      place_of new number ≢ Some place → IsBadSettling all old new
  -- A message file without a verdict has moved.
  unjudged_moves : (number : ℕ) → slice_get all number ≡ None → place_of new number ≢ place_of old number
      → IsBadSettling all old new
  -- The messages that ask have changed.
  other_asks : new.asked ≢ old.asked → IsBadSettling all old new

-- A settling of message files with the verdicts `all` that is done cannot lead from the room `old` to `new`.
pub data IsBadEnd (all : List Verdict) (old new : RoomState) : Type 0 where
  -- A claimed message file was done, and is still claimed.
  done_stays : (number : ℕ) (outcome : DeskOutcome) → slice_get all number ≡ Some (Done outcome) →
      place_of old number ≡ Some Claimed → place_of new number ≡ Some Claimed → IsBadEnd all old new
  -- A claimed message file was to be quarantined, and is still claimed.
  quarantined_stays : (number : ℕ) (unfit : Unfit) → slice_get all number ≡ Some (verdicts.Quarantined unfit) →
      place_of old number ≡ Some Claimed → place_of new number ≡ Some Claimed → IsBadEnd all old new
