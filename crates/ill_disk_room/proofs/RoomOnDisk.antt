-- Lemmas that turn what a call of a run does into what the call of its room does.
use Rattle.std.proofs.Common.{◌≡◌, inl, inr, ⊎_elim, refl, sym, ◌∙◌, ap, ℕ, slice_get, List, Option, Some, None, option_map}
use Rattle.std.proofs.Common.{Result, Ok, Err}
use Rattle.std.proofs.lemmas.Option.{slice_get-map}
use Rattle.ill_text.specs.declared.fault.ToolFault.{ToolFault}
use Rattle.ill_room.specs.declared.room.Place.{Place}
use Rattle.ill_room.specs.Room.{Answers, GivesBack, IsElseSame, Keeps, KeepsBytes, Moves, MovesPlace, RoomState}
use Rattle.ill_room.specs.Room.{is_correct_room, moved, moved_at, place_of}
use Rattle.ill_disk.specs.Calls.{DiskState}
use Rattle.ill_message_disk.specs.Spots as disks
use Rattle.ill_message_disk.specs.Runs as runs
use Rattle.ill_message_disk.specs.Runs.{MessageRunOf, MessageFilesSurvive, RunState}
use Rattle.ill_message_disk.proofs.Steps.{survives_none}
use Rattle.ill_disk_room.specs.DiskRooms.{Agree, place_on, room_on}

-- To move `place` on the disk, and then take the room's place for it, is to take the room's place and then move it.
place_moves : (to place : disks.Place) → place_on (disks.moved to place) ≡ moved (place_on to) (place_on place)
place_moves to disks.Waiting = refl
place_moves to disks.Claimed = refl
place_moves to disks.Quarantined = refl
place_moves to disks.Gone = refl

-- As `place_moves`, for a place that may be None.
moves_on : (to : disks.Place) (place : Option disks.Place) →
    option_map place_on (option_map (disks.moved to) place) ≡ moved_at (place_on to) (option_map place_on place)
moves_on to None = refl
moves_on to (Some place) = ap Some (place_moves to place)

-- The place of a message file in the room is that on the disk.
place_is : (run : RunState) (number : ℕ)
    → place_of (room_on run) number ≡ option_map place_on (slice_get run.places number)
place_is run number = slice_get-map place_on run.places number

-- A call leads a message file from the place `here` to `there` on the disk, and from `before` to `after` in the room.
-- Let the answers agree, and let the message file stay or move in the room as on the disk. If it comes to `on` on the
-- disk, it comes to `to` in the room.
comes_to : {A B E : Type 0} (to : Place) (before after : Option Place) (on : disks.Place) (here there : Option disks.Place)
    (answer : Result A E) (other : Result B ToolFault) → Agree answer other →
    (there ≡ here → after ≡ before) → (there ≡ option_map (disks.moved on) here → after ≡ moved_at to before) →
    runs.ComesAt on here answer there → MovesPlace to before other after
comes_to to before after on here there (Ok done) (Ok value) agree stays moves comes = moves comes
comes_to to before after on here there (Err fault) (Err other) agree stays moves comes =
    ⊎_elim (λ same. inl (stays same)) (λ moved. inr (moves moved)) comes
comes_to to before after on here there (Ok done) (Err other) agree stays moves comes = absurd agree
comes_to to before after on here there (Err fault) (Ok value) agree stays moves comes = absurd agree

-- If the answers agree, messages that are kept on the disk are kept in the room.
keeps_bytes : {A B E : Type 0} (asked before after : List ℕ) (answer : Result A E) (other : Result B ToolFault) →
    Agree answer other → runs.KeepsAsked asked before answer after → KeepsBytes asked before other after
keeps_bytes asked before after (Ok done) (Ok value) agree keeps = keeps
keeps_bytes asked before after (Err fault) (Err other) agree keeps = keeps
keeps_bytes asked before after (Ok done) (Err other) agree keeps = absurd agree
keeps_bytes asked before after (Err fault) (Ok value) agree keeps = absurd agree

-- A call of the run leads from the state `old` to `new`.
module _ (old new : RunState) where
  -- A message file that stays on the disk stays in the room.
  stays_on : (number : ℕ) → slice_get new.places number ≡ slice_get old.places number →
      place_of (room_on new) number ≡ place_of (room_on old) number
  stays_on number same = place_is new number ∙ ap (option_map place_on) same ∙ sym (place_is old number)

  -- A message file that moves on the disk moves in the room.
  comes_on : (to : disks.Place) (number : ℕ)
      → slice_get new.places number ≡ option_map (disks.moved to) (slice_get old.places number) →
      place_of (room_on new) number ≡ moved_at (place_on to) (place_of (room_on old) number)
  comes_on to number moves =
      place_is new number ∙ ap (option_map place_on) moves ∙ moves_on to (slice_get old.places number)
      ∙ ap (moved_at (place_on to)) (sym (place_is old number))

  -- If all but `number` stays on the disk, all but `number` stays in the room.
  else_on : (number : ℕ) → runs.IsElseSame number old new → IsElseSame number (room_on old) (room_on new)
  else_on number same = record { others = λ other differ. stays_on other (same.others other differ); asked = same.asked }

  -- If the answers agree, and a call moves `number` on the disk, it moves `number` in the room.
  pub moves_in_room : {A B E : Type 0} (to : disks.Place) (number : ℕ) (answer : Result A E) (other : Result B ToolFault) →
      Agree answer other → runs.MovesInRun to number old answer new →
      Answers is_correct_room (Moves (place_on to) number) (room_on old) other (room_on new)
  moves_in_room to number answer other agree moves = record {
    done = λ h. record {
      here = comes_to (place_on to) (place_of (room_on old) number) (place_of (room_on new) number) to
          (slice_get old.places number) (slice_get new.places number) answer other agree (stays_on number)
          (comes_on to number)
          (moves.here h);
      else_same = else_on number (moves.else_same h);
    };
    correct = moves.correct;
  }

  -- If a call gives `number` back on the disk, it gives it back in the room, with any answer.
  pub gives_in_room : {A : Type 0} (number : ℕ) (answer : A) → runs.GivesBackInRun number old new →
      Answers is_correct_room (GivesBack number) (room_on old) answer (room_on new)
  gives_in_room number answer gives = record {
    done = λ h. record {
      here = ⊎_elim (λ same. inl (stays_on number same)) (λ moved. inr (comes_on disks.Waiting number moved))
          (gives.here h);
      else_same = else_on number (gives.else_same h);
    };
    correct = gives.correct;
  }

  -- If the answers agree, and a call keeps `asked` on the disk, it keeps `asked` in the room.
  pub keeps_in_room : {A B E : Type 0} (asked : List ℕ) (answer : Result A E) (other : Result B ToolFault) →
      Agree answer other → runs.KeepsInRun asked old answer new →
      Answers is_correct_room (Keeps asked) (room_on old) other (room_on new)
  keeps_in_room asked answer other agree keeps = record {
    done = λ h. record {
      here = keeps_bytes asked old.asked new.asked answer other agree (keeps.here h);
      places = ap (λ l. (room_on (record new { places = l })).places) (keeps.places h);
    };
    correct = keeps.correct;
  }

-- A call that fails at its beginning moves nothing.
pub fails_in_room : {A : Type 0} (to : Place) (number : ℕ) (fault : ToolFault) (state : RoomState) →
    Answers is_correct_room (Moves {A = A} to number) state (Err fault) state
fails_in_room to number fault state = record {
  done = λ h. record { here = inl refl; else_same = record { others = λ other differ. refl; asked = refl } };
  correct = refl;
}

-- A call that does nothing loses no message file.
pub all_survive : {D : Type 0} (state : D → DiskState) (which : ℕ → Type 0) (run : MessageRunOf D) →
    MessageFilesSurvive state which run run
all_survive state which run number spot is at = survives_none spot (state run.disk)
