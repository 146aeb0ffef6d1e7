-- These are nights that no rooms may have. By the laws the definitions of `Rooms` exclude them all.
use Rattle.std.specs.Prelude.{◌≡◌, ℕ, true, List, Some, Result, Ok}
use Rattle.ill_saved.specs.ManySides.{DeskContents, sides_held}
use Rattle.ill_record.specs.RecordsV2.{sides_encoding}
use Rattle.ill_text.specs.declared.fault.ToolFault.{ToolFault}
use Rattle.ill_desk.specs.Performing.{HeldAndCommitted}
use Rattle.ill_night.specs.declared.verdict.MessageFile.{MessageFile}
use Rattle.ill_night.specs.declared.verdict.Verdict.{Verdict}
use Rattle.ill_inbox.specs.Inbox.{Succeeded}
use Rattle.ill_night.specs.Outbox.{Putting, RunsOutbox}
use Rattle.ill_room.specs.Room.{RoomState}
use Rattle.ill_exchange.specs.Rooms.{OutState}

-- Message files are never taken in this way: something was done in their room, and no run over them was saved.
pub data IsBadTaking (message_files : List MessageFile) (desk : HeldAndCommitted DeskContents) (old new : RoomState) : Type 0
  where
    unsaved : ((verdicts : List Verdict) → Succeeded message_files verdicts desk → ⊥) → (new ≡ old → ⊥) →
        IsBadTaking message_files desk old new

-- Messages of a desk never leave in this way. A message left before a wanted copy had the desk's record. Or a sign of
-- life was given before all had left. Or what left is no outbox of the desk.
pub data IsBadSending {M : Type 0} (Puts : Putting M) (asked : List ℕ) (desk : DeskContents) (old new : OutState M)
    : Type 0 where
  uncopied : old.backup.is_correct ≡ true → new.backup.keeps_copy ≡ true →
      (new.backup.copied ≡ Some (sides_encoding (sides_held desk)) → ⊥) → (new.out ≡ old.out → ⊥) →
      IsBadSending Puts asked desk old new
  signed_early : old.backup.is_correct ≡ true → (new.backup.signs ≡ old.backup.signs → ⊥) →
      ((count : ℕ) → RunsOutbox Puts asked desk.held old.out new.out (Ok count) → ⊥) →
      IsBadSending Puts asked desk old new
  no_outbox : (new.out ≡ old.out → ⊥) →
      ((answer : Result ℕ ToolFault) → RunsOutbox Puts asked desk.held old.out new.out answer → ⊥) →
      IsBadSending Puts asked desk old new
