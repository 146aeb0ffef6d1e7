-- A night in its rooms: what of the message file is settled, kept, copied and sent, and in which order. Each relation
-- holds whatever the answer was. So it holds too if all calls fail from some moment on, as after a loss of power.
use Rattle.std.specs.Prelude.{◌≡◌, ◌⊎◌, ℕ, Bool, true, List, slice_get, Option, Some, Result, Ok, Err}
use Rattle.std.specs.List.{zip}
use Rattle.ill_values.specs.Day.{Date}
use Rattle.ill_saved.specs.ManySides.{DeskContents, many_sides, sides_held}
use Rattle.ill_text.specs.declared.fault.ToolFault.{ToolFault}
use Rattle.ill_words.specs.declared.outcome.DeskOutcome.{DeskOutcome}
use Rattle.ill_desk.specs.Performing.{HeldAndCommitted, CommandState, command_state, with_kept}
use Rattle.ill_night.specs.declared.night.Dates.{Dates}
use Rattle.ill_night.specs.declared.verdict.MessageFile.{MessageFile}
use Rattle.ill_night.specs.declared.verdict.Verdict.{Verdict}
use Rattle.ill_night.specs.declared.verdict.Verdict.TheVariants.{Done}
use Rattle.ill_inbox.specs.Inbox.{Arrived, Succeeded, RunsInbox}
use Rattle.ill_night.specs.Outbox.{Putting, RunsOutbox, asked_by}
use Rattle.ill_room.specs.Room.{RoomState, Answers, EndsRun, is_correct_room}
use Rattle.ill_room.specs.Backup.{BackupState, HasCopy, IsSameWish}
use Rattle.ill_room.specs.Letters.{file_verdicts}
use Rattle.ill_exchange.specs.declared.rooms.Plan.{Plan}
use Rattle.ill_exchange.specs.declared.rooms.Rooms.{Rooms}
use Rattle.ill_exchange.specs.Nights.{AskedNight, Night, FinishesNight, SettlesRun}

-- ---- the message files that come

-- Returns the night of the message files that arrived, with these verdicts.
abbrev pub night_of : Arrived → List Verdict → Night
night_of arrived verdicts = record { verdicts = verdicts; message_files = arrived.message_files; waiting = arrived.waiting }

-- The message files that arrived were taken at a desk, and their files settled.
abbrev pub TakesFound : Arrived → CommandState DeskContents → Result Night ToolFault → CommandState DeskContents → Type 0
TakesFound arrived old result new =
    (answer : Result (List Verdict) ToolFault) × RunsInbox many_sides arrived old answer new
    × SettlesRun arrived.message_files arrived.waiting answer result

-- A run over `message_files` ended well with `verdicts`, and the desk after it, `desk`, is saved. Then the messages
-- that ask were kept, and the files of the message files settled. The room went from `old` to `new`, and `answer` says
-- if all was done. The message files of a letter share its file.
pub record SettlesSaved {A : Type 0} (message_files : List MessageFile) (verdicts : List Verdict)
    (desk : HeldAndCommitted DeskContents)
    (old : RoomState) (answer : Result A ToolFault) (new : RoomState) : Type 0 where
  pub saved : Succeeded message_files verdicts desk
  pub ends : Answers is_correct_room
      (EndsRun (asked_by desk.live (zip message_files verdicts)) (file_verdicts (zip message_files verdicts)))
      old answer new

-- The message files of a room were taken at a desk, which is `desk` after that. After a fault nothing was done in the
-- room, or the run was saved, and its files settled as far as they could be.
abbrev pub TakesInRoom : List MessageFile → HeldAndCommitted DeskContents → RoomState → Result (List Verdict) ToolFault
    → RoomState →
    Type 0
TakesInRoom message_files desk old (Ok verdicts) new = SettlesSaved {A = Unit {0}} message_files verdicts desk old (Ok tt) new
TakesInRoom message_files desk old (Err fault) new =
    (new ≡ old) ⊎ ((verdicts : List Verdict) × SettlesSaved {A = Unit {0}} message_files verdicts desk old (Err fault) new)

-- The verdict of a message file is that it is done.
abbrev pub IsDone : Option Verdict → Type 0
IsDone verdict = (outcome : DeskOutcome) × (verdict ≡ Some (Done outcome))

-- Message file `number` was done in a run over `message_files` that is saved at the desk.
abbrev pub IsDoneInSaved : List MessageFile → HeldAndCommitted DeskContents → ℕ → Type 0
IsDoneInSaved message_files desk number =
    (verdicts : List Verdict) × Succeeded message_files verdicts desk × IsDone (slice_get verdicts number)

-- Returns the arguments of the night of `plan`.
abbrev pub asked_in : Plan → AskedNight
asked_in plan = record { form = plan.batch.form; dates = plan.dates }

-- ---- the state of the rooms

-- The state of what leaves in a night: its copy and sign of life, and its outlet.
pub record OutState (M : Type 0) : Type 0 where
  pub backup : BackupState
  pub out : Option M

-- The state of the rooms of a night: the room of the message files that come, and what leaves.
pub record RoomsState (M : Type 0) : Type 0 where
  pub incoming : RoomState
  pub leaving : OutState M

-- Returns the state of what leaves from the rooms of the code.
abbrev pub out_state : {R B O D M : Type 0} → (B → BackupState) → (O → Option M) → Rooms R B O D → OutState M
out_state backup out rooms = record { backup = backup rooms.backup; out = out rooms.out }

-- Returns the state of the rooms of the code.
abbrev pub rooms_state : {R B O D M : Type 0} → (R → RoomState) → (B → BackupState) → (O → Option M) → Rooms R B O D →
    RoomsState M
rooms_state incoming backup out rooms =
    record { incoming = incoming rooms.incoming; leaving = out_state backup out rooms }

-- ---- the messages that leave

-- The messages of a desk that holds `desk` were put into the outlet, or some of them. They leave after the copy is
-- made. A sign of life is given after all have left. `asked` has the messages that ask.
pub record SendsInRooms {M : Type 0} (Puts : Putting M) (asked : List ℕ) (desk : DeskContents) (old new : OutState M)
    : Type 0 where
  pub sends : (new.out ≡ old.out)
      ⊎ ((answer : Result ℕ ToolFault) × RunsOutbox Puts asked desk.held old.out new.out answer)
  pub copy_first : old.backup.is_correct ≡ true → (new.out ≡ old.out) ⊎ HasCopy (sides_held desk) new.backup
  pub sign_last : old.backup.is_correct ≡ true → (new.backup.signs ≡ old.backup.signs)
      ⊎ ((count : ℕ) × RunsOutbox Puts asked desk.held old.out new.out (Ok count))

-- The messages of a desk that holds `desk` were put into an outlet. If the answer is Ok, all were put. Else some were.
abbrev pub PutsAsked : {M A : Type 0} → Putting M → List ℕ → DeskContents → Option M → Option M → Result A ToolFault →
    Type 0
PutsAsked Puts asked desk before after (Ok done) = (count : ℕ) × RunsOutbox Puts asked desk.held before after (Ok count)
PutsAsked Puts asked desk before after (Err fault) =
    (answer : Result ℕ ToolFault) × RunsOutbox Puts asked desk.held before after answer

-- The messages of a desk that holds `desk` were put into the outlet, or some of them. A sign of life was given after
-- all have left. The copy stays as it was.
pub record SendsThenSigns {M : Type 0} (Puts : Putting M) (asked : List ℕ) (desk : DeskContents)
    (old new : OutState M) : Type 0 where
  pub sends : (new.out ≡ old.out)
      ⊎ ((answer : Result ℕ ToolFault) × RunsOutbox Puts asked desk.held old.out new.out answer)
  pub sign_last : old.backup.is_correct ≡ true → (new.backup.signs ≡ old.backup.signs)
      ⊎ ((count : ℕ) × RunsOutbox Puts asked desk.held old.out new.out (Ok count))
  pub copied : old.backup.is_correct ≡ true → new.backup.copied ≡ old.backup.copied
  pub wish : old.backup.is_correct ≡ true → IsSameWish old.backup new.backup

-- ---- the night

-- Nothing was copied, given as a sign, or sent.
pub record IsSilent {M : Type 0} (old new : OutState M) : Type 0 where
  pub backup : new.backup ≡ old.backup
  pub out : new.out ≡ old.out

-- After the message files were taken, the messages of the desk, which is `desk` now, were sent, or nothing was. If the
-- message files could not be taken, nothing was sent.
abbrev pub SendsAfter : {M : Type 0} → Putting M → List MessageFile → Result (List Verdict) ToolFault → DeskContents →
    OutState M → OutState M → Type 0
SendsAfter Puts message_files (Ok verdicts) desk old new =
    IsSilent old new ⊎ SendsInRooms Puts (asked_by desk (zip message_files verdicts)) desk old new
SendsAfter Puts message_files (Err fault) desk old new = IsSilent old new

-- A night over `message_files` led the rooms from `old` to `new`. The message files were taken, and then the messages
-- sent. The desk is `desk` at the end.
abbrev pub NightInRooms : {M : Type 0} → Putting M → List MessageFile → HeldAndCommitted DeskContents → RoomsState M →
    RoomsState M → Type 0
NightInRooms Puts message_files desk old new =
    (met : HeldAndCommitted DeskContents) × (taken : Result (List Verdict) ToolFault)
    × TakesInRoom message_files met old.incoming taken new.incoming
    × SendsAfter Puts message_files taken desk.live old.leaving new.leaving

-- A night at its desk: the message files that arrived were taken, and then the deeds of the day performed, and the
-- messages of the desk sent. After the message files were taken nothing more is kept.
abbrev pub NightOver : Arrived → Option (Date × Dates) → CommandState DeskContents → Result Bool ToolFault →
    CommandState DeskContents → Type 0
NightOver arrived dates old result new =
    (desk : HeldAndCommitted DeskContents) × (written : Option (List ℕ)) × (taken : Result Night ToolFault)
    × TakesFound arrived old taken (with_kept new.kept (command_state desk written))
    × FinishesNight (record { form = arrived.form; dates = dates }) taken (command_state desk written) result new
