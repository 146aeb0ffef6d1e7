-- The command `act`: it performs one action, and saves it.
use Rattle.std.specs.Prelude.{◌≡◌, ◌⊎◌, ℕ, Bool, true, false, List, [], Option, None, Some, Result, Ok, Err}
use Rattle.std.specs.Io.KnownBytes.{Appends}
use Rattle.ill_record.specs.declared.side.Action.{Action}
use Rattle.ill_words.specs.declared.outcome.DeskOutcome.{DeskOutcome}
use Rattle.ill_text.specs.declared.fault.ToolFault.{ToolFault}
use Rattle.ill_text.specs.declared.fault.ToolFault.TheVariants.{Arguments, OutOfMemory}
use Rattle.ill_text.specs.Diary.{DiaryState, Enters}
use Rattle.ill_saved.specs.Holdings.{Effects}
use Rattle.ill_desk.specs.Performing.{HeldAndCommitted, CommandState, acted, Performs}
use Rattle.ill_desk.specs.Telling.{is_fine, shown_at, side_line, Reports}

-- An action on the side `key` leads from `old` to `new`, with this result. It was done and saved. Or it was
-- refused, and nothing changed. Or it was done, and the save failed. Or memory ran out before it was done or
-- saved.
abbrev pub ActsAndSaves : {L K : Type 0} → Effects L K → K → HeldAndCommitted L → Action → Result DeskOutcome ToolFault →
    HeldAndCommitted L → Type 0
ActsAndSaves effects key old action result new =
    Performs effects (Unit {0}) old (acted old.live (effects.acts old.live key action)) result new

-- `fault` is `Arguments`, and the words name no action (`named` is none). Or `fault` is `OutOfMemory`.
abbrev pub FailsToName : Option Action → ToolFault → Type 0
FailsToName named fault = ((fault ≡ Arguments) × (named ≡ None)) ⊎ (fault ≡ OutOfMemory)

-- The command `act`. If the words name an action, it was performed (`ActsAndSaves`), and its line written
-- (`Reports`). If they name none, nothing changed. The fault `OutOfMemory` is possible in both cases.
abbrev pub RunsAct : {L K : Type 0} → Effects L K → K → Option Action → CommandState L → Result Bool ToolFault →
    CommandState L → Type 0
RunsAct effects key (Some action) old result new =
    (performed : Result DeskOutcome ToolFault) × (text : List ℕ)
    × ActsAndSaves effects key old.desk action performed new.desk × Appends old.written new.written text
    × Reports side_line performed (shown_at effects key new.desk.live) text result
RunsAct effects key None old result new =
    ((result ≡ Err Arguments) ⊎ (result ≡ Err OutOfMemory)) × (new.desk ≡ old.desk) × Appends old.written new.written []

-- ---- the diary

-- Returns true after an action that was done, false after one that was refused, or the fault.
abbrev pub fine_of : Result DeskOutcome ToolFault → Result Bool ToolFault
fine_of (Ok outcome) = Ok (is_fine outcome)
fine_of (Err fault) = Err fault

-- An action with this answer leads a diary from `old` to `new`. If it was done, `line` is entered; if not, nothing is.
-- After a fault `line` may have been entered, or not.
abbrev pub EntersDone : Result Bool ToolFault → (line : List ℕ) → DiaryState → DiaryState → Type 0
EntersDone (Ok true) line old new = Enters line old new
EntersDone (Ok false) line old new = new ≡ old
EntersDone (Err fault) line old new = Enters line old new ⊎ (new ≡ old)
