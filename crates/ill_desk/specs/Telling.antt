-- The texts of an outcome and of the side after it, and the answer with them (this profile's own).
use Rattle.std.specs.Prelude.{◌≡◌, ℕ, Bool, true, false, List, [], ◌++◌, take, Option, codes, Result, Ok, Err}
use Rattle.std.specs.Io.KnownBytes.{Appends}
use Rattle.ill_values.specs.declared.apdu.Apdu.{Apdu}
use Rattle.ill_core.specs.declared.taking.Taking.TheVariants.{Conflict}
use Rattle.ill_saved.specs.Shown.{shown_of}
use Rattle.ill_saved.specs.Holdings.{DeskEntry, Effects}
use Rattle.ill_saved.specs.declared.shown.Shown.{Shown}
use Rattle.ill_words.specs.declared.outcome.Outcome.TheVariants as outcomes
use Rattle.ill_words.specs.declared.outcome.DeskOutcome.{DeskOutcome}
use Rattle.ill_words.specs.declared.outcome.DeskOutcome.TheVariants.{Plain, NoSuchTransaction, DeskFull}
use Rattle.ill_words.specs.Shown.{shown_text}
use Rattle.ill_words.specs.Outcome.{desk_outcome_word}
use Rattle.ill_text.specs.declared.fault.ToolFault.{ToolFault}
use Rattle.ill_text.specs.declared.fault.ToolFault.TheVariants.{Write, OutOfMemory}
use Rattle.ill_text.specs.LongLines.{heading, said}

-- Returns true if nothing was refused, and no message was in conflict.
abbrev pub is_fine : DeskOutcome → Bool
is_fine (Plain (outcomes.Refused refusal)) = false
is_fine (Plain (outcomes.Answered (Conflict state))) = false
is_fine NoSuchTransaction = false
is_fine DeskFull = false
is_fine (Plain outcome) = true

-- Returns the parts of an entry of a desk that a line shows.
abbrev pub shown_in : DeskEntry → Shown
shown_in held = shown_of held.side held.released

-- Returns the shown parts of the side `key` at the desk `live`.
abbrev pub shown_at : {L K : Type 0} → Effects L K → K → L → Shown
shown_at effects key live = shown_in (effects.side_for key live)

-- Returns these parts of a side once it is saved: all of its messages are released.
abbrev pub once_saved : Shown → Shown
once_saved shown = record shown { released = shown.issued }

-- Returns the line of an outcome, with the state of the side after it.
abbrev pub side_line : DeskOutcome → Shown → List ℕ
side_line outcome now = desk_outcome_word outcome ++ codes " " ++ shown_text now ++ codes "\n"

-- Returns the line of the outcome `done`, with the state of the side.
abbrev pub done_line : Shown → List ℕ
done_line now = side_line (Plain outcomes.Done) now

-- ---- messages

-- A function that gives the text of an outcome and of the side after it.
abbrev pub Words : Type 0
Words = DeskOutcome → Shown → List ℕ

-- A function that gives, for a message, the text of its outcome and of the side after it.
abbrev pub Wording : Type 0
Wording = Apdu → Words

-- Returns the line of the outcome alone.
abbrev pub short : Wording
short a = side_line

-- Returns the heading of a message, the line of its outcome, and the lines of its fields.
abbrev pub long : Wording
long a outcome now = heading a ++ side_line outcome now ++ said a

-- Returns the long text if the Bool is true, else the short one.
abbrev pub wording : Bool → Wording
wording true = long
wording false = short

-- ---- the output and the answer

-- `text` is the output of a command after an event, and the last argument its answer. If the event has an outcome,
-- `text` is the words of the outcome, and the answer is its `is_fine`. After the fault `Write`, `text` is a prefix of
-- the words; after `OutOfMemory` it is empty. If the event has a fault, that is the answer, and `text` is empty.
-- After an outcome no other fault is possible.
abbrev pub Reports : Words → Result DeskOutcome ToolFault → Shown → List ℕ → Result Bool ToolFault → Type 0
Reports words (Ok outcome) now text (Ok fine) = (fine ≡ is_fine outcome) × (text ≡ words outcome now)
Reports words (Ok outcome) now text (Err Write) = (size : ℕ) × (text ≡ take size (words outcome now))
Reports words (Ok outcome) now text (Err OutOfMemory) = text ≡ []
Reports words (Ok outcome) now text (Err other) = ⊥
Reports words (Err fault) now text result = (result ≡ Err fault) × (text ≡ [])

-- The output grew from `before` to `after` by the words of `outcome`. The result is `is_fine outcome`. If the writer
-- failed, it grew by a prefix of the words. If memory ran out for the words, it did not grow.
abbrev pub WritesOutcome : Words → Option (List ℕ) → Option (List ℕ) → DeskOutcome → Shown → Result Bool ToolFault → Type 0
WritesOutcome words before after outcome now result =
    (text : List ℕ) × Appends before after text × Reports words (Ok outcome) now text result
