-- The command `note`: it keeps a note on a loan beside the desk of the loan.
use Rattle.std.specs.Prelude.{◌≡◌, ◌⊎◌, ℕ, Bool, List, map, codes, Option, None, Some, Result, Ok, Err}
use Rattle.ill_values.specs.TxnId.{Qualifiers}
use Rattle.ill_record.specs.declared.side.Side.{Side}
use Rattle.ill_saved.specs.declared.fault.DeskFault.TheVariants.{NoSuchTransaction}
use Rattle.ill_record.specs.Sides.{side_with}
use Rattle.ill_saved.specs.Desk.{DeskOf}
use Rattle.ill_saved.specs.ManySides.{DeskContents, sides_held}
use Rattle.ill_text.specs.declared.fault.ToolFault.{ToolFault}
use Rattle.ill_text.specs.declared.fault.ToolFault.TheVariants.{Desk}
use Rattle.ill_text.specs.Output.{WritesText}
use Rattle.ill_beside.specs.Notes.{kept_line, note_text}
use Rattle.ill_desk.specs.Take.{KeepsPrefix}
use Rattle.ill_files.specs.Opening.{FailsToOpen, Succeeds}
use Rattle.ill_place.specs.Place.{PlaceOf, StartsAt}
use Rattle.ill_commands.specs.declared.note.NoteView.{NoteView}

-- Returns the text of a note.
abbrev pub text_of : NoteView → List ℕ
text_of view = note_text (map (λ word. word.now) view.words.now)

-- Once the line of a note was kept, `done` was written. If it was not kept, the result is its fault, and nothing was
-- written.
abbrev pub PrintsKept : Result (Unit {0}) ToolFault → Option (List ℕ) → Option (List ℕ) → Result (Unit {0}) ToolFault → Type 0
PrintsKept (Ok done) before after result = WritesText before after (codes "done\n") result
PrintsKept (Err fault) before after result = (result ≡ Err fault) × (after ≡ before)

-- The notes grew from `kept` to `now` by the line of a note, and the output went from `before` to `after`.
abbrev pub RunsNote : (line : List ℕ) → (kept now : Option (List ℕ)) → Option (List ℕ) → Option (List ℕ) →
    Result (Unit {0}) ToolFault → Type 0
RunsNote line kept now before after result =
    (saved : Result (Unit {0}) ToolFault) × KeepsPrefix line kept now saved × PrintsKept saved before after result

-- The line of a note was kept in the file of notes. Or that could not be opened, and nothing was written.
abbrev pub KeepsAtFile : (line : List ℕ) → Option (List ℕ) → Option (List ℕ) → Result (Unit {0}) ToolFault → Type 0
KeepsAtFile line before after result =
    FailsToOpen before after result
    ⊎ ((kept : Option (List ℕ)) × (now : Option (List ℕ)) × RunsNote line kept now before after result)

-- If the loan has a side, the line of a note was kept. Without a side the fault is `NoSuchTransaction`, and nothing was
-- written.
abbrev pub KeepsNote : Option Side → (line : List ℕ) → Option (List ℕ) → Option (List ℕ) → Result (Unit {0}) ToolFault → Type 0
KeepsNote None line before after result = (result ≡ Err (Desk NoSuchTransaction)) × (after ≡ before)
KeepsNote (Some side) line before after result = KeepsAtFile line before after result

-- A note on the loan `txn` was kept, if the desk of the place has that loan. Or the file of the desk could not be
-- opened.
abbrev pub NotesAtFile : {S : Type 0} → PlaceOf S → Qualifiers → (words : List ℕ) → Option (List ℕ) → Option (List ℕ) →
    Result Bool ToolFault → Type 0
NotesAtFile {S} place txn words before after result =
    FailsToOpen before after result
    ⊎ ((desk : DeskOf DeskContents S) × StartsAt place desk
    × Succeeds (KeepsNote (side_with txn (sides_held desk.live).sides) (kept_line txn words) before after) result)
