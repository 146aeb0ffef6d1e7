-- The command `loan`: all that a desk knows of one loan, and the messages that came in it.
use Rattle.std.specs.Prelude.{◌≡◌, ℕ, Bool, true, false, List, [], ◌++◌, Option, None, Some, Result, Err}
use Rattle.std.specs.Io.KnownBytes.{Appends}
use Rattle.ill_values.specs.TxnId.{Qualifiers}
use Rattle.ill_values.specs.declared.apdu.Apdu.{Apdu}
use Rattle.ill_record.specs.Side.{txn_of}
use Rattle.ill_saved.specs.Holdings.{DeskEntry}
use Rattle.ill_saved.specs.declared.fault.DeskFault.TheVariants.{NoSuchTransaction}
use Rattle.ill_text.specs.declared.fault.ToolFault.{ToolFault}
use Rattle.ill_text.specs.declared.fault.ToolFault.TheVariants.{Desk, OutOfMemory}
use Rattle.ill_text.specs.declared.form.Form.{Form}
use Rattle.ill_text.specs.declared.form.Form.TheVariants as forms
use Rattle.ill_text.specs.ApduObject.{object_line}
use Rattle.ill_text.specs.Input.{AreIn}
use Rattle.ill_text.specs.Json.{Field}
use Rattle.ill_text.specs.Output.{WritesText}
use Rattle.ill_show.specs.declared.loan.Beside.{Beside}
use Rattle.ill_show.specs.declared.loan.LoanForm.{LoanForm}
use Rattle.ill_show.specs.declared.loan.LoanForm.TheVariants.{Lines, Object, Picture}
use Rattle.ill_beside.specs.Diary.{history_fields, history_lines, history_of, messages_of}
use Rattle.ill_beside.specs.FileLines.{lines_of}
use Rattle.ill_show.specs.LoanLines.{kept_lines}
use Rattle.ill_beside.specs.Kept.{kept_of}
use Rattle.ill_beside.specs.Notes.{note_fields, note_of}
use Rattle.ill_show.specs.Objects.{kept_fields}
use Rattle.ill_show.specs.Picture.{picture}

-- Returns the form in which a loan is shown, by the form of the command. If `is_picture` is true, a picture takes the
-- place of lines, but not of an object.
abbrev pub loan_form : Form → (is_picture : Bool) → LoanForm
loan_form forms.Json is_picture = Object
loan_form forms.Lines true = Picture
loan_form forms.Lines false = Lines

-- Returns the lines of an entry of a desk, of its note `words`, and of the messages `kept` that came. The history of
-- the loan, by the lines of `diary`, comes last.
abbrev pub lines_with_history : Option (List ℕ) → (diary : List (List ℕ)) → DeskEntry → List Apdu → List ℕ
lines_with_history words diary held kept =
    kept_lines words held kept ++ history_lines (history_of (messages_of held.side kept) diary)

-- Returns the fields of an entry of a desk, of its note `words`, and of the messages `kept` that came. The history of
-- the loan, by the lines of `diary`, comes last.
abbrev pub fields_with_history : Option (List ℕ) → (diary : List (List ℕ)) → DeskEntry → List Apdu → List Field
fields_with_history words diary held kept =
    kept_fields held kept ++ note_fields words ++ history_fields (history_of (messages_of held.side kept) diary)

-- Returns the text of a loan with this note and this diary, and of the messages that came in it. A picture has
-- neither the note nor the history.
abbrev pub loan_text : LoanForm → Option (List ℕ) → (diary : List (List ℕ)) → DeskEntry → List Apdu → List ℕ
loan_text Lines words diary = lines_with_history words diary
loan_text Object words diary = λ held kept. object_line (fields_with_history words diary held kept)
loan_text Picture words diary = picture

-- `written` is the `text` of the messages of `txn` that `bytes` have.
abbrev pub IsTextOf : (List Apdu → List ℕ) → Qualifiers → List ℕ → List ℕ → Type 0
IsTextOf text txn bytes written = (came : List Apdu) × AreIn bytes came × (written ≡ text (kept_of txn came))

-- The output grew from `before` to `after` by the `text` of the messages of `txn` in `bytes`. If memory ran out, it
-- did not grow. If a write failed, it grew by a prefix of the text.
abbrev pub WritesLoan : (List Apdu → List ℕ) → Qualifiers → List ℕ → Option (List ℕ) → Option (List ℕ) →
    Result (Unit {0}) ToolFault → Type 0
WritesLoan text txn bytes before after (Err OutOfMemory) = Appends before after []
WritesLoan text txn bytes before after result =
    (came : List Apdu) × AreIn bytes came × WritesText before after (text (kept_of txn came)) result

-- The content of the files beside a desk: the lines of the notes of staff and of the diary, and the bytes of the
-- messages that came.
pub record FilesBeside : Type 0 where
  pub notes : List (List ℕ)
  pub diary : List (List ℕ)
  pub came : List ℕ

-- Returns the content of the files beside a desk.
abbrev pub beside_of : Beside → FilesBeside
beside_of beside = record {
  notes = beside.notes.now;
  diary = lines_of beside.diary.now;
  came = beside.came.now;
}

-- The command: it writes the text of an entry of the desk in the form `form`. The text has the note, the history, and
-- the messages of the transaction that came. If the side is not held, there is no entry. Then the fault is
-- `NoSuchTransaction`, and nothing is written.
abbrev pub RunsLoan : LoanForm → FilesBeside → Option DeskEntry → Option (List ℕ) → Option (List ℕ) →
    Result (Unit {0}) ToolFault → Type 0
RunsLoan form beside None before after result = (result ≡ Err (Desk NoSuchTransaction)) × Appends before after []
RunsLoan form beside (Some held) before after result =
    WritesLoan (loan_text form (note_of beside.notes (txn_of held.side)) beside.diary held) (txn_of held.side) beside.came before
    after result
