-- Wrong notes of a loan, after one more line was appended to a file of notes.
use Rattle.std.specs.Prelude.{◌≡◌, ℕ, List, [], Option, Some, None, IsUtf8}
use Rattle.ill_values.specs.TxnId.{Qualifiers}
use Rattle.ill_beside.specs.Notes.{note_of}

-- `note` is a wrong note of the loan `txn`, after a line on the loan `on` with `words` was appended to `lines`.
pub data MisjudgesNote (lines : List (List ℕ)) (on txn : Qualifiers) (words : List ℕ) (note : Option (List ℕ)) : Type 0
  where
    -- The last line of the loan has words. But the note is another.
    older : txn ≡ on → IsUtf8 words → (words ≡ [] → ⊥) → (note ≡ Some words → ⊥) → MisjudgesNote lines on txn words note
    -- The last line of the loan has no words. But there is a note.
    still_there : txn ≡ on → words ≡ [] → (note ≡ None → ⊥) → MisjudgesNote lines on txn words note
    -- The line is on another loan. But the note is not what it was.
    of_another : (txn ≡ on → ⊥) → (note ≡ note_of lines txn → ⊥) → MisjudgesNote lines on txn words note
