-- The notes of staff on loans, in a file of lines: a line a note. The last note of a loan counts.
use Rattle.std.specs.Prelude.{ℕ, Bool, ◌&&◌, ◌||◌, ◌==◌, if◌then◌else◌, nat_eq, List, [], ◌∷◌, ◌++◌, length, drop, fold, map}
use Rattle.std.specs.Prelude.{codes}
use Rattle.std.specs.Prelude.{Option, Some, None, is_ok, option_map, Vec}
use Rattle.std.specs.List.{join_by, starts_with}
use Rattle.std.specs.Option.{option_or}
use Rattle.std.specs.Str.{is_utf8}
use Rattle.std.specs.declared.alloc.Global.{Global}
use Rattle.ill_values.specs.Text.{item_check}
use Rattle.ill_values.specs.TxnId.{Qualifiers}
use Rattle.ill_words.specs.Words.{◌>>=◌}
use Rattle.ill_text.specs.Escape.{escaped}
use Rattle.ill_text.specs.Json.{Field, optional, quoted}
use Rattle.ill_text.specs.Keys.{loan_key}
use Rattle.ill_text.specs.Lines.{line}
use Rattle.ill_beside.specs.Diary.{at_space}

-- ---- the words of a note

-- Returns the note with these words: a space stands between two of them.
abbrev pub note_text : List (List ℕ) → List ℕ
note_text words = join_by (λ word. word) (codes " ") words

-- Returns true if a note may have this text: it is empty, or could be an item.
abbrev pub is_note : List ℕ → Bool
is_note text = length text == 0 || is_ok (item_check text)

-- ---- the line of a note

-- Returns a line of a loan, without its end.
abbrev pub line_of : Qualifiers → (words : List ℕ) → List ℕ
line_of txn words = loan_key txn ++ words

-- Returns the line of a note. A line without words removes the note of its loan.
abbrev pub kept_line : Qualifiers → (words : List ℕ) → List ℕ
kept_line txn words = loan_key txn ++ (escaped words ++ codes "\n")

-- ---- the note of a loan

-- Returns the words of a line, if it begins with `begin` and they are UTF-8.
abbrev pub words_after : (begin line : List ℕ) → Option (List ℕ)
words_after begin line =
    if starts_with nat_eq line begin && is_utf8 (drop (length begin) line) then Some (drop (length begin) line) else None

-- Returns the words of the last of `lines` that has words after `begin` (`words_after`), if one has.
abbrev pub last_words : (begin : List ℕ) → (lines : List (List ℕ)) → Option (List ℕ)
last_words begin lines = fold (λ found line. option_or (words_after begin line) found) None lines

-- Returns the words, or None if they are empty.
abbrev pub unless_empty : Option (List ℕ) → Option (List ℕ)
unless_empty None = None
unless_empty (Some []) = None
unless_empty (Some words) = Some words

-- Returns the note of a loan, if there is one: the words of its last line.
abbrev pub note_of : (lines : List (List ℕ)) → Qualifiers → Option (List ℕ)
note_of lines txn = unless_empty (last_words (loan_key txn) lines)

-- ---- by their keys

-- Returns the first two words of a line, if it has two spaces at least. A space ends a word.
abbrev pub first_words : List ℕ → Option (List ℕ × List ℕ)
first_words text = at_space text >>= λ first. at_space first.1 >>= λ second. Some (first.0, second.0)

-- Returns the key with these parts: a space is after each.
abbrev pub key_of_parts : (group transaction : List ℕ) → List ℕ
key_of_parts group transaction = group ++ (codes " " ++ (transaction ++ codes " "))

-- Returns the key with which a line begins: its first two words, with a space after each. Returns None if it has fewer
-- than two spaces.
abbrev pub begin_of : List ℕ → Option (List ℕ)
begin_of text = option_map (λ parts. key_of_parts parts.0 parts.1) (first_words text)

-- As `begin_of`, for a line of the code.
abbrev pub line_key : Vec ℕ Global → Option (List ℕ)
line_key text = begin_of text.items

-- Returns the words of a line, if it is there, begins with `begin`, and they are UTF-8.
abbrev pub words_found : (begin : List ℕ) → Option (Vec ℕ Global) → Option (List ℕ)
words_found begin None = None
words_found begin (Some text) = words_after begin text.items

-- Returns the words of the line at `place`, if there is a line, it begins with `begin`, and its words are UTF-8. Else
-- returns `found`, the words so far.
abbrev pub looks_after : (begin : List ℕ) → (found : Option (List ℕ)) → (place : ℕ) → Option (Vec ℕ Global) → Option (List ℕ)
looks_after begin found place text = option_or (words_found begin text) found

-- ---- the texts

-- Returns the line of a note in `list`, below the line of its loan. It is empty if there is no note.
abbrev pub listed_note : Option (List ℕ) → List ℕ
listed_note None = []
listed_note (Some words) = codes "    note " ++ (escaped words ++ codes "\n")

-- Returns the line of a note in `loan`. It is empty if there is no note.
abbrev pub note_lines : Option (List ℕ) → List ℕ
note_lines None = []
note_lines (Some words) = line (codes "note") (escaped words)

-- Returns the field of a note, which is `null` if there is none.
abbrev pub note_fields : Option (List ℕ) → List Field
note_fields note = (codes "note", optional quoted note) ∷ []
