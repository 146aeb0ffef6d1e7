-- The command `status`: seven lines that show a side.
use Rattle.std.specs.Prelude.{ℕ, Bool, true, false, List, [], ◌∷◌, ◌++◌, length, codes}
use Rattle.std.specs.List.{flat_map}
use Rattle.std.specs.Fmt.{decimal}
use Rattle.ill_core.specs.State.{state_name}
use Rattle.ill_core.specs.Requester.{is_received_by, is_declined}
use Rattle.ill_record.specs.declared.side.Side.{Side}
use Rattle.ill_record.specs.declared.side.Side.TheVariants.{Requester, Responder}
use Rattle.ill_record.specs.Side.{role_of, issued_of, txn_of, state_of, due_date_of}
use Rattle.ill_saved.specs.Holdings.{DeskEntry}
use Rattle.ill_words.specs.Words.{spaced}
use Rattle.ill_words.specs.Shown.{due_text}
use Rattle.ill_text.specs.Lines.{line, id_lines}
use Rattle.ill_record.specs.Roles.{role_name}

-- Returns the mark `word` if the Bool is true, else nothing.
abbrev pub mark : Bool → List ℕ → List (List ℕ)
mark true word = word ∷ []
mark false word = []

-- Returns the marks that the side has.
abbrev pub marks_of : Side → List (List ℕ)
marks_of (Requester x) =
    mark (is_received_by x) (codes "received") ++ mark x.checked_in (codes "checked-in")
    ++ mark (is_declined x) (codes "declined")
marks_of (Responder y) = mark y.received (codes "received")

-- Returns words with one space between two, or a dash if there are none.
abbrev pub spaced_or_dash : List (List ℕ) → List ℕ
spaced_or_dash [] = codes "-"
spaced_or_dash (first ∷ more) = spaced first more

-- Returns the numbers of released and of issued messages, as `RELEASED/ISSUED`.
abbrev pub counts_text : Side → ℕ → List ℕ
counts_text side released = decimal released ++ codes "/" ++ decimal (length (issued_of side))

-- Returns the seven lines of a side with `released` released messages.
unfoldable pub status_lines : Side → ℕ → List ℕ
status_lines side released =
    line (codes "role") (role_name (role_of side)) ++ id_lines (txn_of side).group (txn_of side).transaction
    ++ line (codes "state") (state_name (state_of side)) ++ line (codes "due") (due_text (due_date_of side))
    ++ line (codes "messages") (counts_text side released)
    ++ line (codes "marks") (spaced_or_dash (marks_of side))

-- Returns the seven lines of a side with its released messages.
abbrev pub held_lines : DeskEntry → List ℕ
held_lines held = status_lines held.side held.released

-- Returns the lines of all sides, in their order.
abbrev pub desk_lines : List DeskEntry → List ℕ
desk_lines held = flat_map held_lines held
