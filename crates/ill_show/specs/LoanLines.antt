-- The lines of a loan: all that a desk knows of it.
use Rattle.std.specs.Prelude.{ℕ, nat_le, Bool, true, List, [], ◌++◌, map, codes, Option, None, Some}
use Rattle.std.specs.List.{flat_map}
use Rattle.std.specs.Fmt.{decimal}
use Rattle.ill_values.specs.declared.apdu.Apdu.{Apdu}
use Rattle.ill_values.specs.Body.{Body}
use Rattle.ill_values.specs.declared.apdu.BodyWith.TheVariants.{IllRequest}
use Rattle.ill_core.specs.Verbs.{verb_name}
use Rattle.ill_record.specs.declared.side.Side.{Side}
use Rattle.ill_record.specs.declared.side.Side.TheVariants.{Requester, Responder}
use Rattle.ill_record.specs.Side.{issued_of}
use Rattle.ill_saved.specs.Holdings.{DeskEntry}
use Rattle.ill_record.specs.SideVerbs.{turn_of}
use Rattle.ill_words.specs.Shown.{due_text}
use Rattle.ill_text.specs.Escape.{escaped}
use Rattle.ill_text.specs.Lines.{line, reply_word, shown_lines}
use Rattle.ill_words.specs.Possible.{possible_on, request_of}
use Rattle.ill_beside.specs.Notes.{note_lines}
use Rattle.ill_show.specs.Status.{status_lines, spaced_or_dash}
use Rattle.ill_core.specs.Words.{turn_name}

-- Returns the lines of the library that acts next, and of the actions that the side may do now on some day.
abbrev pub turn_lines : Side → List ℕ
turn_lines side =
    line (codes "next") (turn_name (turn_of side))
    ++ line (codes "now") (spaced_or_dash (map verb_name (possible_on None side)))

-- Returns the lines of the item and the expiry date of a request.
abbrev pub item_lines : Body → List ℕ
item_lines (IllRequest expiry item) =
    line (codes "item") (escaped item) ++ line (codes "expiry") (due_text expiry)
item_lines other = []

-- Returns the lines of a request, if there is one.
abbrev pub request_lines : Option Apdu → List ℕ
request_lines None = []
request_lines (Some apdu) = item_lines apdu.body

-- Returns the line of the number of a message, or of a dash if there is none.
abbrev pub optional_number_line : List ℕ → Option ℕ → List ℕ
optional_number_line label None = line label (codes "-")
optional_number_line label (Some number) = line label (decimal number)

-- Returns the lines of the message numbers that the record keeps of the other side. A requester's has the
-- conditions that it holds. A responder's has the last accepted conditions, the last Cancel and the last
-- Renew.
abbrev pub taken_lines : Side → List ℕ
taken_lines (Requester x) = optional_number_line (codes "held") x.held
taken_lines (Responder y) =
    optional_number_line (codes "accepted") y.accepted
    ++ (optional_number_line (codes "last-cancel") y.last_cancel
    ++ optional_number_line (codes "last-renew") y.last_renew)

-- Returns the lines of a side with `released` released messages, but not those of its messages.
abbrev pub side_lines : Side → ℕ → List ℕ
side_lines side released =
    status_lines side released
    ++ (turn_lines side ++ (request_lines (request_of side) ++ taken_lines side))

-- Returns the lines of a message: an empty line, the lines of its fields, and the line of `label`. That line has yes
-- if `is_so` is true, else no.
abbrev pub marked_lines : List ℕ → Bool → Apdu → List ℕ
marked_lines label is_so apdu = codes "\n" ++ (shown_lines apdu ++ line label (reply_word is_so))

-- Returns the lines of an issued message of a side with `released` released messages. The last line says yes if the
-- message may be sent.
abbrev pub message_lines : ℕ → Apdu → List ℕ
message_lines released apdu = marked_lines (codes "leaves") (nat_le apdu.number released) apdu

-- Returns the lines of a side with `released` released messages, of its note, and of its issued messages, in their
-- order.
unfoldable pub loan_lines : Option (List ℕ) → Side → ℕ → List ℕ
loan_lines note side released =
    side_lines side released ++ (note_lines note ++ flat_map (message_lines released) (issued_of side))

-- Returns all lines of a loan with this note, and after them the lines of the messages `kept` that came.
abbrev pub kept_lines : Option (List ℕ) → DeskEntry → List Apdu → List ℕ
kept_lines note held kept = loan_lines note held.side held.released ++ flat_map (marked_lines (codes "came") true) kept
