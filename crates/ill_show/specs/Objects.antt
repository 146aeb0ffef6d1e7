-- The objects that the commands write with `--json`: their fields, in the order of the output.
use Rattle.std.specs.Prelude.{ℕ, nat_le, List, [], ◌∷◌, ◌++◌, map, length, codes, Option, None, Some}
use Rattle.std.specs.List.{flat_map}
use Rattle.std.specs.Fmt.{decimal}
use Rattle.ill_values.specs.Day.{Date}
use Rattle.ill_values.specs.declared.apdu.Apdu.{Apdu}
use Rattle.ill_core.specs.State.{state_name}
use Rattle.ill_core.specs.Verbs.{verb_name}
use Rattle.ill_core.specs.ResponderActions.{expiry_of}
use Rattle.ill_record.specs.declared.side.Side.{Side}
use Rattle.ill_record.specs.declared.side.Side.TheVariants.{Requester, Responder}
use Rattle.ill_record.specs.Side.{role_of, issued_of, txn_of, state_of, due_date_of}
use Rattle.ill_record.specs.SideVerbs.{turn_of}
use Rattle.ill_saved.specs.Holdings.{DeskEntry}
use Rattle.ill_text.specs.declared.form.Form.{Form}
use Rattle.ill_text.specs.declared.form.Form.TheVariants.{Lines, Json}
use Rattle.ill_text.specs.Json.{Field, array, day, flag, object, optional, quoted}
use Rattle.ill_show.specs.Status.{status_lines, marks_of}
use Rattle.ill_core.specs.Words.{turn_name}
use Rattle.ill_record.specs.Roles.{role_name}
use Rattle.ill_words.specs.Possible.{possible_on, request_of, item_asked}
use Rattle.ill_text.specs.ApduObject.{object_line, apdu_fields}

-- ---- the fields and the text of `status`

-- Returns the fields of `status` for a side with `released` released messages and the marks `marks`. The first field
-- says that the object is of a loan.
abbrev pub standing_fields : Side → ℕ → List (List ℕ) → List Field
standing_fields side released marks =
    (codes "kind", quoted (codes "loan")) ∷ (codes "role", quoted (role_name (role_of side)))
    ∷ (codes "group", quoted (txn_of side).group) ∷ (codes "transaction", quoted (txn_of side).transaction)
    ∷ (codes "state", quoted (state_name (state_of side))) ∷ (codes "due", optional day (due_date_of side))
    ∷ (codes "released", decimal released) ∷ (codes "issued", decimal (length (issued_of side)))
    ∷ (codes "marks", array quoted marks) ∷ []

-- Returns the fields of `status` for a side with `released` released messages.
abbrev pub status_fields : Side → ℕ → List Field
status_fields side released = standing_fields side released (marks_of side)

-- Returns the text of `status` for a side with `released` released messages: its lines, or its object on a line.
abbrev pub status_text : Form → Side → ℕ → List ℕ
status_text Lines = status_lines
status_text Json = λ side released. object_line (status_fields side released)

-- Returns the text of `status` for an entry of a desk: a side and the number of its released messages.
abbrev pub held_text : Form → DeskEntry → List ℕ
held_text form held = status_text form held.side held.released

-- Returns the text of `status` for an entry of a desk, or nothing if there is no entry.
abbrev pub text_of_one : Form → Option DeskEntry → List ℕ
text_of_one form (Some held) = held_text form held
text_of_one form None = []

-- Returns the texts of `status` for all entries of a desk, in their order.
abbrev pub status_of_desk : Form → List DeskEntry → List ℕ
status_of_desk form held = flat_map (held_text form) held

-- ---- the fields of `loan`

-- Returns the names of the actions that the side may do on the day `today`. If `today` is `None`, these are the
-- actions that it may do on some day.
abbrev pub names_of : Option Date → Side → List (List ℕ)
names_of today side = map verb_name (possible_on today side)

-- Returns four fields: the library that acts next, the actions `names`, and the item and the expiry date of the
-- request.
abbrev pub turn_fields : Side → List (List ℕ) → List Field
turn_fields side names =
    (codes "next", quoted (turn_name (turn_of side))) ∷ (codes "now", array quoted names)
    ∷ (codes "item", optional quoted (item_asked (request_of side)))
    ∷ (codes "expiry", optional day (expiry_of (request_of side))) ∷ []

-- Returns the fields of the message numbers that the record keeps of the other side.
abbrev pub taken_fields : Side → List Field
taken_fields (Requester x) = (codes "held", optional decimal x.held) ∷ []
taken_fields (Responder y) =
    (codes "accepted", optional decimal y.accepted) ∷ (codes "last_cancel", optional decimal y.last_cancel)
    ∷ (codes "last_renew", optional decimal y.last_renew) ∷ []

-- Returns the field `leaves`, which is true if the message may be sent. Without a number of released messages
-- there is no such field.
abbrev pub leaves_fields : Option ℕ → Apdu → List Field
leaves_fields None a = []
leaves_fields (Some released) a = (codes "leaves", flag (nat_le a.number released)) ∷ []

-- Returns the object of a message, with the field `leaves` if there is a number of released messages.
abbrev pub message_object : Option ℕ → Apdu → List ℕ
message_object released a = object (apdu_fields a ++ leaves_fields released a)

-- Returns the field `label` with an array of messages, in their order.
abbrev pub messages_fields : List ℕ → Option ℕ → List Apdu → List Field
messages_fields label released apdus = (label, array (message_object released) apdus) ∷ []

-- Returns the field `messages` of the issued messages, of which `released` are released.
abbrev pub sent_fields : ℕ → List Apdu → List Field
sent_fields released apdus = messages_fields (codes "messages") (Some released) apdus

-- Returns the field `came` of the messages that came.
abbrev pub came_fields : List Apdu → List Field
came_fields apdus = messages_fields (codes "came") None apdus

-- Returns the fields of `loan` for a side, without the messages that came, the note and the history.
abbrev pub loan_fields : Side → ℕ → List Field
loan_fields side released =
    status_fields side released ++ turn_fields side (names_of None side) ++ taken_fields side
    ++ sent_fields released (issued_of side)

-- Returns the fields of `loan` for an entry of a desk and the messages `kept` that came. They lack the note and the
-- history.
abbrev pub kept_fields : DeskEntry → (kept : List Apdu) → List Field
kept_fields held kept = loan_fields held.side held.released ++ came_fields kept
