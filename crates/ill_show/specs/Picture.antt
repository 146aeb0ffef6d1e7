-- The picture of a loan: a sequence chart of its messages, in the language of Mermaid.
use Rattle.std.specs.Prelude.{ℕ, ◌+◌, ◌-◌, nat_le, Bool, true, false, ◌||◌, ◌==◌, if◌then◌else◌, List, [], ◌∷◌, ◌++◌, length}
use Rattle.std.specs.Prelude.{take, drop, fold, codes, Option, None, Some}
use Rattle.std.specs.List.{flat_map}
use Rattle.std.specs.Fmt.{decimal}
use Rattle.ill_values.specs.declared.apdu.Apdu.{Apdu}
use Rattle.ill_values.specs.Body.{Body}
use Rattle.ill_values.specs.declared.apdu.BodyWith.TheVariants.{IllRequest, ConditionalReply, CancelReply, Shipped, Received}
use Rattle.ill_values.specs.declared.apdu.BodyWith.TheVariants.{Returned, CheckedIn, Renew, RenewAnswer}
use Rattle.ill_values.specs.Bodies.{is_requesters}
use Rattle.ill_record.specs.declared.side.Side.{Side}
use Rattle.ill_record.specs.declared.side.Side.TheVariants.{Requester, Responder}
use Rattle.ill_record.specs.Side.{issued_of}
use Rattle.ill_saved.specs.Holdings.{DeskEntry}
use Rattle.ill_show.specs.declared.picture.Link.{Link}
use Rattle.ill_show.specs.declared.picture.Link.TheVariants.{Before, After}
use Rattle.ill_text.specs.Escape.{is_within}
use Rattle.ill_values.specs.Types.{type_name}
use Rattle.ill_text.specs.Lines.{shown_fields}
use Rattle.ill_beside.specs.Kept.{is_among}

-- ---- texts

-- Returns true if a chart may have `byte` unescaped. It may have ASCII letters and digits, spaces, commas,
-- hyphens and full stops. It may have any byte beyond ASCII.
abbrev pub is_plain : ℕ → Bool
is_plain byte =
    is_within 97 122 byte || (is_within 65 90 byte || (is_within 48 57 byte || (byte == 32
    || (is_within 44 46 byte || nat_le 128 byte))))

-- Returns the text of `byte` in a chart. A line feed becomes `<br/>`, a line break in the text of an arrow.
-- Any other byte that is not plain becomes an escape with its number.
abbrev pub drawn_byte : ℕ → List ℕ
drawn_byte byte =
    if byte == 10 then codes "<br/>"
    else (if is_plain byte then byte ∷ [] else codes "#" ++ decimal byte ++ codes ";")

-- Returns `text` with escapes, so that Mermaid takes no byte of it for syntax.
abbrev pub drawn : List ℕ → List ℕ
drawn text = flat_map drawn_byte text

-- ---- arrows

-- Returns the label of the arrow of a message: its number, its type, and the lines of its further fields.
abbrev pub label_of : Apdu → List ℕ
label_of apdu = decimal apdu.number ++ codes " " ++ type_name apdu.body ++ codes "\n" ++ shown_fields apdu.body

-- Returns a text without its last byte.
abbrev pub without_last : List ℕ → List ℕ
without_last text = take (length text - 1) text

-- Returns the beginning of the arrow of a message: its sender and its receiver.
abbrev pub arrow_of : Body → List ℕ
arrow_of body = if is_requesters body then codes "  requester->>responder: " else codes "  responder->>requester: "

-- Returns the arrow of a message.
unfoldable pub arrow : Apdu → List ℕ
arrow apdu = arrow_of apdu.body ++ drawn (without_last (label_of apdu)) ++ codes "\n"

-- Returns the arrows of messages.
abbrev pub arrows : List Apdu → List ℕ
arrows apdus = flat_map arrow apdus

-- ---- the order of the messages

-- Returns true if a message with this body answers the message `asked` of the other side.
abbrev pub answers : Body → ℕ → Bool
answers (ConditionalReply number is_yes) asked = number == asked
answers (CancelReply number is_yes) asked = number == asked
answers (RenewAnswer number granted) asked = number == asked
answers other asked = false

-- Returns true if a message with the body `own` needs `their`: it is issued only after `their` has come.
abbrev pub comes_before : Body → Body → Bool
comes_before (IllRequest expiry item) own = true
comes_before (Shipped due) Received = true
comes_before (Shipped due) (Renew wished) = true
comes_before (Shipped due) Returned = true
comes_before Returned CheckedIn = true
comes_before their own = false

-- Returns true if `own` and `their` have this link. `Before`: `own` needs `their`, or answers it. `After`:
-- `their` answers `own`.
abbrev pub is_linked : Link → Apdu → Apdu → Bool
is_linked Before own their = comes_before their.body own.body || answers own.body their.number
is_linked After own their = answers their.body own.number

-- A place in the messages of the other side. `place` is the number of messages passed, and `last` the number
-- up to the last linked one.
pub record Reached : Type 0 where
  pub place : ℕ
  pub last : ℕ

-- Returns the place `far` after one more message `their` of the other side. It is a new `last` if `their` is linked
-- to `own`.
abbrev pub reach : Link → Apdu → Reached → Apdu → Reached
reach link own far their = record {
  place = far.place + 1;
  last = if is_linked link own their then far.place + 1 else far.last;
}

-- Returns the number of messages in `theirs` up to the last one that is linked to `own`. It is 0 if none is
-- linked.
abbrev pub through : Link → Apdu → List Apdu → ℕ
through link own theirs = (fold (reach link own) (record { place = 0; last = 0 }) theirs).last

-- The arrows drawn so far, and the messages of the other side that are not drawn yet.
pub record Drawing : Type 0 where
  pub lines : List ℕ
  pub left : List Apdu

-- Returns the messages of `theirs` up to the last one that is linked to `own`.
abbrev pub linked : Link → Apdu → List Apdu → List Apdu
linked link own theirs = take (through link own theirs) theirs

-- Returns the messages of `theirs` after the last one that is linked to `own`.
abbrev pub not_linked : Link → Apdu → List Apdu → List Apdu
not_linked link own theirs = drop (through link own theirs) theirs

-- Returns the drawing after one more message of this side. Before `own` it draws the other side's messages up
-- to the last that `own` needs or answers. After `own` it draws them up to the last answer to it.
abbrev pub with_own : Drawing → Apdu → Drawing
with_own so_far own =
    let left = not_linked Before own so_far.left in
    record {
      lines = so_far.lines ++ (arrows (linked Before own so_far.left) ++ (arrow own ++ arrows (linked After own left)));
      left = not_linked After own left;
    }

-- ---- the picture

-- Returns the messages `kept`, with the request before them, if they lack it.
abbrev pub with_request : Option Apdu → List Apdu → List Apdu
with_request None kept = kept
with_request (Some request) kept = if is_among kept request then kept else request ∷ kept

-- Returns the messages `kept` that came to a side. If they lack the request in a responder's record, it comes
-- first.
abbrev pub theirs_of : Side → List Apdu → List Apdu
theirs_of (Requester x) kept = kept
theirs_of (Responder y) kept = with_request y.request kept

-- Returns the first lines of a picture: the kind of chart and its two participants.
abbrev pub opening : List ℕ
opening = codes "sequenceDiagram\n  participant requester\n  participant responder\n"

-- Returns the arrows drawn so far, and then the arrows of all messages that are left.
abbrev pub all_drawn : Drawing → List ℕ
all_drawn drawing = drawing.lines ++ arrows drawing.left

-- Returns the picture of the messages `own` of this side and `theirs` of the other.
abbrev pub picture_of : List Apdu → List Apdu → List ℕ
picture_of own theirs = all_drawn (fold with_own (record { lines = opening; left = theirs }) own)

-- Returns the picture of a side and of the messages `kept` that came to it.
abbrev pub picture : DeskEntry → List Apdu → List ℕ
picture held kept = picture_of (issued_of held.side) (theirs_of held.side kept)
