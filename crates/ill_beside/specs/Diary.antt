-- The history of a loan: the lines of a diary that name a message which the record of the loan has.
use Rattle.std.specs.Prelude.{◌≡◌, IsUtf8, ℕ, Bool, false, nat_lt, ◌&&◌, ◌==◌, if◌then◌else◌, List, [], ◌∷◌, ◌++◌, length, map}
use Rattle.std.specs.Prelude.{filter, find}
use Rattle.std.specs.Prelude.{codes, bytes_eq, Option, None, Some, option_map, option_to_list}
use Rattle.std.specs.List.{after_first, before_first, flat_map, list_any, position_or_len}
use Rattle.std.specs.Str.{is_utf8}
use Rattle.std.specs.Fmt.{decimal}
use Rattle.ill_values.specs.Day.{Date, date_text, iso_text}
use Rattle.ill_values.specs.declared.apdu.Apdu.{Apdu}
use Rattle.ill_values.specs.Body.{Body}
use Rattle.ill_values.specs.declared.apdu.BodyWith.TheVariants as types
use Rattle.ill_values.specs.Types.{type_name}
use Rattle.ill_core.specs.declared.verb.Verb.{Verb}
use Rattle.ill_core.specs.declared.verb.Verb.TheVariants as verbs
use Rattle.ill_core.specs.Verbs.{verb_name}
use Rattle.ill_record.specs.declared.side.Side.{Side}
use Rattle.ill_record.specs.declared.side.Side.TheVariants.{Requester, Responder}
use Rattle.ill_record.specs.Side.{issued_of}
use Rattle.ill_words.specs.Words.{◌>>=◌, day_of}
use Rattle.ill_text.specs.Diary.{message_key}
use Rattle.ill_text.specs.Escape.{escaped}
use Rattle.ill_text.specs.Json.{Field, array, object, optional, quoted}
use Rattle.ill_text.specs.Lines.{line}
use Rattle.ill_beside.specs.Heard.{is_heard}
use Rattle.ill_beside.specs.declared.diary.Entry.{Entry}
use Rattle.ill_beside.specs.declared.diary.Message.{Message}
use Rattle.ill_beside.specs.declared.diary.Part.{Part}

-- ---- a line of a diary

-- What a line says: the day, the name of a person or a dash, and the key of a message.
pub record Said : Type 0 where
  pub day : Date
  pub by : List ℕ
  pub message : List ℕ

-- Returns what an entry says.
abbrev pub said : Entry → Said
said entry = record { day = entry.day; by = entry.by.now; message = entry.message.now }

-- Returns what a line says with this day, this name and this key of a message.
abbrev pub says_of : Date → (by message : List ℕ) → Said
says_of day by message = record { day = day; by = by; message = message }

-- Returns true for a space.
abbrev pub is_space : ℕ → Bool
is_space byte = byte == 0x20

-- `text` is UTF-8, and no space is in it.
abbrev pub IsWord : List ℕ → Type 0
IsWord text = IsUtf8 text × (list_any is_space text ≡ false)

-- Returns the texts before and after the first space, if there is one.
abbrev pub at_space : List ℕ → Option (List ℕ × List ℕ)
at_space text =
    if nat_lt (position_or_len is_space text) (length text) then Some (before_first is_space text, after_first is_space text)
    else None

-- Returns what a line says whose first word is `day`, if that is a day. `parts` are the name and the key of a message.
abbrev pub said_on : (day : List ℕ) → (parts : List ℕ × List ℕ) → Option Said
said_on day parts = option_map (λ d. says_of d parts.0 parts.1) (day_of day)

-- Returns what a text says: a day, a name and the key of a message, with a space between two. Other texts say nothing.
abbrev pub said_in : List ℕ → Option Said
said_in text = at_space text >>= λ first. at_space first.1 >>= said_on first.0

-- Returns what a line says, if it is UTF-8.
abbrev pub said_by : List ℕ → Option Said
said_by text = if is_utf8 text then said_in text else None

-- ---- the messages of a record

-- Returns the verb of the action that issued a message.
abbrev pub body_verb : Body → Verb
body_verb (types.IllRequest expiry item) = verbs.Request
body_verb (types.IllAnswer result) = verbs.Answer
body_verb (types.ConditionalReply answers is_yes) = verbs.Reply
body_verb types.Cancel = verbs.Cancel
body_verb (types.CancelReply answers is_yes) = verbs.CancelReply
body_verb (types.Shipped due) = verbs.Ship
body_verb types.Received = verbs.Receive
body_verb types.Recall = verbs.Recall
body_verb types.Returned = verbs.Return
body_verb types.CheckedIn = verbs.CheckIn
body_verb (types.Overdue due) = verbs.Overdue
body_verb (types.Renew wished) = verbs.Renew
body_verb (types.RenewAnswer answers granted) = verbs.RenewAnswer
body_verb types.Expired = verbs.Expire

-- A message that a line may name: `what` it is, its number, and its key.
pub record Named : Type 0 where
  pub what : List ℕ
  pub number : ℕ
  pub key : List ℕ

-- Returns the model of a message: its word, its number and its key.
abbrev pub named : Message → Named
named message = record { what = message.what.now; number = message.number; key = message.key.items }

-- Returns the message `a`, by this word for it.
abbrev pub named_by : (what : List ℕ) → Apdu → Named
named_by what a = record { what = what; number = a.number; key = message_key a.txn what a.number }

-- Returns a message that was issued. A line names it by its verb.
abbrev pub issued_named : Apdu → Named
issued_named a = named_by (verb_name (body_verb a.body)) a

-- Returns a message that was taken. A line names it by its type.
abbrev pub taken_named : Apdu → Named
taken_named a = named_by (type_name a.body) a

-- Returns the request in a responder's record, if it has begun.
abbrev pub request_taken : Side → List Apdu
request_taken (Requester x) = []
request_taken (Responder y) = option_to_list y.request

-- Returns the messages that the record of a side has: those that it issued, and those of `kept` that it shows as taken.
-- A responder's record has the request itself.
abbrev pub messages_of : Side → (kept : List Apdu) → List Named
messages_of side kept =
    map issued_named (issued_of side) ++ map taken_named (request_taken side ++ filter (is_heard side) kept)

-- ---- the history

-- A part of the history of a loan: the day as eight digits and with hyphens, the name of a person or a dash, and the
-- message.
pub record PrintedPart : Type 0 where
  pub day : List ℕ
  pub iso : List ℕ
  pub by : List ℕ
  pub what : List ℕ
  pub number : ℕ

-- Returns what a part tells.
abbrev pub printed : Part → PrintedPart
printed part =
    record { day = part.day; iso = part.iso; by = part.by.now; what = part.what.now; number = part.number }

-- Returns the part of the history that a line tells of a message.
abbrev pub part_of : Said → Named → PrintedPart
part_of line message = record {
  day = date_text line.day;
  iso = iso_text line.day;
  by = line.by;
  what = message.what;
  number = message.number;
}

-- Returns true if what a line says has this key of a message.
abbrev pub has_key : (key : List ℕ) → Option Said → Bool
has_key key None = false
has_key key (Some line) = bytes_eq line.message key

-- Returns true if one of `lines` names the message with this key.
abbrev pub is_named : (key : List ℕ) → (lines : List (List ℕ)) → Bool
is_named key lines = list_any (λ line. has_key key (said_by line)) lines

-- Returns the part of the history that a line tells of the first of `messages` with the key that it names. Returns None
-- if no message has this key, or a line of `later` names this key too.
abbrev pub part_said : (messages : List Named) → (later : List (List ℕ)) → Said → Option PrintedPart
part_said messages later line =
    if is_named line.message later then None
    else option_map (part_of line) (find (λ message. bytes_eq message.key line.message) messages)

-- Returns the part of the history that a line tells, if it tells one. `later` are the lines after it.
abbrev pub part_at : (messages : List Named) → (later : List (List ℕ)) → List ℕ → Option PrintedPart
part_at messages later text = said_by text >>= part_said messages later

-- Returns the history of a loan that has `messages`, by the lines of a diary: the last line of each message counts.
unfoldable pub history_of : (messages : List Named) → (lines : List (List ℕ)) → List PrintedPart
history_of messages [] = []
history_of messages (line ∷ later) = option_to_list (part_at messages later line) ++ history_of messages later

-- Returns true if a part tells of `message`: it has its word and its number.
abbrev pub tells_of : PrintedPart → Named → Bool
tells_of part message = bytes_eq message.what part.what && message.number == part.number

-- Returns true if a part tells of one of `messages`.
abbrev pub is_of_record : (messages : List Named) → PrintedPart → Bool
is_of_record messages part = list_any (tells_of part) messages

-- A history ends with `part`.
abbrev pub EndsWith : List PrintedPart → PrintedPart → Type 0
EndsWith history part = (before : List PrintedPart) × (history ≡ before ++ part ∷ [])

-- ---- the text

-- Returns the line of a part of the history: the day, the name of a person or a dash, and the message.
abbrev pub part_line : PrintedPart → List ℕ
part_line part =
    line (codes "history") (part.day
    ++ (codes " " ++ (escaped part.by ++ (codes " " ++ (part.what ++ (codes " " ++ decimal part.number))))))

-- Returns the lines of a history after an empty line. A loan without a history has none.
abbrev pub history_lines : List PrintedPart → List ℕ
history_lines [] = []
history_lines (part ∷ parts) = codes "\n" ++ flat_map part_line (part ∷ parts)

-- ---- the objects

-- Returns the name of a person, or nothing for a dash.
abbrev pub person : List ℕ → Option (List ℕ)
person by = if bytes_eq by (codes "-") then None else Some by

-- Returns the fields of a part of the history: the day, the name of a person, the message and its number.
abbrev pub part_fields : PrintedPart → List Field
part_fields part =
    (codes "day", quoted part.iso) ∷ (codes "by", optional quoted (person part.by))
    ∷ (codes "what", quoted part.what) ∷ (codes "number", decimal part.number) ∷ []

-- Returns the object of a part of the history.
abbrev pub part_object : PrintedPart → List ℕ
part_object part = object (part_fields part)

-- Returns the field of a history: an array of its parts, in their order.
abbrev pub history_fields : List PrintedPart → List Field
history_fields parts = (codes "history", array part_object parts) ∷ []
