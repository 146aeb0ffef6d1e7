-- The short form of APDUs: the encoding of each, and the reading of bytes with the first fault.
use Rattle.std.specs.Prelude.{◌≡◌, ℕ, Bool, ◌+◌, ◌-◌, ◌≤◌, nat_lt, if◌then◌else◌, List, [], ◌∷◌, ◌++◌, length, take, drop, Option}
use Rattle.std.specs.Prelude.{Some, None, Result, Ok, Err, MatchResult}
use Rattle.ill_values.specs.declared.apdu.Apdu.{Apdu}
use Rattle.ill_values.specs.Body.{Body}
use Rattle.ill_values.specs.declared.apdu.BodyWith.TheVariants.{IllRequest, IllAnswer, ConditionalReply, Cancel, CancelReply}
use Rattle.ill_values.specs.declared.apdu.BodyWith.TheVariants.{Shipped, Received, Recall, Returned, CheckedIn, Overdue, Renew}
use Rattle.ill_values.specs.declared.apdu.BodyWith.TheVariants.{RenewAnswer, Expired}
use Rattle.ill_values.specs.declared.apdu.AnswerResult.{AnswerResult}
use Rattle.ill_values.specs.Day.{Date}
use Rattle.ill_der.specs.declared.fault.DerFault.{DerFault}
use Rattle.ill_der.specs.declared.fault.DerFault.TheVariants.{Short, Tag, Length, OutOfMemory}
use Rattle.ill_values.specs.declared.apdu_type.ApduType.{ApduType}
use Rattle.ill_values.specs.declared.apdu_type.ApduType.TheVariants as types
use Rattle.ill_der.specs.declared.length.LengthForm.{LengthForm}
use Rattle.ill_der.specs.declared.length.LengthForm.TheVariants.{Truncated, Invalid, Definite}
use Rattle.ill_der.specs.declared.header.Header.{Header}
use Rattle.ill_der.specs.declared.decoding.Outer as decoding
use Rattle.ill_values.specs.Types.{type_of}
use Rattle.ill_der.specs.Types.{identifier_of, type_with}
use Rattle.ill_der.specs.Contents.{version, number, qualifier, date, item, answer_result, yes_no}
use Rattle.ill_der.specs.Format.{◌>>=◌, element, length_of, Cursor, cursor_at, ended, Format, required, optional, followed_by}
use Rattle.ill_der.specs.Format.{where_yes, constructed}

-- ---- fields

-- Describes the two qualifiers of a transaction id: of the group, and of the transaction.
abbrev pub qualifiers : Format (List ℕ × List ℕ)
qualifiers = followed_by (required 0x81 qualifier) (required 0x82 qualifier)

-- Describes a transaction id: a constructed field with its qualifiers.
abbrev pub txn_id : Format (List ℕ × List ℕ)
txn_id = constructed 0xA1 qualifiers

-- Describes the fields that each type has: the version, the transaction id and the number.
abbrev pub head : Format (Unit {0} × ((List ℕ × List ℕ) × ℕ))
head = followed_by (required 0x80 version) (followed_by txn_id (required 0x82 number))

-- Describes the further fields of an ILL-Request: an expiry date, if any, and the item.
abbrev pub request : Format (Option Date × List ℕ)
request = followed_by (optional 0x85 date) (required 0x86 item)

-- Describes the one further field of a Shipped and of an Overdue: the due date.
abbrev pub due_date : Format Date
due_date = required 0x85 date

-- Describes the one further field of an ILL-Answer: the result.
abbrev pub answer : Format AnswerResult
answer = required 0x84 answer_result

-- Describes the further fields of a Conditional-Reply and a Cancel-Reply:
-- the number of the message answered, and yes or no.
abbrev pub reply : Format (ℕ × Bool)
reply = followed_by (required 0x83 number) (required 0x84 yes_no)

-- Describes the further field of a Renew: the date wished, if any.
abbrev pub wish : Format (Option Date)
wish = optional 0x85 date

-- Describes the further fields of a Renew-Answer: the number of the message answered, and yes or no.
-- The new due date follows a yes.
abbrev pub grant : Format (ℕ × Option Date)
grant = followed_by (required 0x83 number) (where_yes (required 0x84 yes_no) (required 0x85 date))

-- Returns the encoding of the further fields of a body. Six types have none.
abbrev pub encode_body : Body → List ℕ
encode_body (IllRequest expiry text) = request.encode (expiry, text)
encode_body (Shipped due) = due_date.encode due
encode_body (IllAnswer result) = answer.encode result
encode_body (ConditionalReply answers is_yes) = reply.encode (answers, is_yes)
encode_body (CancelReply answers is_yes) = reply.encode (answers, is_yes)
encode_body (Overdue due) = due_date.encode due
encode_body (Renew wished) = wish.encode wished
encode_body (RenewAnswer answers granted) = grant.encode (answers, granted)
encode_body Cancel = []
encode_body Received = []
encode_body Recall = []
encode_body Returned = []
encode_body CheckedIn = []
encode_body Expired = []

-- Reads `fields`, and returns the body that `make` returns for their value.
abbrev pub made_of : {V : Type 0} → Format V → (V → Body) → Cursor → Result (Body × Cursor) DerFault
made_of fields make left = fields.read left >>= λ found. Ok (make found.0, found.1)

-- Reads the further fields of an APDU of this type.
abbrev pub read_body : ApduType → Cursor → Result (Body × Cursor) DerFault
read_body types.IllRequest left = made_of request (λ found. IllRequest found.0 found.1) left
read_body types.Shipped left = made_of due_date Shipped left
read_body types.IllAnswer left = made_of answer IllAnswer left
read_body types.ConditionalReply left = made_of reply (λ found. ConditionalReply found.0 found.1) left
read_body types.CancelReply left = made_of reply (λ found. CancelReply found.0 found.1) left
read_body types.Overdue left = made_of due_date Overdue left
read_body types.Renew left = made_of wish Renew left
read_body types.RenewAnswer left = made_of grant (λ found. RenewAnswer found.0 found.1) left
read_body types.Cancel left = Ok (Cancel, left)
read_body types.Received left = Ok (Received, left)
read_body types.Recall left = Ok (Recall, left)
read_body types.Returned left = Ok (Returned, left)
read_body types.CheckedIn left = Ok (CheckedIn, left)
read_body types.Expired left = Ok (Expired, left)

-- ---- whole APDUs

-- Returns the encoding of the fields that each APDU has, for `apdu`.
abbrev pub head_of : Apdu → List ℕ
head_of apdu = head.encode (tt, ((apdu.txn.group, apdu.txn.transaction), apdu.number))

-- Returns the contents of `apdu`: the encodings of its head and of its further fields.
abbrev pub contents_of : Apdu → List ℕ
contents_of apdu = head_of apdu ++ encode_body apdu.body

-- Returns the encoding of `apdu`, the only one that it has.
unfoldable pub encoding : Apdu → List ℕ
encoding apdu = element (identifier_of (type_of apdu.body)) (contents_of apdu)

-- Returns the header of an APDU of this type and length. More than 355 contents octets are the fault Length.
-- A truncated length is the fault Short with `size`, the number of bytes that are present.
abbrev pub header_by : ApduType → LengthForm → ℕ → Result Header DerFault
header_by apdu_type (Definite n octets) size =
    if nat_lt 355 n then Err (Length 1)
    else Ok (record { apdu_type = apdu_type; start = 1 + octets; size = 1 + (octets + n) })
header_by apdu_type Truncated size = Err (Short size)
header_by apdu_type Invalid size = Err (Length 1)

-- Returns the header of an APDU, from the type of its identifier and the bytes after it. No type is the fault Tag.
abbrev pub header_of : Option ApduType → List ℕ → Result Header DerFault
header_of None bytes = Err (Tag 0)
header_of (Some apdu_type) bytes = header_by apdu_type (length_of bytes) (length bytes + 1)

-- Returns the header with which the bytes begin, or their fault. A header is an identifier and a length.
unfoldable pub header_at : List ℕ → Result Header DerFault
header_at [] = Err (Short 0)
header_at (first ∷ bytes) = header_of (type_with first) bytes

-- An APDU whose bytes are all present: its type, its contents, which are not read yet, and the number of its bytes.
pub record Outer : Type 0 where
  pub apdu_type : ApduType
  pub inside : Cursor
  pub size : ℕ

-- Splits the contents of the APDU with this header from `bytes`. If contents are missing, the fault is Short.
abbrev pub outer_by : Header → List ℕ → Result Outer DerFault
outer_by header bytes =
    if nat_lt (length bytes) header.size then Err (Short (length bytes))
    else Ok (record {
      apdu_type = header.apdu_type;
      inside = cursor_at header.start (take (header.size - header.start) (drop header.start bytes));
      size = header.size;
    })

-- Reads the identifier, the length and the contents with which `bytes` begins, or returns their fault.
unfoldable pub outer_at : List ℕ → Result Outer DerFault
outer_at bytes = header_at bytes >>= λ header. outer_by header bytes

-- Returns the body whose further fields are all of `left`, or the first fault.
unfoldable pub body_of : ApduType → Cursor → Result Body DerFault
body_of apdu_type left = read_body apdu_type left >>= λ body. ended body.1 >>= λ _. Ok body.0

-- Returns the APDU whose contents are all of `left`, or the first fault.
unfoldable pub inside_of : ApduType → Cursor → Result Apdu DerFault
inside_of apdu_type left =
    head.read left >>= λ prefix. body_of apdu_type prefix.1 >>= λ body.
    let version_and_ids = prefix.0 in
    let ids = version_and_ids.1 in
    let txn = ids.0 in
    Ok (record { txn = record { group = txn.0; transaction = txn.1 }; number = ids.1; body = body })

-- Returns the APDU with which `bytes` begins, and the bytes after it, or the first fault.
unfoldable pub apdu_at : List ℕ → Result (Apdu × List ℕ) DerFault
apdu_at bytes =
    outer_at bytes >>= λ outer. inside_of outer.apdu_type outer.inside >>= λ apdu.
    Ok (apdu, drop outer.size bytes)

-- ---- the results of the code

-- Returns the `Outer` of these definitions for an `Outer` of the code.
abbrev pub outer_view : decoding.Outer → Outer
outer_view outer = record { apdu_type = outer.apdu_type; inside = outer.inside; size = outer.size }

-- A function of the decoder gives the value of `read`, through `view`, or the fault of `read`.
abbrev pub DecodesAs : {X V : Type 0} → (X → V) → Result X DerFault → Result V DerFault → Type 0
DecodesAs view (Ok value) read = read ≡ Ok (view value)
DecodesAs view (Err fault) read = read ≡ Err fault

-- Viewing gives the APDU of `read` and the number of its bytes, or the fault of `read`.
abbrev pub Views : List ℕ → Result (Apdu × List ℕ) DerFault → Result (Apdu × ℕ) DerFault → Type 0
Views bytes read (Ok found) =
    (found.1 ≤ length bytes) × (read ≡ Ok (found.0, drop found.1 bytes))
Views bytes read (Err fault) = read ≡ Err fault

-- Decoding gives the fault of `read`, or the APDU of `read` and the number of its bytes.
-- OutOfMemory may come instead of the APDU.
abbrev pub Decodes : List ℕ → Result (Apdu × List ℕ) DerFault → Result (Apdu × ℕ) DerFault → Type 0
Decodes bytes (Err fault) result = result ≡ Err fault
Decodes bytes (Ok read) result =
    MatchResult result (λ found. (found.1 ≤ length bytes) × (read ≡ (found.0, drop found.1 bytes)))
    (λ fault. fault ≡ OutOfMemory)
