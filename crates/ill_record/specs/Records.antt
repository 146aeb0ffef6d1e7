-- The bytes of the saved record of one side in a transaction, version 1 (this profile's own).
use Rattle.std.specs.Prelude.{◌≡◌, ℕ, Bool, true, false, ◌==◌, if◌then◌else◌, List, [], ◌∷◌, ◌++◌, Option, Some, None, Result, Ok}
use Rattle.std.specs.Prelude.{Err, is_ok, find}
use Rattle.std.specs.Str.{bytes_eq}
use Rattle.std.specs.Result.{result_ok}
use Rattle.ill_values.specs.Day.{Date, date_text, read_date}
use Rattle.ill_values.specs.declared.apdu.Apdu.{Apdu}
use Rattle.ill_der.specs.Format.{◌>>=◌, Cursor, cursor_at, followed_by}
use Rattle.ill_core.specs.declared.state.State.{State}
use Rattle.ill_core.specs.declared.state.State.TheVariants.{Idle, Pending, InProcess, Conditional, CancelPending, Cancelled}
use Rattle.ill_core.specs.declared.state.State.TheVariants.{NotSupplied, Shipped, Received, RenewPending, Overdue, RenewOverdue}
use Rattle.ill_core.specs.declared.state.State.TheVariants.{NotReceivedOverdue, Recall, Returned, CheckedIn}
use Rattle.ill_core.specs.Requester.{RequesterRecord, requester_of}
use Rattle.ill_core.specs.Responder.{ResponderRecord, responder_of}
use Rattle.ill_record.specs.declared.fault.LayoutFault.{LayoutFault}
use Rattle.ill_record.specs.declared.fault.RecordFault.{RecordFault}
use Rattle.ill_record.specs.declared.fault.RecordFault.TheVariants as faults
use Rattle.ill_record.specs.declared.role.Role.{Role}
use Rattle.ill_record.specs.declared.role.Role.TheVariants as roles
use Rattle.ill_record.specs.declared.side.Side.{Side}
use Rattle.ill_record.specs.declared.side.Side.TheVariants as sides
use Rattle.ill_record.specs.Side.{role_of, is_consistent}
use Rattle.ill_record.specs.Layout.{Field, sized, octet, constant, optional_number, mark, counted_text, apdu}
use Rattle.ill_record.specs.Layout.{ill_request, marked, counted, ended, record_fault}

-- Returns the octet of a state. PENDING and IN-PROCESS have one octet, since no role has both.
abbrev pub state_code : State → ℕ
state_code Idle = 0
state_code Pending = 1
state_code InProcess = 1
state_code Conditional = 2
state_code CancelPending = 3
state_code Cancelled = 4
state_code NotSupplied = 5
state_code Shipped = 6
state_code Received = 7
state_code RenewPending = 8
state_code Overdue = 9
state_code RenewOverdue = 10
state_code NotReceivedOverdue = 11
state_code Recall = 12
state_code Returned = 13
state_code CheckedIn = 14

-- All states of a requester.
abbrev pub requester_states : List State
requester_states =
    Idle ∷ Pending ∷ Conditional ∷ CancelPending ∷ Cancelled ∷ NotSupplied ∷ Shipped ∷ Received
    ∷ RenewPending ∷ Overdue ∷ RenewOverdue ∷ NotReceivedOverdue ∷ Recall ∷ Returned ∷ []

-- All states of a responder.
abbrev pub responder_states : List State
responder_states =
    Idle ∷ InProcess ∷ Conditional ∷ CancelPending ∷ Cancelled ∷ NotSupplied ∷ Shipped
    ∷ RenewPending ∷ Overdue ∷ RenewOverdue ∷ Recall ∷ Returned ∷ CheckedIn ∷ []

-- Returns the state among `states` with octet `n`, if there is one.
abbrev pub state_with : List State → ℕ → Option State
state_with states n = find (λ state. n == state_code state) states

-- Returns the field of a state among `states`, in one octet.
abbrev pub state_in : List State → Field State
state_in states = octet state_code (state_with states)

-- Eight digits 0, the text of an absent date.
abbrev pub no_date : List ℕ
no_date = 48 ∷ 48 ∷ 48 ∷ 48 ∷ 48 ∷ 48 ∷ 48 ∷ 48 ∷ []

-- Returns the text of the due date, or eight zeros if there is none.
abbrev pub due_octets : Option Date → List ℕ
due_octets None = no_date
due_octets (Some due) = date_text due

-- Returns the date as a due date, if a date was read.
abbrev pub found_date : Option Date → Option (Option Date)
found_date None = None
found_date (Some due) = Some (Some due)

-- Returns the due date of a text. Eight zeros are no due date, and any other text without a date is a fault.
abbrev pub due_from : List ℕ → Option (Option Date)
due_from text = if bytes_eq text no_date then Some None else found_date (result_ok (read_date text))

-- The field of a due date, in eight bytes.
abbrev pub due : Field (Option Date)
due = sized 8 (record { encode = due_octets; read = due_from })

-- Returns the field with which the record of either role begins: the state and the two qualifiers.
abbrev pub heading : List State → Field (State × (List ℕ × List ℕ))
heading states = followed_by (state_in states) (followed_by counted_text counted_text)

-- The rest of a requester's record. It is the held number, the checked-in mark, the due date, and the issued APDUs.
abbrev pub requester_rest : Field (Option ℕ × (Bool × (Option Date × List Apdu)))
requester_rest = followed_by optional_number (followed_by mark (followed_by due (counted apdu)))

-- The rest of a responder's record. It is the accepted number, the last Cancel, the last Renew, the received mark,
-- the request, and the issued APDUs.
abbrev pub responder_rest : Field (Option ℕ
    × (Option ℕ × (Option ℕ × (Bool × (Option Apdu × List Apdu)))))
responder_rest =
    followed_by optional_number
    (followed_by optional_number (followed_by optional_number
    (followed_by mark (followed_by (marked ill_request) (counted apdu)))))

-- Returns the octet of a role.
abbrev pub role_octet : Role → ℕ
role_octet roles.Requester = 0
role_octet roles.Responder = 1

-- Returns the role of octet `n`: 0 is a requester, and 1 a responder.
abbrev pub role_with : ℕ → Option Role
role_with n =
    if n == 0 then Some roles.Requester else (if n == 1 then Some roles.Responder else None)

-- The field of a role, in one octet.
abbrev pub role : Field Role
role = octet role_octet role_with

-- The field of the version: the four octets `ILL1`.
abbrev pub version : Field (Unit {0} × (Unit {0} × (Unit {0} × Unit {0})))
version =
    followed_by (constant 73) (followed_by (constant 76) (followed_by (constant 76) (constant 49)))

-- The field with which a record begins: the version and the role.
abbrev pub start : Field ((Unit {0} × (Unit {0} × (Unit {0} × Unit {0}))) × Role)
start = followed_by version role

-- Returns the version and the role, with which a record of this role begins.
abbrev pub encode_start : Role → List ℕ
encode_start role = start.encode ((tt, (tt, (tt, tt))), role)

-- The fields of a requester's record, after the version and the role.
abbrev pub requester_fields : Field ((State × (List ℕ × List ℕ))
    × (Option ℕ × (Bool × (Option Date × List Apdu))))
requester_fields = followed_by (heading requester_states) requester_rest

-- The fields of a responder's record, after the version and the role.
abbrev pub responder_fields : Field ((State × (List ℕ × List ℕ))
    × (Option ℕ × (Option ℕ × (Option ℕ × (Bool × (Option Apdu × List Apdu))))))
responder_fields = followed_by (heading responder_states) responder_rest

-- Returns the encoding of requester `x`, after the version and the role.
abbrev pub encode_requester : RequesterRecord → List ℕ
encode_requester x =
    requester_fields.encode (
      (x.state, (x.txn.group, x.txn.transaction)),
      (x.held, (x.checked_in, (x.due, x.issued))),
    )

-- Returns the encoding of responder `y`, after the version and the role.
abbrev pub encode_responder : ResponderRecord → List ℕ
encode_responder y =
    responder_fields.encode (
      (y.state, (y.txn.group, y.txn.transaction)),
      (y.accepted, (y.last_cancel, (y.last_renew, (y.received, (y.request, y.issued))))),
    )

-- Returns the encoding of a side, after the version and the role.
abbrev pub encode_fields : Side → List ℕ
encode_fields (sides.Requester x) = encode_requester x
encode_fields (sides.Responder y) = encode_responder y

-- Returns the encoding of a side: the version, the role and its fields. A side has no other encoding.
unfoldable pub record_encoding : Side → List ℕ
record_encoding side = encode_start (role_of side) ++ encode_fields side

-- Reads the fields of a requester, and returns its side and the cursor after them.
abbrev pub read_requester : Cursor → Result (Side × Cursor) LayoutFault
read_requester left =
    requester_fields.read left >>= λ found.
    let fields = found.0 in
    let heading = fields.0 in
    let txn = heading.1 in
    let from_held = fields.1 in
    let from_mark = from_held.1 in
    let from_due = from_mark.1 in
    Ok (
      sides.Requester (requester_of (record { group = txn.0; transaction = txn.1 }) heading.0
          from_held.0 from_mark.0 from_due.0 from_due.1),
      found.1,
    )

-- Reads the fields of a responder, and returns its side and the cursor after them.
abbrev pub read_responder : Cursor → Result (Side × Cursor) LayoutFault
read_responder left =
    responder_fields.read left >>= λ found.
    let fields = found.0 in
    let heading = fields.0 in
    let txn = heading.1 in
    let from_accepted = fields.1 in
    let from_cancel = from_accepted.1 in
    let from_renew = from_cancel.1 in
    let from_received = from_renew.1 in
    let from_request = from_received.1 in
    Ok (
      sides.Responder (responder_of (record { group = txn.0; transaction = txn.1 }) heading.0
          from_accepted.0 from_cancel.0 from_renew.0 from_received.0 from_request.0 from_request.1),
      found.1,
    )

-- Reads the fields of a side of this role, and returns the side and the cursor after them.
abbrev pub read_fields : Role → Cursor → Result (Side × Cursor) LayoutFault
read_fields roles.Requester left = read_requester left
read_fields roles.Responder left = read_responder left

-- Returns the value that was read, if no byte is left after it.
abbrev pub all_of : {V : Type 0} → Result (V × Cursor) LayoutFault → Result V LayoutFault
all_of read = read >>= λ found. ended found.1 >>= λ _. Ok found.0

-- Returns the side of this role that all bytes from the cursor on encode, or the first fault.
abbrev pub side_at : Role → Cursor → Result Side LayoutFault
side_at role left = all_of (read_fields role left)

-- Returns the side that all of the bytes encode, or the first fault. The side need not be consistent.
unfoldable pub side_encoded : List ℕ → Result Side LayoutFault
side_encoded bytes = start.read (cursor_at 0 bytes) >>= λ start. side_at start.0.1 start.1

-- Returns the side that was read, if it is consistent, and otherwise `Inconsistent`.
abbrev pub consistent_side : Result Side LayoutFault → Result Side RecordFault
consistent_side (Ok side) = if is_consistent side then Ok side else Err faults.Inconsistent
consistent_side (Err fault) = Err (record_fault fault)

-- Returns the consistent side that all of the bytes encode, or the first fault.
unfoldable pub record_at : List ℕ → Result Side RecordFault
record_at bytes = consistent_side (side_encoded bytes)

-- Returns the states of a role.
abbrev pub states_of : Role → List State
states_of roles.Requester = requester_states
states_of roles.Responder = responder_states

-- Returns true if a state of this role and two qualifiers come next. After these, decoding first takes memory.
abbrev pub has_prefix : Role → Cursor → Bool
has_prefix role left = is_ok ((heading (states_of role)).read left)

-- Returns true if a version and a role were read, and a state and two qualifiers follow them.
abbrev pub has_prefix_after : Result (((Unit {0} × (Unit {0} × (Unit {0} × Unit {0}))) × Role) × Cursor)
    LayoutFault → Bool
has_prefix_after (Ok start) = has_prefix start.0.1 start.1
has_prefix_after (Err fault) = false

-- Returns true if the bytes begin as a record, up to its qualifiers. After these, decoding first takes memory.
unfoldable pub begins_as_record : List ℕ → Bool
begins_as_record bytes = has_prefix_after (start.read (cursor_at 0 bytes))

-- The answer of decoding is `read`, or that memory ran out. Memory can run out only if `begins` is true.
abbrev pub Decodes : {X : Type 0} → Result X RecordFault → Bool → Result X RecordFault → Type 0
Decodes read begins (Err faults.OutOfMemory) = begins ≡ true
Decodes read begins answer = answer ≡ read
