-- The maximum length of a record.
use Rattle.std.proofs.Common.{◌≡◌, ℕ, ◌+◌, ◌*◌, ◌≤◌, Bool, true, false, ◌||◌, not, List, [], ◌∷◌, length, length-append, Option}
use Rattle.std.proofs.Common.{Some, None, refl, arith}
use Rattle.std.specs.Prelude.{IfSome}
use Rattle.std.specs.List.{list_all}
use Rattle.std.proofs.lemmas.Bool.{and_parts}
use Rattle.ill_values.specs.declared.apdu.Apdu.{Apdu}
use Rattle.ill_values.specs.Body.{Body}
use Rattle.ill_values.specs.declared.apdu.BodyWith.TheVariants as bodies
use Rattle.ill_values.specs.Apdu.{IsApdu}
use Rattle.ill_values.specs.Day.{Date}
use Rattle.ill_values.specs.Text.{IsQualifier}
use Rattle.sha2.specs.Sha256.{sha256}
use Rattle.sha2.proofs.Facts256.{length-sha256}
use Rattle.ill_values.specs.declared.apdu_type.ApduType.TheVariants.{IllRequest}
use Rattle.ill_values.specs.Types.{type_of}
use Rattle.ill_der.specs.ShortForm.{encoding}
use Rattle.ill_core.specs.declared.state.State.{State}
use Rattle.ill_values.specs.Bodies.{is_ill_request, is_requesters}
use Rattle.ill_core.specs.Issued.{has_message_with}
use Rattle.ill_core.specs.Requester.{begins_with_request}
use Rattle.ill_record.specs.declared.side.Side.{Side}
use Rattle.ill_record.specs.declared.side.Side.TheVariants as sides
use Rattle.ill_record.specs.Layout.{apdu, ill_request, marked, counted, encode_all}
use Rattle.ill_record.specs.Records.{due_octets, heading, requester_states, responder_states, requester_rest, responder_rest}
use Rattle.ill_record.specs.Records.{record_encoding}
use Rattle.ill_record.specs.Ranges.{Each, IsSide}
use Rattle.ill_record.specs.Sides.{SidesOf}
use Rattle.ill_record.specs.RecordsV2.{two_octets, part, body_of, sides_encoding, AreSides}
use Rattle.ill_record.proofs.Rules.{requester_request, responder_types}

-- The laws of the crates below on the lengths of a qualifier and of an APDU. They treat an ILL-Request apart.
pub record Bounds : Type 0 where
  pub qualifier : (text : List ℕ) → IsQualifier text → (1 ≤ length text) × (length text ≤ 64)
  pub longest : (a : Apdu) → IsApdu a → length (encoding a) ≤ 359
  pub shorter : (a : Apdu) → IsApdu a → (type_of a.body ≡ IllRequest → ⊥) → length (encoding a) ≤ 162

-- ---- the APDUs that were issued

-- A body that is no ILL-Request has another type.
other_type : (body : Body) → is_ill_request body ≡ false → type_of body ≡ IllRequest → ⊥
other_type (bodies.IllRequest expiry text) e is = cc
other_type _ e is = cc

-- If `a || b` is false, both are false.
either : (a b : Bool) → (a || b) ≡ false → (a ≡ false) × (b ≡ false)
either true b e = absurd cc
either false b e = (refl, e)

-- If `not a` is true, `a` is false.
opposite : (a : Bool) → not a ≡ true → a ≡ false
opposite true e = absurd cc
opposite false e = refl

-- If no APDU in the list is an ILL-Request, their encodings have at most 162 bytes each.
others_bound : Bounds → (apdus : List Apdu) → Each IsApdu apdus → has_message_with is_ill_request apdus ≡ false
    → length (encode_all encoding apdus) ≤ 162 * length apdus
unfolding encode_all Each
others_bound bounds [] are none = omega arith
others_bound bounds (a ∷ apdus) are none =
    let parts = either (is_ill_request a.body) (has_message_with is_ill_request apdus) none in
    omega (
      arith,
      bounds.shorter a are.0 (other_type a.body parts.0),
      others_bound bounds apdus are.1 parts.1,
      length-append (encoding a) (encode_all encoding apdus),
    )

-- If only the first APDU is an ILL-Request, all encodings have at most 162 bytes for each APDU, and 197 more.
requester_issued_bound : Bounds → (apdus : List Apdu) → Each IsApdu apdus → begins_with_request apdus ≡ true
    → length (encode_all encoding apdus) ≤ 162 * length apdus + 197
unfolding encode_all Each
requester_issued_bound bounds [] are begins = omega arith
requester_issued_bound bounds (a ∷ apdus) are begins =
    let parts = and_parts (is_ill_request a.body) (not (has_message_with is_ill_request apdus)) begins in
    omega (
      arith,
      bounds.longest a are.0,
      others_bound bounds apdus are.1 (opposite (has_message_with is_ill_request apdus) parts.1),
      length-append (encoding a) (encode_all encoding apdus),
    )

-- A body of a responder's type is no ILL-Request.
not_own : (body : Body) → not (is_requesters body) ≡ true → is_ill_request body ≡ false
not_own (bodies.IllRequest expiry text) e = absurd cc
not_own _ e = refl

-- If all APDUs are of a responder's type, none is an ILL-Request.
none_requested : (apdus : List Apdu) → list_all (λ a. not (is_requesters a.body)) apdus ≡ true
    → has_message_with is_ill_request apdus ≡ false
none_requested [] role = refl
none_requested (a ∷ apdus) role =
    let parts = and_parts (not (is_requesters a.body)) (list_all (λ a. not (is_requesters a.body)) apdus) role in
    rw (not_own a.body parts.0) (none_requested apdus parts.1)

-- ---- the record of one side, and its fields

-- If both qualifiers have at most 64 bytes, the field of a state and the two has at most 131 bytes.
prefix_bound : (states : List State) (state : State) (group transaction : List ℕ) → length group ≤ 64
    → length transaction ≤ 64 → length ((heading states).encode (state, (group, transaction))) ≤ 131
prefix_bound states state group transaction eg et = omega (arith, eg, et, length-append group (length transaction ∷ transaction))

-- The text of an optional due date has eight bytes.
due_length : (o : Option Date) → length (due_octets o) ≡ 8
due_length None = refl
due_length (Some d) = refl

-- The field of an optional request has at most 360 bytes.
request_bound : Bounds → (o : Option Apdu) → IfSome o IsApdu → length ((marked ill_request).encode o) ≤ 360
request_bound bounds None is = omega arith
request_bound bounds (Some a) is = omega (arith, bounds.longest a is)

-- The record of a consistent side in range has at most 41,811 bytes. This is the sum of the bounds of its fields.
pub record_bound : Bounds → (side : Side) → IsSide side → length (record_encoding side) ≤ 41811
unfolding record_encoding
record_bound bounds (sides.Requester x) is =
    let txn = is.1.parts.txn in
    let head = (heading requester_states).encode (x.state, (x.txn.group, x.txn.transaction)) in
    let issued = encode_all encoding x.issued in
    omega (
      arith,
      prefix_bound requester_states x.state x.txn.group x.txn.transaction (bounds.qualifier x.txn.group txn.group).1
          (bounds.qualifier x.txn.transaction txn.transaction).1,
      length-append head (requester_rest.encode (x.held, (x.checked_in, (x.due, x.issued)))),
      length-append (due_octets x.due) ((counted apdu).encode x.issued),
      due_length x.due,
      requester_issued_bound bounds x.issued is.1.issued (requester_request x is.0),
      is.1.few,
    )
record_bound bounds (sides.Responder y) is =
    let txn = is.1.parts.txn in
    let head = (heading responder_states).encode (y.state, (y.txn.group, y.txn.transaction)) in
    let request = (marked ill_request).encode y.request in
    omega (
      arith,
      prefix_bound responder_states y.state y.txn.group y.txn.transaction (bounds.qualifier y.txn.group txn.group).1
          (bounds.qualifier y.txn.transaction txn.transaction).1,
      length-append head (responder_rest.encode
          (y.accepted, (y.last_cancel, (y.last_renew, (y.received, (y.request, y.issued)))))),
      length-append request ((counted apdu).encode y.issued),
      request_bound bounds y.request is.1.parts.request,
      others_bound bounds y.issued is.1.issued (none_requested y.issued (responder_types y is.0)),
      is.1.few,
    )

-- ---- records of many sides

-- The law of one record: the record of a consistent side in range has at most 41,811 bytes.
abbrev pub IsShort : Type 0
IsShort = (side : Side) → IsSide side → length (record_encoding side) ≤ 41811

-- If `IsShort` holds, the parts of `sides` have at most 41,813 bytes each: a record and its length.
parts_bound : IsShort → (sides : List Side) → Each IsSide sides → length (encode_all part.encode sides) ≤ 41813 * length sides
unfolding encode_all Each
parts_bound short [] each = omega arith
parts_bound short (side ∷ sides) each =
    omega (
      arith,
      short side each.0,
      parts_bound short sides each.1,
      length-append (part.encode side) (encode_all part.encode sides),
      length-append (two_octets.encode (length (record_encoding side))) (record_encoding side),
    )

-- If `IsShort` holds, the record of a desk has at most 41,813,039 bytes.
pub sides_bound : IsShort → (held : SidesOf) → AreSides held → length (sides_encoding held) ≤ 41813039
unfolding sides_encoding
sides_bound short held are =
    omega (
      arith,
      are.few,
      parts_bound short held.sides are.each,
      length-append (body_of held) (sha256 (body_of held)),
      length-sha256 (body_of held),
    )
