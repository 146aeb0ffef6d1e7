-- The laws of saved records. Bytes that are read as a side are its encoding, and a side is read from its encoding.
use Rattle.std.proofs.Common.{◌≡◌, ℕ, Bool, true, false, List, [], ◌∷◌, ◌++◌, length, Option, Some, None, Result, Ok, Err, refl}
use Rattle.std.proofs.Common.{sym, ap, subst, ◌∙◌, inl, inr, append-nil, eqb, arith, rules}
use Rattle.std.specs.Prelude.{IfSome}
use Rattle.std.specs.Str.{bytes_eq}
use Rattle.std.specs.Result.{result_ok}
use Rattle.std.proofs.lemmas.Bool.{eqb-true, and_parts}
use Rattle.std.proofs.lemmas.List.{nil_from_length}
use Rattle.std.proofs.lemmas.Option.{same_Some}
use Rattle.std.proofs.lemmas.Slice.Eq.{bytes_eq-Decides}
use Rattle.ill_values.specs.declared.apdu.Apdu.{Apdu}
use Rattle.ill_values.specs.Day.{Date, IsDate, date_text, read_date}
use Rattle.ill_values.specs.Apdu.{IsApdu, IsNumber}
use Rattle.ill_values.specs.Text.{IsQualifier}
use Rattle.ill_values.specs.TxnId.{Qualifiers}
use Rattle.ill_values.specs.declared.fault.DayFault.{DayFault}
use Rattle.ill_der.specs.Format.{◌>>=◌, Cursor, cursor_at, followed_by}
use Rattle.ill_der.specs.Laws.{IsBytes}
use Rattle.ill_core.specs.declared.state.State.{State}
use Rattle.ill_core.specs.declared.state.State.TheVariants.{Idle, Pending, InProcess, Received, NotReceivedOverdue, CheckedIn}
use Rattle.ill_core.specs.State.{is_among}
use Rattle.ill_values.specs.Bodies.{is_ill_request}
use Rattle.ill_core.specs.Issued.{is_same_txn}
use Rattle.ill_core.specs.Responder.{is_request_of}
use Rattle.ill_record.specs.declared.fault.LayoutFault.TheVariants.{Bad}
use Rattle.ill_record.specs.declared.role.Role.{Role}
use Rattle.ill_record.specs.declared.role.Role.TheVariants as roles
use Rattle.ill_record.specs.declared.side.Side.{Side}
use Rattle.ill_record.specs.declared.side.Side.TheVariants as sides
use Rattle.ill_record.specs.Side.{role_of}
use Rattle.ill_record.specs.Layout.{ended, apdu, ill_request, marked, counted, counted_text, optional_number, mark, constant}
use Rattle.ill_record.specs.Records.{no_date, due_octets, due_from, found_date, due, heading, requester_states, responder_states}
use Rattle.ill_record.specs.Records.{requester_rest, responder_rest, requester_fields, responder_fields, version, role, start}
use Rattle.ill_record.specs.Records.{encode_start, encode_fields, record_encoding, read_requester, read_responder, read_fields}
use Rattle.ill_record.specs.Records.{side_at, side_encoded, record_at, state_in}
use Rattle.ill_record.specs.Ranges.{IsInRange, IsSide}
use Rattle.ill_der.proofs.Chains.{bind_ok, chosen, passed, ok_is}
use Rattle.ill_der.proofs.Formats.{Both}
use Rattle.ill_record.proofs.Fields.{Below, IsField, Any, Counted, IsAmong, IsRequest, rest_fits, sized_is, constant_is}
use Rattle.ill_record.proofs.Fields.{optional_number_is, mark_is, role_is, state_is, followed_is, counted_text_is, apdu_is}
use Rattle.ill_record.proofs.Fields.{ill_request_is, marked_is, counted_is}
use Rattle.ill_record.proofs.Rules.{requester_state, responder_state, responder_request}
use Rattle.ill_record.proofs.Records.{judged_ok, judged_is}

-- ---- due dates

-- If `found_date` gives `v`, a date was read, and `v` is this date.
found_is : (o : Option Date) (v : Option Date) → found_date o ≡ Some v → (d : Date) × (o ≡ Some d) × (Some d ≡ v)
found_is None v e = absurd cc
found_is (Some d) v e = (d, refl, same_Some (Some d) v e)

-- If `result_ok r` is `Some d`, `r` is `Ok d`.
day_found : (r : Result Date DayFault) (d : Date) → result_ok r ≡ Some d → r ≡ Ok d
day_found (Ok x) d e = ap Ok (same_Some x d e)
day_found (Err f) d e = absurd cc

-- If eight bytes are read as an optional due date, they are its text, and the date is valid. Eight zeros are no date
-- (`inl`), and another text is that of a date (`inr`).
due_takes : Below → (bytes : List ℕ) (o : Option Date) → IsBytes bytes → length bytes ≡ 8 → due_from bytes ≡ Some o
    → (bytes ≡ due_octets o) × IfSome o IsDate
due_takes below bytes o fits size e =
    elim (chosen (bytes_eq bytes no_date) (Some None) (found_date (result_ok (read_date bytes))) (Some o) e) [
      | inl h ↦ subst (λ (x : Option Date). (bytes ≡ due_octets x) × IfSome x IsDate) (same_Some None o h.1)
          ((bytes_eq-Decides bytes no_date).0 h.0, tt)
      | inr h ↦
          let found = found_is (result_ok (read_date bytes)) o h.1 in
          let is = below.day_read bytes found.0 (day_found (read_date bytes) found.0 found.1) in
          subst (λ (x : Option Date). (bytes ≡ due_octets x) × IfSome x IsDate) found.2 (is.1, is.0)
    ]

-- If a date is read from its text, the text is not eight zeros.
no_zero_date : (d : Date) → read_date (date_text d) ≡ Ok d → date_text d ≡ no_date → ⊥
no_zero_date d again zero = search (rules, sym (ap read_date zero) ∙ again)

-- If a date is read from its text, the text fails the test for eight zeros.
another_text : (d : Date) (b : Bool) → read_date (date_text d) ≡ Ok d → bytes_eq (date_text d) no_date ≡ b → b ≡ false
another_text d true again is = absurd (no_zero_date d again ((bytes_eq-Decides (date_text d) no_date).0 is))
another_text d false again is = refl

-- A valid optional due date is read from its text, which has eight bytes.
due_again : Below → (o : Option Date) → IfSome o IsDate → (due_from (due_octets o) ≡ Some o) × (length (due_octets o) ≡ 8)
due_again below None p = (refl, refl)
due_again below (Some d) p =
    let again = below.day_encoded d p in
    (rw (another_text d (bytes_eq (date_text d) no_date) again refl, again) refl, refl)

-- The field of a due date obeys the laws of a field, `IsField`. The fields below do so, too.
due_is : Below → IsField (λ o. IfSome o IsDate) due
due_is below = sized_is (λ o. IfSome o IsDate) 8 _ (record { takes = due_takes below; again = due_again below })

-- ---- the fields of a record, and whole records

-- The state is among `states`, and both texts are qualifiers.
abbrev HeadingParts : List State → State × (List ℕ × List ℕ) → Type 0
HeadingParts states = Both (IsAmong states) (Both IsQualifier IsQualifier)

-- The field of a state and two qualifiers obeys the laws.
heading_is : Below → (states : List State) → IsField (HeadingParts states) (heading states)
heading_is below states =
    followed_is (IsAmong states) (Both IsQualifier IsQualifier) (state_in states) (followed_by counted_text counted_text)
    (state_is states)
    (followed_is IsQualifier IsQualifier counted_text counted_text (counted_text_is below) (counted_text_is below))

-- The number, if there is one, is in range.
abbrev IsOptionalNumber : Option ℕ → Type 0
IsOptionalNumber o = IfSome o IsNumber

-- The held number and the due date are in range. The issued APDUs are in range, and fewer than 256.
abbrev RequesterRest : Option ℕ × (Bool × (Option Date × List Apdu)) → Type 0
RequesterRest = Both IsOptionalNumber (Both Any (Both (λ o. IfSome o IsDate) (Counted IsApdu)))

-- The fields of a requester obey the laws.
requester_fields_is : Below → IsField (Both (HeadingParts requester_states) RequesterRest) requester_fields
requester_fields_is below =
    followed_is (HeadingParts requester_states) RequesterRest (heading requester_states) requester_rest
    (heading_is below requester_states)
    (followed_is IsOptionalNumber (Both Any (Both (λ o. IfSome o IsDate) (Counted IsApdu))) optional_number
    (followed_by mark (followed_by due (counted apdu))) optional_number_is
    (followed_is Any (Both (λ o. IfSome o IsDate) (Counted IsApdu)) mark (followed_by due (counted apdu)) mark_is
    (followed_is (λ o. IfSome o IsDate) (Counted IsApdu) due (counted apdu) (due_is below)
    (counted_is IsApdu apdu (apdu_is below)))))

-- The request, if there is one, is an ILL-Request in range. The issued APDUs are in range, and fewer than 256.
abbrev RequestAndIssued : Option Apdu × List Apdu → Type 0
RequestAndIssued = Both (λ o. IfSome o IsRequest) (Counted IsApdu)

-- The three numbers, the request and the issued APDUs are in range.
abbrev ResponderRest : Option ℕ × (Option ℕ × (Option ℕ × (Bool × (Option Apdu × List Apdu)))) → Type 0
ResponderRest = Both IsOptionalNumber (Both IsOptionalNumber (Both IsOptionalNumber (Both Any RequestAndIssued)))

-- The fields of a responder obey the laws.
responder_fields_is : Below → IsField (Both (HeadingParts responder_states) ResponderRest) responder_fields
responder_fields_is below =
    followed_is (HeadingParts responder_states) ResponderRest (heading responder_states) responder_rest
    (heading_is below responder_states)
    (followed_is IsOptionalNumber _ optional_number _ optional_number_is
    (followed_is IsOptionalNumber _ optional_number _ optional_number_is
    (followed_is IsOptionalNumber _ optional_number _ optional_number_is
    (followed_is Any _ mark _ mark_is
    (followed_is (λ o. IfSome o IsRequest) (Counted IsApdu) (marked ill_request) (counted apdu)
    (marked_is IsRequest ill_request (ill_request_is below)) (counted_is IsApdu apdu (apdu_is below)))))))

-- The field of the version obeys the laws.
version_is : IsField (Both Any (Both Any (Both Any Any))) version
version_is =
    followed_is Any _ (constant 73) _ (constant_is 73)
    (followed_is Any _ (constant 76) _ (constant_is 76)
    (followed_is Any Any (constant 76) (constant 49) (constant_is 76) (constant_is 49)))

-- The field of the version and the role obeys the laws.
start_is : IsField (Both (Both Any (Both Any (Both Any Any))) Any) start
start_is = followed_is _ Any version role version_is role_is

-- If an optional request is in range, it is an optional APDU in range.
request_in_range : (o : Option Apdu) → IfSome o IsRequest → IfSome o IsApdu
request_in_range None p = tt
request_in_range (Some a) p = p.0

-- If an optional APDU in range is a request of `txn`, it is an optional ILL-Request in range.
request_is : (txn : Qualifiers) (o : Option Apdu) → is_request_of txn o ≡ true → IfSome o IsApdu → IfSome o IsRequest
request_is txn None of p = tt
request_is txn (Some a) of p = (p, (and_parts (is_same_txn a.txn txn) (is_ill_request a.body) of).1)

-- The side is of role `r` and in range, and `left` is the encoding of its fields followed by `rest`.
abbrev ReadsSide : Role → Cursor → Side → Cursor → Type 0
ReadsSide r left side rest = (role_of side ≡ r) × (left.bytes ≡ encode_fields side ++ rest.bytes) × IsInRange side

-- If the fields of a requester are read, they are the encoding of its side, which is in range. `fields` is the
-- reading of the fields, and `is` what `IsField` says of it. `heading` and `txn` say that these are in range.
-- `from_held` to `from_issued` say that the fields from these on are in range.
requester_takes : Below → (left : Cursor) (side : Side) (rest : Cursor) → IsBytes left.bytes
    → read_requester left ≡ Ok (side, rest) → ReadsSide roles.Requester left side rest
requester_takes below left side rest fits e =
    let fields = bind_ok (requester_fields.read left) _ (side, rest) e in
    let both = ok_is _ (side, rest) fields.follows in
    let is = (requester_fields_is below).takes left fields.value.0 fields.value.1 fits fields.given in
    let range = is.1 in
    let heading = range.0 in
    let txn = heading.1 in
    let from_held = range.1 in
    let from_mark = from_held.1 in
    let from_due = from_mark.1 in
    let from_issued = from_due.1 in
    subst (λ (x : Side × Cursor). ReadsSide roles.Requester left x.0 x.1) both (
      refl,
      is.0,
      record {
        parts = record {
          txn = record { group = txn.0; transaction = txn.1 };
          held = from_held.0;
          due = from_due.0;
        };
        issued = from_issued.0;
        few = omega (arith, from_issued.1);
      },
    )

-- If the fields of a responder are read, they are the encoding of its side, which is in range. `fields` is the
-- reading of the fields, and `is` what `IsField` says of it. `heading` and `txn` say that these are in range.
-- `from_accepted` to `from_issued` say that the fields from these on are in range.
responder_takes : Below → (left : Cursor) (side : Side) (rest : Cursor) → IsBytes left.bytes
    → read_responder left ≡ Ok (side, rest) → ReadsSide roles.Responder left side rest
responder_takes below left side rest fits e =
    let fields = bind_ok (responder_fields.read left) _ (side, rest) e in
    let both = ok_is _ (side, rest) fields.follows in
    let is = (responder_fields_is below).takes left fields.value.0 fields.value.1 fits fields.given in
    let range = is.1 in
    let heading = range.0 in
    let txn = heading.1 in
    let from_accepted = range.1 in
    let from_cancel = from_accepted.1 in
    let from_renew = from_cancel.1 in
    let from_received = from_renew.1 in
    let from_request = from_received.1 in
    let from_issued = from_request.1 in
    subst (λ (x : Side × Cursor). ReadsSide roles.Responder left x.0 x.1) both (
      refl,
      is.0,
      record {
        parts = record {
          txn = record { group = txn.0; transaction = txn.1 };
          accepted = from_accepted.0;
          last_cancel = from_cancel.0;
          last_renew = from_renew.0;
          request = request_in_range _ from_request.0;
        };
        issued = from_issued.0;
        few = omega (arith, from_issued.1);
      },
    )

-- If the fields of a role are read, they are the encoding of the side, which is in range.
fields_take : Below → (r : Role) (left : Cursor) (side : Side) (rest : Cursor) → IsBytes left.bytes
    → read_fields r left ≡ Ok (side, rest) → ReadsSide r left side rest
fields_take below roles.Requester left side rest fits e = requester_takes below left side rest fits e
fields_take below roles.Responder left side rest fits e = responder_takes below left side rest fits e

-- If the check for the end succeeds, no byte is left.
ends : (left : Cursor) (x : Unit {0}) → ended left ≡ Ok x → left.bytes ≡ []
ends left x e = nil_from_length left.bytes
    (eqb-true (length left.bytes) 0 (passed (eqb (length left.bytes) 0) (Ok tt) (Bad left.at) x e).0)

-- If all of the bytes are read as a side, they are its encoding, and it is in range. First the start is read
-- (`begun`), then the fields of its role (`found`), and then no byte is left (`last`). `first` and `fields` say that
-- the bytes read are encodings.
pub side_takes : Below → (bytes : List ℕ) (side : Side) → IsBytes bytes → side_encoded bytes ≡ Ok side
    → (bytes ≡ record_encoding side) × IsInRange side
unfolding side_encoded record_encoding
side_takes below bytes side fits e =
    let begun = bind_ok (start.read (cursor_at 0 bytes)) (λ start. side_at start.0.1 start.1) side e in
    let version_and_role = begun.value.0 in
    let first = start_is.takes (cursor_at 0 bytes) begun.value.0 begun.value.1 fits begun.given in
    let after_fits = rest_fits _ start start_is (cursor_at 0 bytes) begun.value.0 begun.value.1 fits begun.given in
    let found = bind_ok (read_fields version_and_role.1 begun.value.1) (λ found. ended found.1 >>= λ _. Ok found.0) side
    begun.follows in
    let last = bind_ok (ended found.value.1) (λ _. Ok found.value.0) side found.follows in
    let same : found.value.0 ≡ side = ok_is found.value.0 side last.follows in
    let fields = fields_take below version_and_role.1 begun.value.1 found.value.0 found.value.1 after_fits found.given in
    let parts : bytes ≡ encode_start (role_of found.value.0) ++ encode_fields found.value.0 =
    first.0 ∙ ap (λ (r : Role). encode_start r ++ begun.value.1.bytes) (sym fields.0)
    ∙ ap (λ (x : List ℕ). encode_start (role_of found.value.0) ++ x)
    (fields.1 ∙ ap (λ (x : List ℕ). encode_fields found.value.0 ++ x) (ends found.value.1 last.value last.given)
    ∙ append-nil (encode_fields found.value.0)) in
    subst (λ (x : Side). (bytes ≡ encode_start (role_of x) ++ encode_fields x) × IsInRange x) same (parts, fields.2)

-- A state that is not IN-PROCESS or CHECKED-IN is among the states of a requester.
requester_state_is : (state : State) → is_among (InProcess ∷ CheckedIn ∷ []) state ≡ false → IsAmong requester_states state
requester_state_is Idle role = refl
requester_state_is state role = search rules

-- A state that is not PENDING, RECEIVED or NOT-RECEIVED/OVERDUE is among the states of a responder.
responder_state_is : (state : State) → is_among (Pending ∷ Received ∷ NotReceivedOverdue ∷ []) state ≡ false
    → IsAmong responder_states state
responder_state_is Idle role = refl
responder_state_is state role = search rules

-- A consistent side in range is read from the encoding of its fields, whatever bytes `more` follow. `range` says that
-- the side is in range, and `read` that the fields are read again.
fields_again : Below → (side : Side) (at : ℕ) (more : List ℕ) → IsSide side
    → (after : ℕ) × (read_fields (role_of side) (cursor_at at (encode_fields side ++ more)) ≡ Ok (side, cursor_at after more))
fields_again below (sides.Requester x) at more is =
    let range = is.1 in
    let read = (requester_fields_is below).again
    ((x.state, (x.txn.group, x.txn.transaction)), (x.held, (x.checked_in, (x.due, x.issued)))) at more (
      (requester_state_is x.state (requester_state x is.0), (range.parts.txn.group, range.parts.txn.transaction)),
      (range.parts.held, (tt, (range.parts.due, (range.issued, omega (arith, range.few))))),
    ) in
    (read.0, rw read.1 refl)
fields_again below (sides.Responder y) at more is =
    let range = is.1 in
    let read = (responder_fields_is below).again (
      (y.state, (y.txn.group, y.txn.transaction)),
      (y.accepted, (y.last_cancel, (y.last_renew, (y.received, (y.request, y.issued))))),
    ) at more (
      (responder_state_is y.state (responder_state y is.0), (range.parts.txn.group, range.parts.txn.transaction)),
      (
        range.parts.accepted,
        (
          range.parts.last_cancel,
          (
            range.parts.last_renew,
            (
              tt,
              (
                request_is y.txn y.request (responder_request y is.0) range.parts.request,
                (range.issued, omega (arith, range.few)),
              ),
            ),
          ),
        ),
      ),
    ) in
    (read.0, rw read.1 refl)

-- A consistent side in range is read from its encoding by `side_encoded`, which does not check that it is consistent.
side_again : Below → (side : Side) → IsSide side → side_encoded (record_encoding side) ≡ Ok side
unfolding side_encoded record_encoding
side_again below side is =
    let begun = start_is.again ((tt, (tt, (tt, tt))), role_of side) 0 (encode_fields side) ((tt, (tt, (tt, tt))), tt) in
    let fields = fields_again below side begun.0 [] is in
    let whole : read_fields (role_of side) (cursor_at begun.0 (encode_fields side)) ≡ Ok (side, cursor_at fields.0 []) =
    ap (λ (x : List ℕ). read_fields (role_of side) (cursor_at begun.0 x)) (sym (append-nil (encode_fields side))) ∙ fields.1 in
    rw (begun.1, whole) refl

-- If bytes are read as a consistent side, they are its encoding, and it is in range.
pub record_takes : Below → (bytes : List ℕ) (side : Side) → IsBytes bytes → record_at bytes ≡ Ok side
    → (bytes ≡ record_encoding side) × IsSide side
unfolding record_at
record_takes below bytes side fits e =
    let read = judged_ok (side_encoded bytes) side e in
    let is = side_takes below bytes side fits read.0 in
    (is.0, (read.1, is.1))

-- A consistent side in range is read from its encoding.
pub record_again : Below → (side : Side) → IsSide side → record_at (record_encoding side) ≡ Ok side
unfolding record_at
record_again below side is = judged_is (side_encoded (record_encoding side)) side (side_again below side is) is.0

-- If each consistent side in range is read from its encoding, two of them with equal encodings are equal.
pub one_side : ((side : Side) → IsSide side → record_at (record_encoding side) ≡ Ok side)
    → (s t : Side) → IsSide s → IsSide t → record_encoding s ≡ record_encoding t → s ≡ t
one_side again s t first second e = ok_is s t (sym (again s first) ∙ ap record_at e ∙ again t second)
