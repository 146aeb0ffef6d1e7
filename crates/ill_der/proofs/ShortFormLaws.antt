-- The laws of the short form. Bytes that are read as an APDU are its encoding, and it is read from its encoding.
use Rattle.ill_der.specs.Stream.{IfShort}
use Rattle.std.proofs.Common.{◌≡◌, ℕ, ◌+◌, ◌-◌, ◌≤◌, false, cond, eqb, ltb, List, [], ◌∷◌, ◌++◌, length, take, drop, Option, Some}
use Rattle.std.proofs.Common.{None, Result, Ok, Err, refl, sym, ap, subst, ◌∙◌, inl, inr, append_assoc, arith, Bool, true}
use Rattle.std.specs.Prelude.{IfSome}
use Rattle.std.proofs.lemmas.Bool.{cases_lt, ltb-true, ltb-false, lt-ltb, le-ltb}
use Rattle.std.proofs.lemmas.List.{append-nil, take_at, drop_at, length-append, length-take, length-drop, take-append-drop}
use Rattle.std.proofs.lemmas.List.{drop-drop, drop-append-le, take-append-le}
use Rattle.ill_values.specs.declared.apdu.Apdu.{Apdu}
use Rattle.ill_values.specs.Body.{Body}
use Rattle.ill_values.specs.declared.apdu.BodyWith.TheVariants.{IllRequest, Cancel, IllAnswer, ConditionalReply, CancelReply}
use Rattle.ill_values.specs.declared.apdu.BodyWith.TheVariants.{Shipped, Received, Recall, Returned, CheckedIn, Overdue, Renew}
use Rattle.ill_values.specs.declared.apdu.BodyWith.TheVariants.{RenewAnswer, Expired}
use Rattle.ill_values.specs.Apdu.{IsNumber, IsBody, IsApdu}
use Rattle.ill_values.specs.Day.{Date, IsDate}
use Rattle.ill_values.specs.Text.{IsQualifier, IsItem}
use Rattle.ill_der.specs.declared.fault.DerFault.{DerFault}
use Rattle.ill_der.specs.declared.fault.DerFault.TheVariants.{Short, Tag, Length, OutOfMemory}
use Rattle.ill_values.specs.declared.apdu_type.ApduType.{ApduType}
use Rattle.ill_values.specs.declared.apdu_type.ApduType.TheVariants as types
use Rattle.ill_der.specs.declared.length.LengthForm.{LengthForm}
use Rattle.ill_der.specs.declared.length.LengthForm.TheVariants.{Truncated, Invalid, Definite}
use Rattle.ill_der.specs.Contents.{version, number, qualifier, date, item, answer_result, yes_no}
use Rattle.ill_der.specs.Format.{◌>>=◌, length_octets, length_of, IsFew, element, Cursor, cursor_at, begins_with, ended, required}
use Rattle.ill_der.specs.Format.{optional, followed_by, where_yes, Format, one_octet_length, two_octet_length}
use Rattle.ill_values.specs.Types.{all_types, type_of}
use Rattle.ill_der.specs.Types.{identifier_of, type_with}
use Rattle.ill_der.specs.ShortForm.{txn_id, head, request, due_date, answer, reply, wish, grant, encode_body, made_of, read_body}
use Rattle.ill_der.specs.ShortForm.{contents_of, encoding, Outer, header_by, header_of, header_at, outer_by, outer_at, body_of}
use Rattle.ill_der.specs.ShortForm.{inside_of, apdu_at}
use Rattle.ill_der.proofs.Chains.{bind_ok, bind_err, test_failed, chosen, done, ok_is, no_value, short_is, short_or_memory}
use Rattle.ill_der.proofs.Chains.{IsInside}
use Rattle.ill_der.proofs.Chains.{tag_inside, length_inside, fault_is}
use Rattle.ill_der.specs.Laws.{IsBytes}
use Rattle.ill_der.proofs.Bytes.{IsBytes-drop, IsBytes-take}
use Rattle.ill_der.proofs.Lengths.{length_again, length_takes, length_few}
use Rattle.ill_der.proofs.Elements.{assembled, ended_faults, ended_is}
use Rattle.ill_der.proofs.Formats.{IsFormat, Any, Begins, Both, required_is, optional_is, followed_is, where_is, constructed_is}
use Rattle.ill_der.proofs.ContentsLaws.{Values, Always, IsAnyResult, IsYesOrNo, found_with, version_is, number_is, qualifier_is}
use Rattle.ill_der.proofs.ContentsLaws.{date_is, item_is, result_is, yes_no_is}

-- ---- the fields that each type has

-- Both parts of the transaction id are qualifiers.
abbrev IsId : List ℕ × List ℕ → Type 0
IsId = Both IsQualifier IsQualifier

-- The transaction id and the number are in range.
abbrev IsHead : Unit {0} × ((List ℕ × List ℕ) × ℕ) → Type 0
IsHead = Both Always (Both IsId IsNumber)

-- `txn_id` reads exactly the encodings of transaction ids, of at most 135 bytes, whatever follows.
-- A qualifier of 64 bytes takes 66 with its identifier and length. Two take 132, and these 135 with theirs.
txn_id_is : Values → IsFormat IsId Any 135 txn_id
txn_id_is values =
    constructed_is IsId Any 132 (followed_by (required 0x81 qualifier) (required 0x82 qualifier)) 0xA1 (omega arith)
    (followed_is IsQualifier IsQualifier Any Any 66 66 (required 0x81 qualifier) (required 0x82 qualifier)
    (required_is IsQualifier 64 qualifier 0x81 (omega arith) (qualifier_is values))
    (required_is IsQualifier 64 qualifier 0x82 (omega arith) (qualifier_is values))
    (λ w more q. tt))
    tt

-- `head` reads exactly the encodings of heads in range, of at most 142 bytes, whatever follows.
head_is : Values → IsFormat IsHead Any 142 head
head_is values =
    followed_is Always (Both IsId IsNumber) Any Any 3 139 (required 0x80 version) (followed_by txn_id (required 0x82 number))
    (required_is Always 1 version 0x80 (omega arith) version_is)
    (followed_is IsId IsNumber Any Any 135 4 txn_id (required 0x82 number) (txn_id_is values)
    (required_is IsNumber 2 number 0x82 (omega arith) number_is) (λ w more q. tt))
    (λ w more q. tt)

-- ---- the further fields of each type

-- The expiry date, if there is one, is in range, and the text is an item.
abbrev IsRequest : Option Date × List ℕ → Type 0
IsRequest = Both (λ o. IfSome o IsDate) IsItem

-- An item does not begin with the identifier of a date.
item_no_date : (text more : List ℕ) → begins_with 0x85 (element 0x86 text ++ more) ≡ false
unfolding element
item_no_date text more = refl

-- `request` reads exactly the encodings of fields in range, of at most 213 bytes, whatever follows.
request_is : Values → IsFormat IsRequest Any 213 request
request_is values =
    followed_is (λ o. IfSome o IsDate) IsItem (Begins false 0x85) Any 10 203 (optional 0x85 date) (required 0x86 item)
    (optional_is IsDate 8 date 0x85 (omega arith) (date_is values))
    (required_is IsItem 200 item 0x86 (omega arith) (item_is values))
    (λ text more q. item_no_date text more)

-- `reply` reads exactly the encodings of fields in range, of at most 7 bytes, whatever follows.
reply_is : IsFormat (Both IsNumber IsYesOrNo) Any 7 reply
reply_is =
    followed_is IsNumber IsYesOrNo Any Any 4 3 (required 0x83 number) (required 0x84 yes_no)
    (required_is IsNumber 2 number 0x83 (omega arith) number_is) (required_is IsYesOrNo 1 yes_no 0x84 (omega arith) yes_no_is)
    (λ w more q. tt)

-- `due_date` reads exactly the encodings of days in range, of at most 10 bytes, whatever follows.
due_date_is : Values → IsFormat IsDate Any 10 due_date
due_date_is values = required_is IsDate 8 date 0x85 (omega arith) (date_is values)

-- `answer` reads exactly the encodings of results, of at most 3 bytes, whatever follows.
answer_is : IsFormat IsAnyResult Any 3 answer
answer_is = required_is IsAnyResult 1 answer_result 0x84 (omega arith) result_is

-- `wish` reads exactly the encodings of an optional day, of at most 10 bytes, if no date follows.
wish_is : Values → IsFormat (λ o. IfSome o IsDate) (Begins false 0x85) 10 wish
wish_is values = optional_is IsDate 8 date 0x85 (omega arith) (date_is values)

-- `grant` reads exactly the encodings of fields in range, of at most 17 bytes, whatever follows.
grant_is : Values → IsFormat (Both IsNumber (λ o. IfSome o IsDate)) Any 17 grant
grant_is values =
    followed_is IsNumber (λ o. IfSome o IsDate) Any Any 4 13 (required 0x83 number)
    (where_yes (required 0x84 yes_no) (required 0x85 date))
    (required_is IsNumber 2 number 0x83 (omega arith) number_is)
    (where_is IsYesOrNo IsDate Any 3 10 (required 0x84 yes_no) (required 0x85 date)
    (required_is IsYesOrNo 1 yes_no 0x84 (omega arith) yes_no_is) (due_date_is values) (λ b. tt))
    (λ w more q. tt)

-- `bytes` is the further fields of `body` followed by `rest`, and `body` has type `apdu_type` and is in range.
abbrev TakesBody : ApduType → List ℕ → Body → List ℕ → Type 0
TakesBody apdu_type bytes body rest = (bytes ≡ encode_body body ++ rest) × IsBody body × (type_of body ≡ apdu_type) × IsBytes rest

-- If `made_of f make` reads `body` from `left`, `left` is the fields of `body` followed by `rest`.
-- The body is in range and has the type `apdu_type`.
made_takes : {V : Type 0} (P : V → Type 0) (F : List ℕ → Type 0) (n : ℕ) (f : Format V) (make : V → Body) (apdu_type : ApduType)
    → IsFormat P F n f
    → ((v : V) → encode_body (make v) ≡ f.encode v) → ((v : V) → P v → IsBody (make v)) → ((v : V) → type_of (make v) ≡ apdu_type)
    → (left : Cursor) (body : Body) (rest : Cursor) → IsBytes left.bytes → made_of f make left ≡ Ok (body, rest)
    → TakesBody apdu_type left.bytes body rest.bytes
made_takes P F n f make apdu_type fs encodes ranges types left body rest fits e =
    let fields = bind_ok (f.read left) (λ found. Ok (make found.0, found.1)) (body, rest) e in
    let both : (make fields.value.0, fields.value.1) ≡ (body, rest) =
    ok_is (make fields.value.0, fields.value.1) (body, rest) fields.follows in
    let taken = fs.codec.takes left fields.value.0 fields.value.1 fits fields.given in
    let parts : left.bytes ≡ encode_body (make fields.value.0) ++ fields.value.1.bytes =
    taken.0 ∙ ap (λ (x : List ℕ). x ++ fields.value.1.bytes) (sym (encodes fields.value.0)) in
    subst (λ (x : Body × Cursor). TakesBody apdu_type left.bytes x.0 x.1.bytes) both
    (parts, ranges fields.value.0 taken.1, types fields.value.0, taken.2)

-- Let the body `make` be in range and have no further fields. If `make` is `body`, and `left` is `rest`, `TakesBody`
-- holds: `left` is no fields followed by `rest`.
plain_takes : (make body : Body) (apdu_type : ApduType) (left rest : Cursor) → encode_body make ≡ [] → IsBody make
    → type_of make ≡ apdu_type → IsBytes left.bytes
    → done {E = DerFault} {A = Body × Cursor} (make, left) ≡ done (body, rest)
    → TakesBody apdu_type left.bytes body rest.bytes
plain_takes make body apdu_type left rest encodes is k fits e =
    let both : (make, left) ≡ (body, rest) = ok_is (make, left) (body, rest) e in
    subst (λ (x : Body × Cursor). TakesBody apdu_type left.bytes x.0 x.1.bytes) both
    (ap (λ (x : List ℕ). x ++ left.bytes) (sym encodes), is, k, fits)

-- If `read_body` reads `body` from `left`, `left` is the fields of `body` followed by `rest`.
-- The body is in range and has the type that was read.
body_takes : Values → (apdu_type : ApduType) (left : Cursor) (body : Body) (rest : Cursor) → IsBytes left.bytes
    → read_body apdu_type left ≡ Ok (body, rest) → TakesBody apdu_type left.bytes body rest.bytes
body_takes values types.IllRequest =
    made_takes IsRequest Any 213 request (λ found. IllRequest found.0 found.1) types.IllRequest (request_is values) (λ v. refl)
    (λ v p. p) (λ v. refl)
body_takes values types.Shipped =
    made_takes IsDate Any 10 due_date Shipped types.Shipped (due_date_is values) (λ v. refl) (λ v p. p) (λ v. refl)
body_takes values types.IllAnswer =
    made_takes IsAnyResult Any 3 answer IllAnswer types.IllAnswer answer_is (λ v. refl) (λ v p. p) (λ v. refl)
body_takes values types.ConditionalReply =
    made_takes (Both IsNumber IsYesOrNo) Any 7 reply (λ found. ConditionalReply found.0 found.1) types.ConditionalReply reply_is
    (λ v. refl) (λ v p. p.0) (λ v. refl)
body_takes values types.CancelReply =
    made_takes (Both IsNumber IsYesOrNo) Any 7 reply (λ found. CancelReply found.0 found.1) types.CancelReply reply_is (λ v. refl)
    (λ v p. p.0) (λ v. refl)
body_takes values types.Overdue =
    made_takes IsDate Any 10 due_date Overdue types.Overdue (due_date_is values) (λ v. refl) (λ v p. p) (λ v. refl)
body_takes values types.Renew =
    made_takes (λ o. IfSome o IsDate) (Begins false 0x85) 10 wish Renew types.Renew (wish_is values) (λ v. refl) (λ v p. p)
    (λ v. refl)
body_takes values types.RenewAnswer =
    made_takes (Both IsNumber (λ o. IfSome o IsDate)) Any 17 grant (λ found. RenewAnswer found.0 found.1) types.RenewAnswer
    (grant_is values) (λ v. refl) (λ v p. p) (λ v. refl)
body_takes values types.Cancel = λ left body rest. plain_takes Cancel body types.Cancel left rest refl tt refl
body_takes values types.Received = λ left body rest. plain_takes Received body types.Received left rest refl tt refl
body_takes values types.Recall = λ left body rest. plain_takes Recall body types.Recall left rest refl tt refl
body_takes values types.Returned = λ left body rest. plain_takes Returned body types.Returned left rest refl tt refl
body_takes values types.CheckedIn = λ left body rest. plain_takes CheckedIn body types.CheckedIn left rest refl tt refl
body_takes values types.Expired = λ left body rest. plain_takes Expired body types.Expired left rest refl tt refl

-- `read_body` reads `body` from its further fields at the offset `at`, and leaves no bytes.
abbrev BodyAgain : Body → ℕ → Type 0
BodyAgain body at = (after : ℕ) × (read_body (type_of body) (cursor_at at (encode_body body)) ≡ Ok (body, cursor_at after []))

-- `made_of f make` reads `make v` from the encoding of `v`, if nothing follows.
made_again : {V : Type 0} (P : V → Type 0) (F : List ℕ → Type 0) (n : ℕ) (f : Format V) (make : V → Body)
    → IsFormat P F n f → F []
    → (v : V) (at : ℕ) → P v → (after : ℕ) × (made_of f make (cursor_at at (f.encode v)) ≡ Ok (make v, cursor_at after []))
made_again P F n f make fs closes v at p =
    let read = fs.codec.again v at [] p closes in
    let whole : f.read (cursor_at at (f.encode v)) ≡ Ok (v, cursor_at read.0 []) =
    ap (λ (x : List ℕ). f.read (cursor_at at x)) (sym (append-nil (f.encode v))) ∙ read.1 in
    (read.0, rw whole refl)

-- `read_body` reads each body in range from its further fields, if nothing follows.
body_again : Values → (body : Body) (at : ℕ) → IsBody body → BodyAgain body at
body_again values (IllRequest expiry text) at is =
    made_again IsRequest Any 213 request (λ found. IllRequest found.0 found.1) (request_is values) tt (expiry, text) at is
body_again values (Shipped due) at is = made_again IsDate Any 10 due_date Shipped (due_date_is values) tt due at is
body_again values (IllAnswer result) at is = made_again IsAnyResult Any 3 answer IllAnswer answer_is tt result at tt
body_again values (ConditionalReply answers is_yes) at is =
    made_again (Both IsNumber IsYesOrNo) Any 7 reply (λ found. ConditionalReply found.0 found.1) reply_is tt (answers, is_yes) at
    (is, tt)
body_again values (CancelReply answers is_yes) at is =
    made_again (Both IsNumber IsYesOrNo) Any 7 reply (λ found. CancelReply found.0 found.1) reply_is tt (answers, is_yes) at
    (is, tt)
body_again values (Overdue due) at is = made_again IsDate Any 10 due_date Overdue (due_date_is values) tt due at is
body_again values (Renew wished) at is =
    made_again (λ o. IfSome o IsDate) (Begins false 0x85) 10 wish Renew (wish_is values) refl wished at is
body_again values (RenewAnswer answers granted) at is =
    made_again (Both IsNumber (λ o. IfSome o IsDate)) Any 17 grant (λ found. RenewAnswer found.0 found.1) (grant_is values) tt
    (answers, granted) at is
body_again values Cancel at is = (at, refl)
body_again values Received at is = (at, refl)
body_again values Recall at is = (at, refl)
body_again values Returned at is = (at, refl)
body_again values CheckedIn at is = (at, refl)
body_again values Expired at is = (at, refl)

-- The further fields of a body in range have at most 213 bytes.
body_bound : Values → (body : Body) → IsBody body → length (encode_body body) ≤ 213
body_bound values (IllRequest expiry text) is = (request_is values).bound (expiry, text) is
body_bound values (Shipped due) is = omega (arith, (due_date_is values).bound due is)
body_bound values (IllAnswer result) is = omega (arith, answer_is.bound result tt)
body_bound values (ConditionalReply answers is_yes) is = omega (arith, reply_is.bound (answers, is_yes) (is, tt))
body_bound values (CancelReply answers is_yes) is = omega (arith, reply_is.bound (answers, is_yes) (is, tt))
body_bound values (Overdue due) is = omega (arith, (due_date_is values).bound due is)
body_bound values (Renew wished) is = omega (arith, (wish_is values).bound wished is)
body_bound values (RenewAnswer answers granted) is = omega (arith, (grant_is values).bound (answers, granted) is)
body_bound values _ is = omega arith

-- The further fields of a body in range that is no ILL-Request have at most 17 bytes.
short_body : Values → (body : Body) → IsBody body → (type_of body ≡ types.IllRequest → ⊥) → length (encode_body body) ≤ 17
short_body values (IllRequest expiry text) is other = absurd (other refl)
short_body values (Shipped due) is other = omega (arith, (due_date_is values).bound due is)
short_body values (IllAnswer result) is other = omega (arith, answer_is.bound result tt)
short_body values (ConditionalReply answers is_yes) is other = omega (arith, reply_is.bound (answers, is_yes) (is, tt))
short_body values (CancelReply answers is_yes) is other = omega (arith, reply_is.bound (answers, is_yes) (is, tt))
short_body values (Overdue due) is other = omega (arith, (due_date_is values).bound due is)
short_body values (Renew wished) is other = omega (arith, (wish_is values).bound wished is)
short_body values (RenewAnswer answers granted) is other = (grant_is values).bound (answers, granted) is
short_body values _ is other = omega arith

-- Each fault of `made_of f make` is Tag, Length or Field.
made_faults : {V : Type 0} (P : V → Type 0) (F : List ℕ → Type 0) (n : ℕ) (f : Format V) (make : V → Body) → IsFormat P F n f
    → (left : Cursor) (d : DerFault) → made_of f make left ≡ Err d → IsInside d
made_faults P F n f make fs left d e =
    elim (bind_err (f.read left) (λ found. Ok (make found.0, found.1)) d e) [
      | inl h ↦ fs.faults left d h
      | inr fields ↦ absurd (no_value d (make fields.value.0, fields.value.1) fields.follows)
    ]

-- Each fault of `read_body` is Tag, Length or Field.
body_faults : Values → (apdu_type : ApduType) (left : Cursor) (d : DerFault) → read_body apdu_type left ≡ Err d → IsInside d
body_faults values types.IllRequest =
    made_faults IsRequest Any 213 request (λ found. IllRequest found.0 found.1) (request_is values)
body_faults values types.Shipped = made_faults IsDate Any 10 due_date Shipped (due_date_is values)
body_faults values types.IllAnswer = made_faults IsAnyResult Any 3 answer IllAnswer answer_is
body_faults values types.ConditionalReply =
    made_faults (Both IsNumber IsYesOrNo) Any 7 reply (λ found. ConditionalReply found.0 found.1) reply_is
body_faults values types.CancelReply =
    made_faults (Both IsNumber IsYesOrNo) Any 7 reply (λ found. CancelReply found.0 found.1) reply_is
body_faults values types.Overdue = made_faults IsDate Any 10 due_date Overdue (due_date_is values)
body_faults values types.Renew = made_faults (λ o. IfSome o IsDate) (Begins false 0x85) 10 wish Renew (wish_is values)
body_faults values types.RenewAnswer =
    made_faults (Both IsNumber (λ o. IfSome o IsDate)) Any 17 grant (λ found. RenewAnswer found.0 found.1) (grant_is values)
body_faults values types.Cancel = λ left d e. absurd (no_value d (Cancel, left) e)
body_faults values types.Received = λ left d e. absurd (no_value d (Received, left) e)
body_faults values types.Recall = λ left d e. absurd (no_value d (Recall, left) e)
body_faults values types.Returned = λ left d e. absurd (no_value d (Returned, left) e)
body_faults values types.CheckedIn = λ left d e. absurd (no_value d (CheckedIn, left) e)
body_faults values types.Expired = λ left d e. absurd (no_value d (Expired, left) e)

-- ---- the contents of an APDU

-- `bytes` is the further fields of `body`, which has type `apdu_type` and is in range.
abbrev IsBodyOf : ApduType → List ℕ → Body → Type 0
IsBodyOf apdu_type bytes body = (bytes ≡ encode_body body) × IsBody body × (type_of body ≡ apdu_type)

-- If `body_of` reads `body` from `left`, all of `left` is the further fields of `body`.
whole_body_takes : Values → (apdu_type : ApduType) (left : Cursor) (body : Body) → IsBytes left.bytes
    → body_of apdu_type left ≡ Ok body → IsBodyOf apdu_type left.bytes body
unfolding body_of
whole_body_takes values apdu_type left body fits e =
    let found = bind_ok (read_body apdu_type left) (λ body. ended body.1 >>= λ _. Ok body.0) body e in
    let over = bind_ok (ended found.value.1) (λ _. Ok found.value.0) body found.follows in
    let taken = body_takes values apdu_type left found.value.0 found.value.1 fits found.given in
    let whole : left.bytes ≡ encode_body found.value.0 =
    taken.0 ∙ ap (λ (x : List ℕ). encode_body found.value.0 ++ x) (ended_is found.value.1 over.value over.given)
    ∙ append-nil (encode_body found.value.0) in
    subst (IsBodyOf apdu_type left.bytes) (ok_is found.value.0 body over.follows) (whole, taken.1, taken.2)

-- `body_of` reads each body in range from its further fields.
whole_body_again : Values → (body : Body) (at : ℕ) → IsBody body
    → body_of (type_of body) (cursor_at at (encode_body body)) ≡ Ok body
unfolding body_of
whole_body_again values body at is = rw (body_again values body at is).1 refl

-- Each fault of `body_of` is Tag, Length or Field.
whole_body_faults : Values → (apdu_type : ApduType) (left : Cursor) (d : DerFault) → body_of apdu_type left ≡ Err d → IsInside d
unfolding body_of
whole_body_faults values apdu_type left d e =
    elim (bind_err (read_body apdu_type left) (λ body. ended body.1 >>= λ _. Ok body.0) d e) [
      | inl h ↦ body_faults values apdu_type left d h
      | inr found ↦ elim (bind_err (ended found.value.1) (λ _. Ok found.value.0) d found.follows) [
        | inl g ↦ ended_faults found.value.1 d g
        | inr over ↦ absurd (no_value d found.value.0 over.follows)
      ]
    ]

-- Returns the APDU with the transaction id and the number of `prefix`, and with `body`.
abbrev made : (Unit {0} × ((List ℕ × List ℕ) × ℕ)) → Body → Apdu
made prefix body =
    let named = prefix.1 in
    let txn = named.0 in
    record { txn = record { group = txn.0; transaction = txn.1 }; number = named.1; body = body }

-- `bytes` is the contents of `apdu`, which has type `apdu_type` and is in range.
abbrev IsWhole : ApduType → List ℕ → Apdu → Type 0
IsWhole apdu_type bytes apdu = (bytes ≡ contents_of apdu) × IsApdu apdu × (type_of apdu.body ≡ apdu_type)

-- If `inside_of` reads `apdu` from `left`, all of `left` is the contents of `apdu`.
-- `prefix` is the head that was read, and `body` the body that was read after it.
inside_takes : Values → (apdu_type : ApduType) (left : Cursor) (apdu : Apdu) → IsBytes left.bytes
    → inside_of apdu_type left ≡ Ok apdu → IsWhole apdu_type left.bytes apdu
unfolding inside_of
inside_takes values apdu_type left apdu fits e =
    let prefix = bind_ok (head.read left) (λ prefix. body_of apdu_type prefix.1 >>= λ body. Ok (made prefix.0 body)) apdu e in
    let body = bind_ok (body_of apdu_type prefix.value.1) (λ body. Ok (made prefix.value.0 body)) apdu prefix.follows in
    let is : made prefix.value.0 body.value ≡ apdu = ok_is (made prefix.value.0 body.value) apdu body.follows in
    let first = (head_is values).codec.takes left prefix.value.0 prefix.value.1 fits prefix.given in
    let second = whole_body_takes values apdu_type prefix.value.1 body.value first.2 body.given in
    let whole : left.bytes ≡ contents_of (made prefix.value.0 body.value) =
    first.0 ∙ ap (λ (x : List ℕ). head.encode prefix.value.0 ++ x) second.0 in
    let in_range = first.1 in
    let named = in_range.1 in
    let txn = named.0 in
    let parts : IsApdu (made prefix.value.0 body.value) = record {
      txn = record { group = txn.0; transaction = txn.1 };
      number = named.1;
      body = second.1;
    } in
    subst (λ (x : Apdu). IsWhole apdu_type left.bytes x) is (whole, parts, second.2)

-- `inside_of` reads each APDU in range from its contents.
inside_again : Values → (apdu : Apdu) (at : ℕ) → IsApdu apdu
    → inside_of (type_of apdu.body) (cursor_at at (contents_of apdu)) ≡ Ok apdu
unfolding inside_of
inside_again values apdu at is =
    let prefix : Unit {0} × ((List ℕ × List ℕ) × ℕ) = (tt, ((apdu.txn.group, apdu.txn.transaction), apdu.number)) in
    let first = (head_is values).codec.again prefix at (encode_body apdu.body)
    (tt, ((is.txn.group, is.txn.transaction), is.number)) tt in
    rw (first.1, whole_body_again values apdu.body first.0 is.body) refl

-- The contents of an APDU in range have at most 142 bytes more than the further fields.
contents_by_body : Values → (apdu : Apdu) → IsApdu apdu → length (contents_of apdu) ≤ 142 + length (encode_body apdu.body)
contents_by_body values apdu is =
    let prefix : Unit {0} × ((List ℕ × List ℕ) × ℕ) = (tt, ((apdu.txn.group, apdu.txn.transaction), apdu.number)) in
    omega (
      arith,
      length-append (head.encode prefix) (encode_body apdu.body),
      (head_is values).bound prefix (tt, ((is.txn.group, is.txn.transaction), is.number)),
    )

-- The contents of an APDU in range have at most 355 bytes.
pub contents_bound : Values → (apdu : Apdu) → IsApdu apdu → length (contents_of apdu) ≤ 355
contents_bound values apdu is = omega (arith, contents_by_body values apdu is, body_bound values apdu.body is.body)

-- The contents of an APDU in range that is no ILL-Request have at most 159 bytes.
pub short_contents : Values → (apdu : Apdu) → IsApdu apdu → (type_of apdu.body ≡ types.IllRequest → ⊥)
    → length (contents_of apdu) ≤ 159
short_contents values apdu is other = omega (arith, contents_by_body values apdu is, short_body values apdu.body is.body other)

-- Each fault of `inside_of` is Tag, Length or Field.
pub inside_faults : Values → (apdu_type : ApduType) (left : Cursor) (d : DerFault) → inside_of apdu_type left ≡ Err d → IsInside d
unfolding inside_of
inside_faults values apdu_type left d e =
    elim (bind_err (head.read left) (λ prefix. body_of apdu_type prefix.1 >>= λ body. Ok (made prefix.0 body)) d e) [
      | inl h ↦ (head_is values).faults left d h
      | inr prefix ↦ elim (bind_err (body_of apdu_type prefix.value.1) (λ body. Ok (made prefix.value.0 body)) d prefix.follows) [
        | inl g ↦ whole_body_faults values apdu_type prefix.value.1 d g
        | inr body ↦ absurd (no_value d (made prefix.value.0 body.value) body.follows)
      ]
    ]

-- ---- the identifier, the length and the unread contents of an APDU

-- If `type_with` finds `apdu_type` by `identifier`, that is the identifier octet of `apdu_type`.
identifier_with : (identifier : ℕ) (apdu_type : ApduType) → type_with identifier ≡ Some apdu_type
    → identifier ≡ identifier_of apdu_type
identifier_with identifier apdu_type e = found_with identifier_of identifier all_types apdu_type e

-- `type_with` finds each type by its identifier.
type_again : (apdu_type : ApduType) → type_with (identifier_of apdu_type) ≡ Some apdu_type
type_again types.IllRequest = refl
type_again types.Shipped = refl
type_again types.IllAnswer = refl
type_again types.ConditionalReply = refl
type_again types.Cancel = refl
type_again types.CancelReply = refl
type_again types.Received = refl
type_again types.Recall = refl
type_again types.Returned = refl
type_again types.CheckedIn = refl
type_again types.Overdue = refl
type_again types.Renew = refl
type_again types.RenewAnswer = refl
type_again types.Expired = refl

-- `bytes` begins with the element that has the type and the contents of `outer`, and this has `outer.size` bytes.
record IsOuter (bytes : List ℕ) (outer : Outer) : Type 0 where
  parts : bytes ≡ element (identifier_of outer.apdu_type) outer.inside.bytes ++ drop outer.size bytes
  inside_fits : IsBytes outer.inside.bytes

-- Returns the complete APDU of `apdu_type`, with `n` contents octets after `octets` length octets of `bytes`.
abbrev pub outer_with : ApduType → ℕ → ℕ → List ℕ → Outer
outer_with apdu_type n octets bytes =
    record { apdu_type = apdu_type; inside = cursor_at (1 + octets) (take n (drop octets bytes)); size = 1 + (octets + n) }

-- Reads the contents of an APDU of a known type and length, from the bytes after the identifier.
abbrev pub outer_after : ApduType → LengthForm → List ℕ → Result Outer DerFault
outer_after apdu_type (Definite n octets) bytes =
    cond (ltb 355 n) (Err (Length 1))
    (cond (ltb (length bytes) (octets + n)) (Err (Short (length bytes + 1))) (Ok (outer_with apdu_type n octets bytes)))
outer_after apdu_type Truncated bytes = Err (Short (length bytes + 1))
outer_after apdu_type Invalid bytes = Err (Length 1)

-- Reads the length and the contents of an APDU from the bytes after the identifier, if the identifier has a type.
abbrev pub outer_of : Option ApduType → List ℕ → Result Outer DerFault
outer_of None bytes = Err (Tag 0)
outer_of (Some apdu_type) bytes = outer_after apdu_type (length_of bytes) bytes

-- For a definite length, reading the header and then the contents gives the result of `outer_after`.
outer_in : (first : ℕ) (apdu_type : ApduType) (n octets : ℕ) (large : Bool) (bytes : List ℕ)
    → (cond large (Err (Length 1)) (Ok (record { apdu_type = apdu_type; start = 1 + octets; size = 1 + (octets + n) })) >>=
    λ header. outer_by header (first ∷ bytes))
    ≡ cond large (Err (Length 1)) (cond (ltb (length bytes) (octets + n)) (Err (Short (length bytes + 1)))
    (Ok (outer_with apdu_type n octets bytes)))
outer_in first apdu_type n octets true bytes = refl
outer_in first apdu_type n octets false bytes =
    let all = first ∷ bytes in
    let count : length all ≡ length bytes + 1 = omega arith in
    let fewer : ltb (length all) (1 + (octets + n)) ≡ ltb (length bytes) (octets + n) =
    elim (cases_lt (length bytes) (octets + n)) [
      | inl lt ↦ lt-ltb (length all) (1 + (octets + n)) (omega (arith, lt)) ∙ sym (lt-ltb (length bytes) (octets + n) lt)
      | inr le ↦ le-ltb (length all) (1 + (octets + n)) (omega (arith, le)) ∙ sym (le-ltb (length bytes) (octets + n) le)
    ] in
    let later : drop (1 + octets) all ≡ drop octets bytes = sym (drop-drop octets 1 all) in
    let many : 1 + (octets + n) - (1 + octets) ≡ n = omega arith in
    rw (fewer, count, later, many) refl

-- For a known type, reading the header and then the contents gives the result of `outer_after`.
outer_cases : (first : ℕ) (apdu_type : ApduType) (form : LengthForm) (bytes : List ℕ)
    → (header_by apdu_type form (length bytes + 1) >>= λ header. outer_by header (first ∷ bytes))
    ≡ outer_after apdu_type form bytes
outer_cases first apdu_type Truncated bytes = refl
outer_cases first apdu_type Invalid bytes = refl
outer_cases first apdu_type (Definite n octets) bytes = outer_in first apdu_type n octets (ltb 355 n) bytes

-- Reading the header and then the contents gives the result of `outer_of`.
outer_from : (first : ℕ) (o : Option ApduType) (bytes : List ℕ)
    → (header_of o bytes >>= λ header. outer_by header (first ∷ bytes)) ≡ outer_of o bytes
outer_from first None bytes = refl
outer_from first (Some apdu_type) bytes = outer_cases first apdu_type (length_of bytes) bytes

-- `outer_at (first ∷ bytes)` is `outer_of` for `bytes` and the type that has the identifier `first`.
pub outer_is : (first : ℕ) (bytes : List ℕ) → outer_at (first ∷ bytes) ≡ outer_of (type_with first) bytes
unfolding outer_at header_at
outer_is first bytes = outer_from first (type_with first) bytes

-- `outer_at` of no bytes is Short 0.
pub outer_none : outer_at [] ≡ Err (Short 0)
unfolding outer_at header_at
outer_none = refl

-- If `outer_after` gives `outer`, and `first` is the octet of its type, `first ∷ bytes` begins with its element.
-- By `small` the length is at most 355, and by `whole` all contents are there. `split` parts them from the bytes after.
outer_by_takes : (first : ℕ) (apdu_type : ApduType) (form : LengthForm) (bytes : List ℕ) (outer : Outer) → IsBytes bytes
    → first ≡ identifier_of apdu_type → length_of bytes ≡ form → outer_after apdu_type form bytes ≡ Ok outer
    → IsOuter (first ∷ bytes) outer
outer_by_takes first apdu_type Truncated bytes outer fits k f e = absurd cc
outer_by_takes first apdu_type Invalid bytes outer fits k f e = absurd cc
outer_by_takes first apdu_type (Definite n octets) bytes outer fits k f e =
    let small = test_failed (ltb 355 n)
    (cond (ltb (length bytes) (octets + n)) (Err (Short (length bytes + 1))) (Ok (outer_with apdu_type n octets bytes)))
    (Length 1) outer e in
    let whole = test_failed (ltb (length bytes) (octets + n)) (Ok (outer_with apdu_type n octets bytes))
    (Short (length bytes + 1))
    outer small.1 in
    let is : outer_with apdu_type n octets bytes ≡ outer = ok_is (outer_with apdu_type n octets bytes) outer whole.1 in
    let enough = ltb-false (length bytes) (octets + n) whole.0 in
    let encoded = length_takes bytes n octets fits f in
    let taken = drop octets bytes in
    let size : length (take n taken) ≡ n = omega (arith, length-take n taken, length-drop octets bytes) in
    let split : taken ≡ take n taken ++ drop (octets + n) bytes =
    sym (take-append-drop n taken) ∙ ap (λ (x : List ℕ). take n taken ++ x) (drop-drop n octets bytes) in
    let later : drop (1 + (octets + n)) (first ∷ bytes) ≡ drop (octets + n) bytes =
    sym (drop-drop (octets + n) 1 (first ∷ bytes)) in
    let parts : first ∷ bytes ≡ element (identifier_of apdu_type) (take n taken) ++ drop (1 + (octets + n)) (first ∷ bytes) =
    assembled (identifier_of apdu_type) n octets (first ∷ bytes) bytes (take n taken) (drop (octets + n) bytes)
    (ap (λ (x : ℕ). x ∷ bytes) k) encoded.0 split size
    ∙ ap (λ (x : List ℕ). element (identifier_of apdu_type) (take n taken) ++ x) (sym later) in
    subst (λ (x : Outer). IsOuter (first ∷ bytes) x) is
    (record { parts = parts; inside_fits = IsBytes-take n taken (IsBytes-drop octets bytes fits) })

-- If `outer_of` gives `outer`, and `first` is the octet of the type `o`, `first ∷ bytes` begins with its element.
outer_of_takes : (first : ℕ) (o : Option ApduType) (bytes : List ℕ) (outer : Outer) → IsBytes bytes
    → type_with first ≡ o → outer_of o bytes ≡ Ok outer → IsOuter (first ∷ bytes) outer
outer_of_takes first None bytes outer fits k e = absurd cc
outer_of_takes first (Some apdu_type) bytes outer fits k e =
    outer_by_takes first apdu_type (length_of bytes) bytes outer fits (identifier_with first apdu_type k) refl e

-- If `outer_at bytes` gives `outer`, `bytes` begins with the element of `outer`.
outer_takes : (bytes : List ℕ) (outer : Outer) → IsBytes bytes → outer_at bytes ≡ Ok outer → IsOuter bytes outer
outer_takes [] outer fits e = absurd (no_value (Short 0) outer (sym e ∙ outer_none))
outer_takes (first ∷ bytes) outer fits e =
    outer_of_takes first (type_with first) bytes outer (IsBytes-drop 1 (first ∷ bytes) fits) refl (sym (outer_is first bytes) ∙ e)

-- `outer_at` reads the element of `apdu_type` and `contents`, with its size, from bytes that `more` follows.
abbrev OuterAgain : ApduType → List ℕ → List ℕ → Type 0
OuterAgain apdu_type contents more =
    (at : ℕ) × (outer_at (element (identifier_of apdu_type) contents ++ more)
    ≡ Ok (record {
      apdu_type = apdu_type;
      inside = cursor_at at contents;
      size = length (element (identifier_of apdu_type) contents);
    }))

-- If `contents` has at most 355 octets, `outer_after` reads it after the length octets, whatever follows.
outer_by_again : (apdu_type : ApduType) (octets contents more : List ℕ) → length contents ≤ 355
    → outer_after apdu_type (Definite (length contents) (length octets)) (octets ++ (contents ++ more))
    ≡ Ok (record {
      apdu_type = apdu_type;
      inside = cursor_at (1 + length octets) contents;
      size = 1 + (length octets + length contents);
    })
outer_by_again apdu_type octets contents more small =
    let all = octets ++ (contents ++ more) in
    let short : ltb 355 (length contents) ≡ false = le-ltb 355 (length contents) small in
    let enough : ltb (length all) (length octets + length contents) ≡ false =
    le-ltb _ _ (omega (arith, length-append octets (contents ++ more), length-append contents more)) in
    let inside : take (length contents) (drop (length octets) all) ≡ contents =
    ap (take (length contents)) (drop_at octets (contents ++ more) (length octets) refl)
    ∙ take_at contents more (length contents) refl in
    rw (short, enough, inside) refl

-- `outer_at` reads an APDU of at most 355 contents octets from its encoding, whatever follows.
outer_again : (apdu_type : ApduType) (contents more : List ℕ) → length contents ≤ 355 → OuterAgain apdu_type contents more
unfolding element
outer_again apdu_type contents more small =
    let octets = length_octets (length contents) in
    let identifier = identifier_of apdu_type in
    let later = (octets ++ contents) ++ more in
    let size : 1 + (length octets + length contents) ≡ length (identifier ∷ (octets ++ contents)) =
    omega (arith, length-append octets contents) in
    let read : outer_of (type_with identifier) later
    ≡ Ok (record {
      apdu_type = apdu_type;
      inside = cursor_at (1 + length octets) contents;
      size = length (identifier ∷ (octets ++ contents));
    }) =
    rw (type_again apdu_type, append_assoc octets contents more, length_again (length contents) (contents ++ more) (omega arith))
    (rw (← size) (outer_by_again apdu_type octets contents more small)) in
    (1 + length octets, outer_is identifier later ∙ read)

-- If `outer_after` is `Short n`, `n` is one more than the number of `bytes`, which is at most 357.
outer_by_short : (apdu_type : ApduType) (form : LengthForm) (bytes : List ℕ) (n : ℕ) → IsFew form (length bytes)
    → outer_after apdu_type form bytes ≡ Err (Short n) → (n ≡ length bytes + 1) × (length bytes ≤ 357)
outer_by_short apdu_type Truncated bytes n few e = (sym (short_is (length bytes + 1) n e), omega arith)
outer_by_short apdu_type Invalid bytes n few e = absurd (length_inside 1 (Short n) e)
outer_by_short apdu_type (Definite m octets) bytes n few e =
    elim (chosen (ltb 355 m) (Err (Length 1))
    (cond (ltb (length bytes) (octets + m)) (Err (Short (length bytes + 1))) (Ok (outer_with apdu_type m octets bytes)))
    (Err (Short n)) e) [
      | inl h ↦ absurd (length_inside 1 (Short n) h.1)
      | inr h ↦ elim (chosen (ltb (length bytes) (octets + m)) (Err (Short (length bytes + 1)))
          (Ok (outer_with apdu_type m octets bytes)) (Err (Short n)) h.1) [
            | inl g ↦ (
              sym (short_is (length bytes + 1) n g.1),
              omega (arith, ltb-true (length bytes) (octets + m) g.0, ltb-false 355 m h.0),
            )
            | inr g ↦ absurd (no_value (Short n) (outer_with apdu_type m octets bytes) g.1)
          ]
    ]

-- If `outer_of` is `Short n`, `n` is one more than the number of `bytes`, which is at most 357.
outer_of_short : (o : Option ApduType) (bytes : List ℕ) (n : ℕ) → outer_of o bytes ≡ Err (Short n)
    → (n ≡ length bytes + 1) × (length bytes ≤ 357)
outer_of_short None bytes n e = absurd (tag_inside 0 (Short n) e)
outer_of_short (Some apdu_type) bytes n e = outer_by_short apdu_type (length_of bytes) bytes n (length_few bytes) e

-- If `outer_at bytes` is `Short n`, `n` is the number of `bytes`, which is at most 358.
outer_short : (bytes : List ℕ) (n : ℕ) → outer_at bytes ≡ Err (Short n) → (n ≡ length bytes) × (length bytes ≤ 358)
outer_short [] n e = (sym (short_is 0 n (sym outer_none ∙ e)), omega arith)
outer_short (first ∷ bytes) n e =
    let is = outer_of_short (type_with first) bytes n (sym (outer_is first bytes) ∙ e) in
    (omega (arith, is.0), omega (arith, is.1))

-- ---- whole APDUs

-- `apdu` is in range, and `bytes` is its encoding followed by `rest`.
abbrev IsAtPrefix : List ℕ → Apdu → List ℕ → Type 0
IsAtPrefix bytes apdu rest = IsApdu apdu × (bytes ≡ encoding apdu ++ rest)

-- If `apdu_at` reads `apdu` from `bytes`, `apdu` is in range, and `bytes` is its encoding followed by `rest`.
-- `outer` is the element that was read, and `inner` the APDU of its contents.
pub apdu_takes : Values → (bytes : List ℕ) (apdu : Apdu) (rest : List ℕ) → IsBytes bytes
    → apdu_at bytes ≡ Ok (apdu, rest) → IsApdu apdu × (bytes ≡ encoding apdu ++ rest)
unfolding apdu_at encoding
apdu_takes values bytes apdu rest fits e =
    let outer = bind_ok (outer_at bytes)
    (λ outer. inside_of outer.apdu_type outer.inside >>= λ apdu. Ok (apdu, drop outer.size bytes)) (apdu, rest) e in
    let size = outer.value.size in
    let apdu_type = outer.value.apdu_type in
    let inner = bind_ok (inside_of apdu_type outer.value.inside) (λ apdu. Ok (apdu, drop size bytes)) (apdu, rest)
    outer.follows in
    let both : (inner.value, drop size bytes) ≡ (apdu, rest) = ok_is (inner.value, drop size bytes) (apdu, rest) inner.follows in
    let whole = outer_takes bytes outer.value fits outer.given in
    let inside = inside_takes values apdu_type outer.value.inside inner.value whole.inside_fits inner.given in
    let parts : bytes ≡ element (identifier_of (type_of inner.value.body)) (contents_of inner.value) ++ drop size bytes =
    whole.parts ∙ ap (λ (x : List ℕ). element (identifier_of apdu_type) x ++ drop size bytes) inside.0
    ∙ ap (λ (k : ApduType). element (identifier_of k) (contents_of inner.value) ++ drop size bytes) (sym inside.2) in
    subst (λ (x : Apdu × List ℕ). IsAtPrefix bytes x.0 x.1) both (inside.1, parts)

-- `apdu_at` reads each APDU in range from its encoding, whatever follows.
pub apdu_again : Values → (apdu : Apdu) (rest : List ℕ) → IsApdu apdu → apdu_at (encoding apdu ++ rest) ≡ Ok (apdu, rest)
unfolding apdu_at encoding
apdu_again values apdu rest is =
    let text = element (identifier_of (type_of apdu.body)) (contents_of apdu) in
    let outer = outer_again (type_of apdu.body) (contents_of apdu) rest (contents_bound values apdu is) in
    let inner = inside_again values apdu outer.0 is in
    let later : drop (length text) (text ++ rest) ≡ rest = drop_at text rest (length text) refl in
    rw (outer.1, inner, later) refl

-- If `apdu_at bytes` is `Short n`, `n` is the number of `bytes`, which is at most 358.
pub apdu_short : Values → (bytes : List ℕ) (n : ℕ) → apdu_at bytes ≡ Err (Short n) → (n ≡ length bytes) × (length bytes ≤ 358)
unfolding apdu_at
apdu_short values bytes n e =
    elim (bind_err (outer_at bytes) (λ outer. inside_of outer.apdu_type outer.inside >>= λ apdu. Ok (apdu, drop outer.size bytes))
    (Short n) e) [
      | inl h ↦ outer_short bytes n h
      | inr outer ↦ elim (bind_err (inside_of outer.value.apdu_type outer.value.inside)
          (λ apdu. Ok (apdu, drop outer.value.size bytes)) (Short n) outer.follows) [
            | inl g ↦ absurd (inside_faults values outer.value.apdu_type outer.value.inside (Short n) g)
            | inr inner ↦ absurd (no_value (Short n) (inner.value, drop outer.value.size bytes) inner.follows)
          ]
    ]

-- The fault of `outer_after` is never OutOfMemory.
outer_by_memory : (apdu_type : ApduType) (form : LengthForm) (bytes : List ℕ)
    → outer_after apdu_type form bytes ≡ Err OutOfMemory → ⊥
outer_by_memory apdu_type Truncated bytes e = short_or_memory (length bytes + 1) e
outer_by_memory apdu_type Invalid bytes e = length_inside 1 OutOfMemory e
outer_by_memory apdu_type (Definite m octets) bytes e =
    elim (chosen (ltb 355 m) (Err (Length 1))
    (cond (ltb (length bytes) (octets + m)) (Err (Short (length bytes + 1))) (Ok (outer_with apdu_type m octets bytes)))
    (Err OutOfMemory) e) [
      | inl h ↦ length_inside 1 OutOfMemory h.1
      | inr h ↦ elim (chosen (ltb (length bytes) (octets + m)) (Err (Short (length bytes + 1)))
          (Ok (outer_with apdu_type m octets bytes)) (Err OutOfMemory) h.1) [
            | inl g ↦ short_or_memory (length bytes + 1) g.1
            | inr g ↦ no_value OutOfMemory (outer_with apdu_type m octets bytes) g.1
          ]
    ]

-- The fault of `outer_of` is never OutOfMemory.
outer_of_memory : (o : Option ApduType) (bytes : List ℕ) → outer_of o bytes ≡ Err OutOfMemory → ⊥
outer_of_memory None bytes e = tag_inside 0 OutOfMemory e
outer_of_memory (Some apdu_type) bytes e = outer_by_memory apdu_type (length_of bytes) bytes e

-- The fault of `outer_at` is never OutOfMemory.
outer_memory : (bytes : List ℕ) → outer_at bytes ≡ Err OutOfMemory → ⊥
outer_memory [] e = short_or_memory 0 (sym outer_none ∙ e)
outer_memory (first ∷ bytes) e = outer_of_memory (type_with first) bytes (sym (outer_is first bytes) ∙ e)

-- The fault of `apdu_at` is never OutOfMemory.
pub apdu_memory : Values → (bytes : List ℕ) → apdu_at bytes ≡ Err OutOfMemory → ⊥
unfolding apdu_at
apdu_memory values bytes e =
    elim (bind_err (outer_at bytes) (λ outer. inside_of outer.apdu_type outer.inside >>= λ apdu. Ok (apdu, drop outer.size bytes))
    OutOfMemory e) [
      | inl h ↦ outer_memory bytes h
      | inr outer ↦ elim (bind_err (inside_of outer.value.apdu_type outer.value.inside)
          (λ apdu. Ok (apdu, drop outer.value.size bytes)) OutOfMemory outer.follows) [
            | inl g ↦ inside_faults values outer.value.apdu_type outer.value.inside OutOfMemory g
            | inr inner ↦ no_value OutOfMemory (inner.value, drop outer.value.size bytes) inner.follows
          ]
    ]

-- ---- bytes followed by anything

-- The length is not truncated, so further bytes cannot change it.
abbrev pub IsFinal : LengthForm → Type 0
IsFinal Truncated = ⊥
IsFinal Invalid = Unit {0}
IsFinal (Definite n octets) = Unit {0}

-- If a choice is final with Truncated in its cases `one` and `two`, `y` and `z` in these cases change nothing.
-- In `length_more` these cases are a single octet 81 or 82, after which the length is missing.
final_after_one_octet : (short one two : Bool) (x y z w : LengthForm)
    → IsFinal (cond short x (cond one Truncated (cond two Truncated w)))
    → cond short x (cond one y (cond two z w)) ≡ cond short x (cond one Truncated (cond two Truncated w))
final_after_one_octet true one two x y z w final = refl
final_after_one_octet false true two x y z w final = absurd final
final_after_one_octet false false true x y z w final = absurd final
final_after_one_octet false false false x y z w final = refl

-- If a choice is final with Truncated in its case `two`, `z` in this case changes nothing.
-- In `length_more` this case is an octet 82, after which one of two octets is missing.
final_after_two_octets : (short one two : Bool) (x y z w : LengthForm)
    → IsFinal (cond short x (cond one y (cond two Truncated w)))
    → cond short x (cond one y (cond two z w)) ≡ cond short x (cond one y (cond two Truncated w))
final_after_two_octets true one two x y z w final = refl
final_after_two_octets false true two x y z w final = refl
final_after_two_octets false false true x y z w final = absurd final
final_after_two_octets false false false x y z w final = refl

-- If `bytes` begins with a final length, `bytes ++ more` begins with an equal length.
pub length_more : (bytes more : List ℕ) → IsFinal (length_of bytes) → length_of (bytes ++ more) ≡ length_of bytes
unfolding length_of
length_more [] more final = absurd final
length_more (first ∷ []) more final =
    final_after_one_octet (ltb first 128) (eqb first 0x81) (eqb first 0x82) (Definite first 1) (one_octet_length more)
    (two_octet_length more) Invalid final
length_more (first ∷ second ∷ []) more final =
    final_after_two_octets (ltb first 128) (eqb first 0x81) (eqb first 0x82) (Definite first 1) (one_octet_length (second ∷ []))
    (two_octet_length (second ∷ more)) Invalid final
length_more (first ∷ second ∷ third ∷ rest) more final = refl

-- Let `bytes` have all `n` contents octets after `octets` length octets. Then `bytes ++ more` has equal contents octets
-- after its length octets.
same_contents : (n octets : ℕ) (bytes more : List ℕ) → octets + n ≤ length bytes
    → take n (drop octets (bytes ++ more)) ≡ take n (drop octets bytes)
same_contents n octets bytes more enough =
    ap (take n) (drop-append-le octets bytes more (omega arith))
    ∙ take-append-le n (drop octets bytes) more (omega (arith, length-drop octets bytes))

-- If `outer_after` reads `outer` from `bytes`, the length is final, and `outer` is read from `bytes ++ more`.
outer_by_more : (apdu_type : ApduType) (form : LengthForm) (bytes more : List ℕ) (outer : Outer)
    → outer_after apdu_type form bytes ≡ Ok outer
    → IsFinal form × (outer_after apdu_type form (bytes ++ more) ≡ Ok outer)
outer_by_more apdu_type Truncated bytes more outer e = absurd cc
outer_by_more apdu_type Invalid bytes more outer e = absurd cc
outer_by_more apdu_type (Definite n octets) bytes more outer e =
    let small = test_failed (ltb 355 n)
    (cond (ltb (length bytes) (octets + n)) (Err (Short (length bytes + 1))) (Ok (outer_with apdu_type n octets bytes)))
    (Length 1) outer e in
    let whole = test_failed (ltb (length bytes) (octets + n)) (Ok (outer_with apdu_type n octets bytes))
    (Short (length bytes + 1))
    outer small.1 in
    let enough = ltb-false (length bytes) (octets + n) whole.0 in
    let longer : ltb (length (bytes ++ more)) (octets + n) ≡ false = le-ltb _ _ (omega (arith, length-append bytes more)) in
    (tt, rw (small.0, longer, same_contents n octets bytes more enough) whole.1)

-- If `outer_of` reads `outer` from `bytes`, it reads `outer` from `bytes ++ more`.
outer_of_more : (first : ℕ) (o : Option ApduType) (bytes more : List ℕ) (outer : Outer) → outer_of o bytes ≡ Ok outer
    → outer_of o (bytes ++ more) ≡ Ok outer
outer_of_more first None bytes more outer e = absurd cc
outer_of_more first (Some apdu_type) bytes more outer e =
    let is = outer_by_more apdu_type (length_of bytes) bytes more outer e in
    ap (λ (form : LengthForm). outer_after apdu_type form (bytes ++ more)) (length_more bytes more is.0) ∙ is.1

-- If `outer_at` reads `outer` from `bytes`, it reads `outer` from `bytes ++ more`.
outer_more : (bytes more : List ℕ) (outer : Outer) → outer_at bytes ≡ Ok outer → outer_at (bytes ++ more) ≡ Ok outer
outer_more [] more outer e = absurd (no_value (Short 0) outer (sym e ∙ outer_none))
outer_more (first ∷ bytes) more outer e =
    outer_is first (bytes ++ more) ∙ outer_of_more first (type_with first) bytes more outer (sym (outer_is first bytes) ∙ e)

-- If `outer_after` has a fault other than Short, the length is final, and `bytes ++ more` has the fault.
outer_by_stays : (apdu_type : ApduType) (form : LengthForm) (bytes more : List ℕ) (d : DerFault) → IfShort d ⊥
    → outer_after apdu_type form bytes ≡ Err d → IsFinal form × (outer_after apdu_type form (bytes ++ more) ≡ Err d)
outer_by_stays apdu_type Truncated bytes more d other e =
    absurd (subst (λ (f : DerFault). IfShort f ⊥) (sym (fault_is (Short (length bytes + 1)) d e)) other)
outer_by_stays apdu_type Invalid bytes more d other e = (tt, e)
outer_by_stays apdu_type (Definite n octets) bytes more d other e =
    elim (chosen (ltb 355 n) (Err (Length 1))
    (cond (ltb (length bytes) (octets + n)) (Err (Short (length bytes + 1))) (Ok (outer_with apdu_type n octets bytes)))
    (Err d) e) [
      | inl h ↦ (tt, rw h.0 h.1)
      | inr h ↦ elim (chosen (ltb (length bytes) (octets + n)) (Err (Short (length bytes + 1)))
          (Ok (outer_with apdu_type n octets bytes)) (Err d) h.1) [
            | inl g ↦ absurd (subst (λ (f : DerFault). IfShort f ⊥) (sym (fault_is (Short (length bytes + 1)) d g.1)) other)
            | inr g ↦ absurd (no_value d (outer_with apdu_type n octets bytes) g.1)
          ]
    ]

-- If `outer_of` has a fault of `bytes` other than Short, it has that fault of `bytes ++ more`.
outer_of_stays : (o : Option ApduType) (bytes more : List ℕ) (d : DerFault) → IfShort d ⊥ → outer_of o bytes ≡ Err d
    → outer_of o (bytes ++ more) ≡ Err d
outer_of_stays None bytes more d other e = e
outer_of_stays (Some apdu_type) bytes more d other e =
    let is = outer_by_stays apdu_type (length_of bytes) bytes more d other e in
    ap (λ (form : LengthForm). outer_after apdu_type form (bytes ++ more)) (length_more bytes more is.0) ∙ is.1

-- If `outer_at` has a fault of `bytes` other than Short, it has that fault of `bytes ++ more`.
outer_stays : (bytes more : List ℕ) (d : DerFault) → IfShort d ⊥ → outer_at bytes ≡ Err d → outer_at (bytes ++ more) ≡ Err d
outer_stays [] more d other e =
    absurd (subst (λ (f : DerFault). IfShort f ⊥) (sym (fault_is (Short 0) d (sym outer_none ∙ e))) other)
outer_stays (first ∷ bytes) more d other e =
    outer_is first (bytes ++ more) ∙ outer_of_stays (type_with first) bytes more d other (sym (outer_is first bytes) ∙ e)

-- If `bytes` has a fault other than Short, `bytes ++ more` has it.
pub fault_stays : (bytes more : List ℕ) (d : DerFault) → IfShort d ⊥ → apdu_at bytes ≡ Err d → apdu_at (bytes ++ more) ≡ Err d
unfolding apdu_at
fault_stays bytes more d other e =
    elim (bind_err (outer_at bytes) (λ outer. inside_of outer.apdu_type outer.inside >>= λ apdu. Ok (apdu, drop outer.size bytes))
    d e) [
      | inl h ↦ rw (outer_stays bytes more d other h) refl
      | inr outer ↦ elim (bind_err (inside_of outer.value.apdu_type outer.value.inside)
          (λ apdu. Ok (apdu, drop outer.value.size bytes)) d outer.follows) [
            | inl g ↦ rw (outer_more bytes more outer.value outer.given, g) refl
            | inr inner ↦ absurd (no_value d (inner.value, drop outer.value.size bytes) inner.follows)
          ]
    ]
