-- The laws of a field. The bytes that it reads as a value are the encoding of the value, and it reads each encoding.
-- Each way to make a field from others keeps these laws.
use Rattle.std.proofs.Common.{◌≡◌, ℕ, zero, suc, ◌+◌, ◌<◌, ◌≤◌, Bool, true, false, cond, ◌&&◌, eqb, leb, ltb, List, [], ◌∷◌, ◌++◌}
use Rattle.std.proofs.Common.{length, take, drop, Option, Some, None, Result, Ok, Err, refl, sym, ap, subst, ◌∙◌, inl, inr}
use Rattle.std.proofs.Common.{append_assoc, length-append, arith, rules}
use Rattle.std.specs.Prelude.{IfSome, is_ok}
use Rattle.std.proofs.lemmas.Bool.{eqb-true, eq-eqb, leb-true, le-leb, and_parts, ltb-false, le-ltb}
use Rattle.std.proofs.lemmas.List.{take_at, drop_at, take-append-drop, length-take-le}
use Rattle.std.proofs.lemmas.Option.{same_Some, cond_some}
use Rattle.ill_values.specs.declared.apdu.Apdu.{Apdu}
use Rattle.ill_values.specs.declared.fault.TextFault.{TextFault}
use Rattle.ill_values.specs.Apdu.{IsApdu, IsNumber}
use Rattle.ill_values.specs.Day.{Date, IsDate, date_text, read_date}
use Rattle.ill_values.specs.Text.{IsQualifier, qualifier_check}
use Rattle.ill_der.specs.declared.fault.DerFault.{DerFault}
use Rattle.ill_der.specs.declared.fault.DerFault.TheVariants as der
use Rattle.ill_der.specs.Contents.{Contents, qualifier}
use Rattle.ill_der.specs.Format.{◌>>=◌, Cursor, cursor_at, followed_by}
use Rattle.ill_der.specs.ShortForm.{encoding, apdu_at}
use Rattle.ill_der.specs.Laws.{IsBytes, BeginsWithOne}
use Rattle.ill_core.specs.declared.state.State.{State}
use Rattle.ill_values.specs.Bodies.{is_ill_request}
use Rattle.ill_record.specs.declared.fault.LayoutFault.TheVariants.{Short, Bad}
use Rattle.ill_record.specs.declared.role.Role.{Role}
use Rattle.ill_record.specs.declared.role.Role.TheVariants as roles
use Rattle.ill_record.specs.Layout.{Field, bytes_at, value_at, sized, one_octet, octet, constant, count, number_octet}
use Rattle.ill_record.specs.Layout.{optional_number, mark, text_size, counted_text, apdu_by, apdu, ill_request, marked}
use Rattle.ill_record.specs.Layout.{encode_all}
use Rattle.ill_record.specs.Layout.{read_all, counted_by, counted}
use Rattle.ill_record.specs.Records.{state_code, state_with, state_in, role_octet, role_with, role}
use Rattle.ill_record.specs.Ranges.{Each}
use Rattle.ill_der.proofs.Chains.{bind_ok, passed, test_failed, chosen, ok_is}
use Rattle.ill_der.proofs.ContentsLaws.{found_with}
use Rattle.ill_der.proofs.Formats.{IsCodec, Both, followed_codec, where_codec}
use Rattle.ill_record.proofs.Steps.{IsBytes-take, IsBytes-rest}

-- The laws of the crates below on dates, qualifiers and APDUs.
-- A valid date is read from its text, and an APDU from its encoding. A qualifier has 1 to 64 bytes.
-- If a text is read as a date, it is the date's text. If an APDU is read, the bytes begin with its encoding.
pub record Below : Type 0 where
  pub day_encoded : (d : Date) → IsDate d → read_date (date_text d) ≡ Ok d
  pub day_read : (text : List ℕ) (d : Date) → read_date text ≡ Ok d → IsDate d × (text ≡ date_text d)
  pub text_size : (text : List ℕ) → IsQualifier text → (1 ≤ length text) × (length text ≤ 64)
  pub apdu_again : (a : Apdu) (rest : List ℕ) → IsApdu a → apdu_at (encoding a ++ rest) ≡ Ok (a, rest)
  pub apdu_or_fault : (bytes : List ℕ) → IsBytes bytes → BeginsWithOne bytes (apdu_at bytes)

-- `f` reads `v` from its encoding at offset `at`, and leaves the cursor before `more`.
abbrev pub ReadsAgain : {V : Type 0} → Field V → V → ℕ → List ℕ → Type 0
ReadsAgain f v at more = (after : ℕ) × (f.read (cursor_at at (f.encode v ++ more)) ≡ Ok (v, cursor_at after more))

-- `bytes` is the encoding of `v` followed by `rest`, and `v` satisfies `P`.
abbrev pub Takes : {V : Type 0} → Field V → (V → Type 0) → List ℕ → V → List ℕ → Type 0
Takes f P bytes v rest = (bytes ≡ f.encode v ++ rest) × P v

-- The two laws of a field. If it reads a value, the bytes read are its encoding, and the value satisfies `P`.
-- Each value that satisfies `P` is read from its encoding.
pub record IsField {V : Type 0} (P : V → Type 0) (f : Field V) : Type 0 where
  pub takes : (left : Cursor) (v : V) (rest : Cursor) → IsBytes left.bytes → f.read left ≡ Ok (v, rest)
      → Takes f P left.bytes v rest.bytes
  pub again : (v : V) (at : ℕ) (more : List ℕ) → P v → ReadsAgain f v at more

-- If a field is read from octets, the rest after it is octets.
pub rest_fits : {V : Type 0} (P : V → Type 0) (f : Field V) → IsField P f → (left : Cursor) (v : V) (rest : Cursor)
    → IsBytes left.bytes → f.read left ≡ Ok (v, rest) → IsBytes rest.bytes
rest_fits P f is left v rest fits e = IsBytes-rest left.bytes (f.encode v) rest.bytes (is.takes left v rest fits e).0 fits

-- ---- a field of `n` bytes

-- If `value_at` gives `v`, `o` is `Some v`.
value_found : {V : Type 0} (at : ℕ) (o : Option V) (v : V) → value_at at o ≡ Ok v → o ≡ Some v
value_found at (Some x) v e = ap Some (ok_is x v e)
value_found at None v e = absurd cc

-- The laws of contents of `n` bytes. If they are read as a value, they are its encoding, and it satisfies `P`.
-- Each value that satisfies `P` has an encoding of `n` bytes, from which it is read.
pub record IsSized {V : Type 0} (P : V → Type 0) (n : ℕ) (contents : Contents V) : Type 0 where
  pub takes : (bytes : List ℕ) (v : V) → IsBytes bytes → length bytes ≡ n → contents.read bytes ≡ Some v
      → (bytes ≡ contents.encode v) × P v
  pub again : (v : V) → P v → (contents.read (contents.encode v) ≡ Some v) × (length (contents.encode v) ≡ n)

-- If a field of `n` bytes reads a value, the bytes read are its encoding. The contents are the first `n` bytes, and
-- obey `IsSized`. `part` is these bytes with the cursor after them, and `found` the value that they encode.
sized_takes : {V : Type 0} (P : V → Type 0) (n : ℕ) (contents : Contents V) → IsSized P n contents
    → (left : Cursor) (v : V) (rest : Cursor) → IsBytes left.bytes → (sized n contents).read left ≡ Ok (v, rest)
    → Takes (sized n contents) P left.bytes v rest.bytes
sized_takes {V} P n contents is left v rest fits e =
    let whole : List ℕ × Cursor = (take n left.bytes, cursor_at (left.at + n) (drop n left.bytes)) in
    let part = bind_ok (bytes_at n left) (λ part. value_at left.at (contents.read part.0) >>= λ value. Ok (value, part.1))
    (v, rest) e in
    let found = bind_ok (value_at left.at (contents.read part.value.0)) (λ value. Ok (value, part.value.1)) (v, rest)
    part.follows in
    let both : (found.value, part.value.1) ≡ (v, rest) = ok_is (found.value, part.value.1) (v, rest) found.follows in
    let there = test_failed (ltb (length left.bytes) n) (Ok whole) Short part.value part.given in
    let taken : whole ≡ part.value = ok_is whole part.value there.1 in
    let read = ap (λ (p : List ℕ × Cursor). contents.read p.0) taken
    ∙ value_found left.at (contents.read part.value.0) found.value found.given in
    let value = is.takes (take n left.bytes) found.value (IsBytes-take n left.bytes fits)
    (length-take-le n left.bytes (ltb-false (length left.bytes) n there.0)) read in
    let parts : left.bytes ≡ contents.encode found.value ++ part.value.1.bytes =
    sym (take-append-drop n left.bytes) ∙ ap (λ (x : List ℕ). x ++ drop n left.bytes) value.0
    ∙ ap (λ (p : List ℕ × Cursor). contents.encode found.value ++ p.1.bytes) taken in
    subst (λ (x : V × Cursor). Takes (sized n contents) P left.bytes x.0 x.1.bytes) both (parts, value.1)

-- A value that satisfies `P` is read from its encoding by its field of `n` bytes.
sized_again : {V : Type 0} (P : V → Type 0) (n : ℕ) (contents : Contents V) → IsSized P n contents
    → (v : V) (at : ℕ) (more : List ℕ) → P v → ReadsAgain (sized n contents) v at more
sized_again P n contents is v at more p =
    let text = contents.encode v in
    let read = is.again v p in
    let enough : ltb (length (text ++ more)) n ≡ false =
    le-ltb (length (text ++ more)) n (omega (arith, length-append text more, read.1)) in
    (at + n, rw (enough, take_at text more n read.1, drop_at text more n read.1, read.0) refl)

-- If `contents` obey `IsSized`, the field of `n` bytes obeys `IsField`.
pub sized_is : {V : Type 0} (P : V → Type 0) (n : ℕ) (contents : Contents V) → IsSized P n contents → IsField P (sized n contents)
sized_is P n contents is = record { takes = sized_takes P n contents is; again = sized_again P n contents is }

-- ---- one octet

-- If `value_of` reads only values whose code is the octet read, `bytes` read as a value are its encoding. The value
-- satisfies `P`.
one_takes : {V : Type 0} (P : V → Type 0) (code : V → ℕ) (value_of : ℕ → Option V)
    → ((n : ℕ) (v : V) → n < 256 → value_of n ≡ Some v → (n ≡ code v) × P v)
    → (bytes : List ℕ) (v : V) → IsBytes bytes → one_octet value_of bytes ≡ Some v → (bytes ≡ code v ∷ []) × P v
one_takes P code value_of takes [] v fits e = absurd cc
one_takes P code value_of takes (n ∷ []) v fits e =
    let is = takes n v (fits 0) e in
    (ap (λ (x : ℕ). x ∷ []) is.0, is.1)
one_takes P code value_of takes (n ∷ more ∷ rest) v fits e = absurd cc

-- If `value_of` reads exactly the values that satisfy `P`, each from its `code`, the field of one octet obeys the laws.
pub octet_is : {V : Type 0} (P : V → Type 0) (code : V → ℕ) (value_of : ℕ → Option V)
    → ((n : ℕ) (v : V) → n < 256 → value_of n ≡ Some v → (n ≡ code v) × P v)
    → ((v : V) → P v → value_of (code v) ≡ Some v) → IsField P (octet code value_of)
octet_is P code value_of takes again =
    sized_is P 1 _ (record {
      takes = λ bytes v fits one e. one_takes P code value_of takes bytes v fits e;
      again = λ v p.
          (again v p, refl);
    })

-- `v` is any value.
abbrev pub Any : {V : Type 0} → V → Type 0
Any v = Unit {0}

-- If a constant octet is read, it is `wanted`.
constant_takes : (wanted n : ℕ) (v : Unit {0}) → n < 256 → cond (eqb n wanted) (Some tt) None ≡ Some v → (n ≡ wanted) × Any v
constant_takes wanted n v small e = (eqb-true n wanted (cond_some (eqb n wanted) tt v e).0, tt)

-- The field of a constant octet obeys the laws.
pub constant_is : (n : ℕ) → IsField Any (constant n)
constant_is n = octet_is Any (λ _. n) (λ m. cond (eqb m n) (Some tt) None) (constant_takes n) (λ v p. rw (eq-eqb n n refl) refl)

-- The field of a count obeys the laws for counts below 256.
pub count_is : IsField (λ n. n < 256) count
count_is = octet_is (λ n. n < 256) (λ n. n) Some (λ n v small e. (same_Some n v e, subst (λ m. m < 256) (same_Some n v e) small))
    (λ v p. refl)

-- If an octet is read as an optional number, it is the octet of that optional number. The number is in range.
number_takes : (n : ℕ) (o : Option ℕ) → n < 256 → Some (cond (eqb n 0) None (Some n)) ≡ Some o
    → (n ≡ number_octet o) × IfSome o IsNumber
number_takes n o small e = search rules

-- An optional number in range is read from its octet.
number_again : (o : Option ℕ) → IfSome o IsNumber → Some (cond (eqb (number_octet o) 0) None (Some (number_octet o))) ≡ Some o
number_again None p = refl
number_again (Some n) p = search rules

-- The field of an optional number obeys the laws for numbers in range.
pub optional_number_is : IsField (λ o. IfSome o IsNumber) optional_number
optional_number_is = octet_is (λ o. IfSome o IsNumber) number_octet (λ n. Some (cond (eqb n 0) None (Some n))) number_takes
    number_again

-- If an octet is read as a mark, it is the octet of the mark. The octet 0 is false (`inl`), and 1 is true (`inr`).
mark_takes : (n : ℕ) (b : Bool) → n < 256 → cond (eqb n 0) (Some false) (cond (eqb n 1) (Some true) None) ≡ Some b
    → (n ≡ cond b 1 0) × Any b
mark_takes n b small e =
    elim (chosen (eqb n 0) (Some false) (cond (eqb n 1) (Some true) None) (Some b) e) [
      | inl h ↦ subst (λ (x : Bool). (n ≡ cond x 1 0) × Any x) (same_Some false b h.1) (eqb-true n 0 h.0, tt)
      | inr h ↦
          let is = cond_some (eqb n 1) true b h.1 in
          subst (λ (x : Bool). (n ≡ cond x 1 0) × Any x) is.1 (eqb-true n 1 is.0, tt)
    ]

-- A mark is read from its octet.
mark_again : (b : Bool) → Any b → cond (eqb (cond b 1 0) 0) (Some false) (cond (eqb (cond b 1 0) 1) (Some true) None) ≡ Some b
mark_again true p = refl
mark_again false p = refl

-- The field of a mark obeys the laws.
pub mark_is : IsField Any mark
mark_is = octet_is Any (λ b. cond b 1 0) (λ n. cond (eqb n 0) (Some false) (cond (eqb n 1) (Some true) None)) mark_takes
    mark_again

-- If an octet is read as a role, it is the octet of the role. The octet 0 is a requester (`inl`), and 1 a responder
-- (`inr`).
role_takes : (n : ℕ) (r : Role) → n < 256 → role_with n ≡ Some r → (n ≡ role_octet r) × Any r
role_takes n r small e =
    elim (chosen (eqb n 0) (Some roles.Requester) (cond (eqb n 1) (Some roles.Responder) None) (Some r) e) [
      | inl h ↦ subst (λ (x : Role). (n ≡ role_octet x) × Any x) (same_Some roles.Requester r h.1) (eqb-true n 0 h.0, tt)
      | inr h ↦
          let is = cond_some (eqb n 1) roles.Responder r h.1 in
          subst (λ (x : Role). (n ≡ role_octet x) × Any x) is.1 (eqb-true n 1 is.0, tt)
    ]

-- A role is read from its octet.
role_again : (r : Role) → Any r → role_with (role_octet r) ≡ Some r
role_again roles.Requester p = refl
role_again roles.Responder p = refl

-- The field of a role obeys the laws.
pub role_is : IsField Any role
role_is = octet_is Any role_octet role_with role_takes role_again

-- The length `n` is from 1 to 64.
abbrev pub IsTextSize : ℕ → Type 0
IsTextSize n = (1 ≤ n) × (n ≤ 64)

-- If an octet is read as a length, it is the length, from 1 to 64.
text_size_takes : (n v : ℕ) → n < 256 → cond (leb 1 n && leb n 64) (Some n) None ≡ Some v → (n ≡ v) × IsTextSize v
text_size_takes n v small e =
    let is = cond_some (leb 1 n && leb n 64) n v e in
    let range = and_parts (leb 1 n) (leb n 64) is.0 in
    subst (λ (x : ℕ). (n ≡ x) × IsTextSize x) is.1 (refl, (leb-true 1 n range.0, leb-true n 64 range.1))

-- The field of a length obeys the laws for lengths from 1 to 64.
text_size_is : IsField IsTextSize text_size
text_size_is = octet_is IsTextSize (λ n. n) (λ n. cond (leb 1 n && leb n 64) (Some n) None) text_size_takes
    (λ v p. rw (le-leb 1 v p.0, le-leb v 64 p.1) refl)

-- The state is among `states`, so it is read from its octet.
abbrev pub IsAmong : List State → State → Type 0
IsAmong states state = state_with states (state_code state) ≡ Some state

-- If an octet is read as a state among `states`, it is the octet of the state.
state_takes : (states : List State) (n : ℕ) (state : State) → n < 256 → state_with states n ≡ Some state
    → (n ≡ state_code state) × IsAmong states state
state_takes states n state small e =
    let same = found_with state_code n states state e in
    (same, sym (ap (state_with states) same) ∙ e)

-- The field of a state obeys the laws for the states in the list.
pub state_is : (states : List State) → IsField (IsAmong states) (state_in states)
state_is states = octet_is (IsAmong states) state_code (state_with states) (state_takes states) (λ v p. p)

-- ---- a field followed by another

-- If a field obeys the laws of a field, it obeys those of a codec, whatever bytes follow it.
codec_of : {V : Type 0} (P : V → Type 0) (f : Field V) → IsField P f → IsCodec P Any f
codec_of P f is = record {
  takes = λ left v rest fits e.
      let taken = is.takes left v rest fits e in (taken.0, taken.1, rest_fits P f is left v rest fits e);
  again = λ v at more p follows. is.again v at more p;
}

-- If a field obeys the laws of a codec, whatever bytes follow it, it obeys the laws of a field.
field_of : {V : Type 0} (P : V → Type 0) (f : Field V) → IsCodec P Any f → IsField P f
field_of P f is = record {
  takes = λ left v rest fits e. let taken = is.takes left v rest fits e in (taken.0, taken.1);
  again = λ v at more p. is.again v at more p tt;
}

-- If two fields obey the laws, the first followed by the second obeys them.
pub followed_is : {V W : Type 0} (P : V → Type 0) (Q : W → Type 0) (f : Field V) (g : Field W) → IsField P f
    → IsField Q g → IsField (Both P Q) (followed_by f g)
followed_is P Q f g fs gs =
    field_of (Both P Q) (followed_by f g) (followed_codec P Q Any Any f g (codec_of P f fs) (codec_of Q g gs) (λ w more q. tt))

-- ---- a qualifier, preceded by its length

-- If a check `r` succeeds, it is `Ok tt`.
checked : (r : Result (Unit {0}) TextFault) → is_ok r ≡ true → r ≡ Ok tt
checked (Ok x) e = refl
checked (Err f) e = absurd cc

-- The contents of a qualifier of length `n` obey the laws.
qualifier_sized : (n : ℕ) → IsSized (λ text. IsQualifier text × (length text ≡ n)) n qualifier
qualifier_sized n = record {
  takes = λ bytes v fits size e.
      let is = cond_some (is_ok (qualifier_check bytes)) bytes v e in
      (is.1, (subst IsQualifier is.1 (checked (qualifier_check bytes) is.0), ap length (sym is.1) ∙ size));
  again = λ v p. (rw p.0 refl, p.1);
}

-- If a qualifier is read after its length, the bytes read are its encoding. First `size` is read, and then as many
-- bytes.
text_takes : (left : Cursor) (v : List ℕ) (rest : Cursor) → IsBytes left.bytes → counted_text.read left ≡ Ok (v, rest)
    → Takes counted_text IsQualifier left.bytes v rest.bytes
text_takes left v rest fits e =
    let size = bind_ok (text_size.read left) (λ size. (sized size.0 qualifier).read size.1) (v, rest) e in
    let first = text_size_is.takes left size.value.0 size.value.1 fits size.given in
    let second = (sized_is _ size.value.0 qualifier (qualifier_sized size.value.0)).takes size.value.1 v rest
    (rest_fits IsTextSize text_size text_size_is left size.value.0 size.value.1 fits size.given) size.follows in (
      first.0 ∙ ap (λ (x : List ℕ). size.value.0 ∷ x) second.0 ∙ ap (λ (n : ℕ). n ∷ (v ++ rest.bytes)) (sym second.1.1),
      second.1.0,
    )

-- A qualifier is read from its encoding: its length and its bytes.
text_again : Below → (v : List ℕ) (at : ℕ) (more : List ℕ) → IsQualifier v → ReadsAgain counted_text v at more
text_again below v at more p =
    let size = text_size_is.again (length v) at (v ++ more) (below.text_size v p) in
    let text = (sized_is _ (length v) qualifier (qualifier_sized (length v))).again v size.0 more (p, refl) in
    (text.0, rw (size.1, text.1) refl)

-- The field of a qualifier, preceded by its length, obeys the laws.
pub counted_text_is : Below → IsField IsQualifier counted_text
counted_text_is below = record { takes = text_takes; again = text_again below }

-- ---- APDUs

-- If the field of an APDU gives an APDU, this APDU was read, and the cursor is before the rest.
apdu_found : (left : Cursor) (r : Result (Apdu × List ℕ) DerFault) (v : Apdu) (rest : Cursor)
    → apdu_by left r ≡ Ok (v, rest) → r ≡ Ok (v, rest.bytes)
apdu_found left (Ok found) v rest e =
    let both = ok_is (found.0, cursor_at _ found.1) (v, rest) e in
    ap (λ (x : Apdu × Cursor). Ok (x.0, x.1.bytes)) both
apdu_found left (Err (der.Short n)) v rest e = absurd cc
apdu_found left (Err (der.Tag at)) v rest e = absurd cc
apdu_found left (Err (der.Length at)) v rest e = absurd cc
apdu_found left (Err (der.Field at)) v rest e = absurd cc
apdu_found left (Err der.OutOfMemory) v rest e = absurd cc

-- If an APDU is read, the bytes read are its encoding, and it is in range.
one_taken : Below → (left : Cursor) (v : Apdu) (rest : Cursor) → IsBytes left.bytes → apdu.read left ≡ Ok (v, rest)
    → Takes apdu IsApdu left.bytes v rest.bytes
one_taken below left v rest fits e =
    let is = subst (BeginsWithOne left.bytes) (apdu_found left (apdu_at left.bytes) v rest e)
    (below.apdu_or_fault left.bytes fits) in
    (is.0.1, is.0.0)

-- The field of an APDU obeys the laws.
pub apdu_is : Below → IsField IsApdu apdu
apdu_is below = record {
  takes = one_taken below;
  again = λ v at more p.
      (_, ap (apdu_by (cursor_at at (encoding v ++ more))) (below.apdu_again v more p));
}

-- The APDU is an ILL-Request in range.
abbrev pub IsRequest : Apdu → Type 0
IsRequest a = IsApdu a × (is_ill_request a.body ≡ true)

-- If an ILL-Request is read, the bytes read are its encoding, and it is in range. `found` is the APDU that was read,
-- and `is` says that it is an ILL-Request. By `taken` its encoding was read.
request_takes : Below → (left : Cursor) (v : Apdu) (rest : Cursor) → IsBytes left.bytes
    → ill_request.read left ≡ Ok (v, rest) → Takes ill_request IsRequest left.bytes v rest.bytes
request_takes below left v rest fits e =
    let found = bind_ok (apdu.read left) (λ found. cond (is_ill_request found.0.body) (Ok found) (Err (Bad left.at))) (v, rest)
    e in
    let is = passed (is_ill_request found.value.0.body) (Ok found.value) (Bad left.at) (v, rest) found.follows in
    let both : found.value ≡ (v, rest) = ok_is found.value (v, rest) is.1 in
    let taken = (apdu_is below).takes left v rest fits (found.given ∙ ap Ok both) in
    (taken.0, (taken.1, ap (λ (x : Apdu × Cursor). is_ill_request x.0.body) (sym both) ∙ is.0))

-- An ILL-Request in range is read from its encoding.
request_again : Below → (v : Apdu) (at : ℕ) (more : List ℕ) → IsRequest v → ReadsAgain ill_request v at more
request_again below v at more p =
    let read = (apdu_is below).again v at more p.0 in
    (read.0, rw (read.1, p.1) refl)

-- The field of an ILL-Request obeys the laws.
pub ill_request_is : Below → IsField IsRequest ill_request
ill_request_is below = record { takes = request_takes below; again = request_again below }

-- ---- a field after a mark

-- If a field obeys the laws, the field of an optional value obeys them.
pub marked_is : {V : Type 0} (P : V → Type 0) (f : Field V) → IsField P f → IsField (λ o. IfSome o P) (marked f)
marked_is P f fs =
    field_of (λ o. IfSome o P) (marked f) (where_codec Any P Any mark f (codec_of Any mark mark_is) (codec_of P f fs) (λ b. tt))

-- ---- a list of values, alone and after its length

-- If `n` values are read, the bytes read are their encodings, each value satisfies `P`, and there are `n`. The value
-- `first` is read, and then the `others`.
all_takes : {V : Type 0} (P : V → Type 0) (f : Field V) → IsField P f
    → (n : ℕ) (left : Cursor) (vs : List V) (rest : Cursor) → IsBytes left.bytes → read_all f n left ≡ Ok (vs, rest)
    → (left.bytes ≡ encode_all f.encode vs ++ rest.bytes) × Each P vs × (length vs ≡ n)
unfolding read_all encode_all Each
all_takes {V} P f fs zero left vs rest fits e =
    let both : ([], left) ≡ (vs, rest) = ok_is ([], left) (vs, rest) e in
    subst (λ (x : List V × Cursor). (left.bytes ≡ encode_all f.encode x.0 ++ x.1.bytes) × Each P x.0 × (length x.0 ≡ zero)) both
    (refl, tt, refl)
all_takes {V} P f fs (suc n) left vs rest fits e =
    let first = bind_ok (f.read left) (λ first. read_all f n first.1 >>= λ others. Ok (first.0 ∷ others.0, others.1)) (vs, rest)
    e in
    let others = bind_ok (read_all f n first.value.1) (λ others. Ok (first.value.0 ∷ others.0, others.1)) (vs, rest)
    first.follows in
    let both : (first.value.0 ∷ others.value.0, others.value.1) ≡ (vs, rest) =
    ok_is (first.value.0 ∷ others.value.0, others.value.1) (vs, rest) others.follows in
    let one = fs.takes left first.value.0 first.value.1 fits first.given in
    let more = all_takes P f fs n first.value.1 others.value.0 others.value.1
    (rest_fits P f fs left first.value.0 first.value.1 fits first.given)
    others.given in
    let parts : left.bytes ≡ (f.encode first.value.0 ++ encode_all f.encode others.value.0) ++ others.value.1.bytes =
    one.0 ∙ ap (λ (x : List ℕ). f.encode first.value.0 ++ x) more.0
    ∙ sym (append_assoc (f.encode first.value.0) (encode_all f.encode others.value.0) others.value.1.bytes) in
    subst (λ (x : List V × Cursor). (left.bytes ≡ encode_all f.encode x.0 ++ x.1.bytes) × Each P x.0 × (length x.0 ≡ suc n)) both
    (parts, (one.1, more.1), ap suc more.2)

-- If each value satisfies `P`, the list is read from the encodings of its values.
all_again : {V : Type 0} (P : V → Type 0) (f : Field V) → IsField P f → (vs : List V) (at : ℕ) (more : List ℕ) → Each P vs
    → (after : ℕ) × (read_all f (length vs) (cursor_at at (encode_all f.encode vs ++ more)) ≡ Ok (vs, cursor_at after more))
unfolding read_all encode_all Each
all_again P f fs [] at more p = (at, refl)
all_again P f fs (v ∷ vs) at more p =
    let first = fs.again v at (encode_all f.encode vs ++ more) p.0 in
    let others = all_again P f fs vs first.0 more p.1 in
    (others.0, rw (append_assoc (f.encode v) (encode_all f.encode vs) more, first.1, others.1) refl)

-- Each value satisfies `P`, and their number satisfies `Q`.
abbrev pub CountedBy : {V : Type 0} → (ℕ → Type 0) → (V → Type 0) → List V → Type 0
CountedBy Q P vs = Each P vs × Q (length vs)

-- If a list is read after its length, the bytes read are its encoding. `n` is the length that was read. `first` says
-- that its encoding was read, and `others` that the encodings of the values were.
counted_takes : {V : Type 0} (Q : ℕ → Type 0) (P : V → Type 0) (size : Field ℕ) (f : Field V) → IsField Q size
    → IsField P f → (left : Cursor) (vs : List V) (rest : Cursor) → IsBytes left.bytes
    → (counted_by size f).read left ≡ Ok (vs, rest) → Takes (counted_by size f) (CountedBy Q P) left.bytes vs rest.bytes
counted_takes Q P size f sizes fs left vs rest fits e =
    let n = bind_ok (size.read left) (λ n. read_all f n.0 n.1) (vs, rest) e in
    let first = sizes.takes left n.value.0 n.value.1 fits n.given in
    let others = all_takes P f fs n.value.0 n.value.1 vs rest (rest_fits Q size sizes left n.value.0 n.value.1 fits n.given)
    n.follows in
    let parts : left.bytes ≡ (size.encode (length vs) ++ encode_all f.encode vs) ++ rest.bytes =
    first.0 ∙ ap (λ (x : List ℕ). size.encode n.value.0 ++ x) others.0
    ∙ ap (λ (m : ℕ). size.encode m ++ (encode_all f.encode vs ++ rest.bytes)) (sym others.2)
    ∙ sym (append_assoc (size.encode (length vs)) (encode_all f.encode vs) rest.bytes) in
    (parts, (others.1, subst Q (sym others.2) first.1))

-- A list is read from its length and the encodings of its values.
counted_again : {V : Type 0} (Q : ℕ → Type 0) (P : V → Type 0) (size : Field ℕ) (f : Field V) → IsField Q size
    → IsField P f → (vs : List V) (at : ℕ) (more : List ℕ) → CountedBy Q P vs
    → ReadsAgain (counted_by size f) vs at more
counted_again Q P size f sizes fs vs at more p =
    let n = sizes.again (length vs) at (encode_all f.encode vs ++ more) p.1 in
    let others = all_again P f fs vs n.0 more p.0 in
    (others.0, rw (append_assoc (size.encode (length vs)) (encode_all f.encode vs) more, n.1, others.1) refl)

-- If the fields of the length and of a value obey the laws, the field of the list obeys them.
pub counted_by_is : {V : Type 0} (Q : ℕ → Type 0) (P : V → Type 0) (size : Field ℕ) (f : Field V) → IsField Q size
    → IsField P f → IsField (CountedBy Q P) (counted_by size f)
counted_by_is Q P size f sizes fs =
    record { takes = counted_takes Q P size f sizes fs; again = counted_again Q P size f sizes fs }

-- Each value satisfies `P`, and there are fewer than 256 values.
abbrev pub Counted : {V : Type 0} → (V → Type 0) → List V → Type 0
Counted P = CountedBy (λ n. n < 256) P

-- If a field obeys the laws, the field of a list of fewer than 256 values obeys them.
pub counted_is : {V : Type 0} (P : V → Type 0) (f : Field V) → IsField P f → IsField (Counted P) (counted f)
counted_is P f fs = counted_by_is (λ n. n < 256) P count f count_is fs
