-- The laws of records of many sides. Bytes that are read as sides are their encoding.
-- Sides are read from their encoding. Sides may be saved if they satisfy `AreSides`.
use Rattle.std.proofs.Common.{◌≡◌, ℕ, ◌-◌, ◌<◌, ◌≤◌, ltb, leb, Bool, true, false, cond, not, List, [], ◌∷◌, ◌++◌, length, take}
use Rattle.std.proofs.Common.{drop, Some, None, Result, Ok, Err, refl, sym, ap, subst, ◌∙◌, append_assoc, append-nil}
use Rattle.std.proofs.Common.{length-append, arith}
use Rattle.std.specs.Prelude.{nat_eq}
use Rattle.std.specs.Int.{w16, byte_at, to_be_bytes, from_be_bytes}
use Rattle.std.specs.List.{starts_with}
use Rattle.std.specs.Result.{result_ok}
use Rattle.std.specs.Str.{bytes_eq}
use Rattle.std.proofs.lemmas.Bool.{eqb-true, leb-true, le-leb, ltb-false, le-ltb}
use Rattle.std.proofs.lemmas.List.{take_at, drop_at, take-append-drop, take-take, nil_from_length}
use Rattle.std.proofs.lemmas.Nat.{be_bytes_2, from_be_bytes-to_be_bytes_2}
use Rattle.std.proofs.lemmas.Option.{same_Some, cond_some}
use Rattle.std.proofs.lemmas.Slice.Eq.{bytes_eq-Decides}
use Rattle.sha2.specs.Sha256.{sha256}
use Rattle.sha2.proofs.Facts256.{length-sha256}
use Rattle.ill_der.specs.Format.{◌>>=◌, Cursor, cursor_at}
use Rattle.ill_der.specs.Laws.{IsBytes}
use Rattle.ill_record.specs.declared.role.Role.{Role}
use Rattle.ill_record.specs.declared.side.Side.{Side}
use Rattle.ill_record.specs.declared.fault.LayoutFault.{LayoutFault}
use Rattle.ill_record.specs.declared.fault.LayoutFault.TheVariants.{Bad}
use Rattle.ill_record.specs.declared.fault.RecordFault.{RecordFault}
use Rattle.ill_record.specs.declared.fault.RecordFault.TheVariants as faults
use Rattle.ill_record.specs.Sides.{SidesOf, most_sides, may_be_held}
use Rattle.ill_record.specs.Layout.{sized, counted_by, encode_all, ended}
use Rattle.ill_record.specs.Records.{role, role_octet, all_of, record_at, record_encoding}
use Rattle.ill_record.specs.RecordsV2.{version_2, two_octets, few_sides, side_count, bad_at, one_record, part, role_and_sides}
use Rattle.ill_record.specs.RecordsV2.{body_of, sides_encoding, body, unsealed, consistent_sides, sides_at, read_alone}
use Rattle.ill_record.specs.RecordsV2.{is_version_1, records_at, AreSides}
use Rattle.ill_record.specs.Ranges.{IsSide}
use Rattle.ill_der.proofs.Chains.{bind_ok, ok_is, passed, test_failed}
use Rattle.ill_record.proofs.Steps.{IsBytes-take, IsBytes-rest}
use Rattle.ill_der.proofs.Formats.{Both}
use Rattle.ill_record.proofs.Fields.{ReadsAgain, Takes, IsField, IsSized, Any, CountedBy, rest_fits, sized_is, followed_is}
use Rattle.ill_record.proofs.Fields.{counted_by_is, role_is}

-- The laws of the record of one side. Bytes that are read as a side are its encoding.
-- A consistent side in range is read from its encoding, which has at most 41,811 bytes.
pub record OneRecord : Type 0 where
  pub encoded : (bytes : List ℕ) (side : Side) → IsBytes bytes → record_at bytes ≡ Ok side → (bytes ≡ record_encoding side)
      × IsSide side
  pub again : (side : Side) → IsSide side → record_at (record_encoding side) ≡ Ok side
  pub short : (side : Side) → IsSide side → length (record_encoding side) ≤ 41811

-- ---- two octets

-- The number that two bytes give is below 65,536.
two_below : (bytes : List ℕ) → length bytes ≡ 2 → IsBytes bytes → from_be_bytes w16 bytes < 65536
two_below [] two fits = omega (arith, two)
two_below (a ∷ []) two fits = omega (arith, two)
two_below (a ∷ b ∷ []) two fits =
    let high : a < 256 = fits 0 in
    let low : b < 256 = fits 1 in
    omega (arith, high, low)
two_below (a ∷ b ∷ c ∷ rest) two fits = omega (arith, two)

-- Two bytes are the encoding of the number that they give.
encodes_two : (bytes : List ℕ) (n : ℕ) → IsBytes bytes → length bytes ≡ 2 → from_be_bytes w16 bytes ≡ n
    → bytes ≡ to_be_bytes w16 n
encodes_two bytes n fits two read = sym (be_bytes_2 bytes n two fits (sym read))

-- The field of a number in two octets obeys the laws for numbers below 65,536.
two_octets_is : IsField (λ n. n < 65536) two_octets
two_octets_is = sized_is (λ n. n < 65536) 2 _ (record {
  takes = λ bytes n fits two e.
      let read = same_Some (from_be_bytes w16 bytes) n e in
      (encodes_two bytes n fits two read, subst (λ m. m < 65536) read (two_below bytes two fits));
  again = λ n small. (ap Some (from_be_bytes-to_be_bytes_2 n small), refl);
})

-- The field of the number of sides obeys the laws for numbers up to 1,000.
side_count_is : IsField (λ n. n ≤ most_sides) side_count
side_count_is = sized_is (λ n. n ≤ most_sides) 2 _ (record {
  takes = λ bytes n fits two e.
      let read = cond_some (leb (from_be_bytes w16 bytes) most_sides) (from_be_bytes w16 bytes) n e in (
        encodes_two bytes n fits two read.1,
        subst (λ m. m ≤ most_sides) read.1 (leb-true (from_be_bytes w16 bytes) most_sides read.0),
      );
  again = λ n few. (
    ap few_sides (from_be_bytes-to_be_bytes_2 n (omega (arith, few)))
        ∙ ap (λ b. cond b (Some n) None) (le-leb n most_sides few),
    refl,
  );
})

-- ---- a record, preceded by its length

-- If `result_ok r` is `Some side`, `r` is `Ok side`.
ok_found : (r : Result Side RecordFault) (side : Side) → result_ok r ≡ Some side → r ≡ Ok side
ok_found (Ok found) side e = ap Ok (same_Some found side e)
ok_found (Err fault) side e = absurd cc

-- The contents of a part of length `n` obey the laws.
record_sized : OneRecord → (n : ℕ) → IsSized (λ side. IsSide side × (length (record_encoding side) ≡ n)) n one_record
record_sized one n = record {
  takes = λ bytes side fits size e.
      let is = one.encoded bytes side fits (ok_found (record_at bytes) side e) in
      (is.0, (is.1, ap length (sym is.0) ∙ size));
  again = λ side p. (ap result_ok (one.again side p.0), p.1);
}

-- If `bad_at` of a result gives a value, the result gives this value.
good_at : {X : Type 0} (at : ℕ) (r : Result X LayoutFault) (x : X) → bad_at at r ≡ Ok x → r ≡ Ok x
good_at at (Ok found) x e = ap Ok (ok_is found x e)
good_at at (Err fault) x e = absurd cc

-- If a part is read, the bytes read are its encoding, and its side is consistent and in range. First `size` is read,
-- and then a record of this length. `first` and `second` say that the bytes read are encodings of these two.
part_takes : OneRecord → (left : Cursor) (side : Side) (rest : Cursor) → IsBytes left.bytes
    → part.read left ≡ Ok (side, rest) → Takes part IsSide left.bytes side rest.bytes
part_takes one left side rest fits e =
    let size = bind_ok (bad_at left.at (two_octets.read left)) (λ size. bad_at size.1.at ((sized size.0 one_record).read size.1))
    (side, rest) e in
    let read = good_at left.at (two_octets.read left) size.value size.given in
    let first = two_octets_is.takes left size.value.0 size.value.1 fits read in
    let after_fits = rest_fits (λ n. n < 65536) two_octets two_octets_is left size.value.0 size.value.1 fits read in
    let second = (sized_is _ size.value.0 one_record (record_sized one size.value.0)).takes size.value.1 side rest after_fits
    (good_at size.value.1.at _ (side, rest) size.follows) in
    let parts : left.bytes ≡ (two_octets.encode (length (record_encoding side)) ++ record_encoding side) ++ rest.bytes =
    first.0 ∙ ap (λ (x : List ℕ). two_octets.encode size.value.0 ++ x) second.0
    ∙ ap (λ (n : ℕ). two_octets.encode n ++ (record_encoding side ++ rest.bytes)) (sym second.1.1)
    ∙ sym (append_assoc (two_octets.encode (length (record_encoding side))) (record_encoding side) rest.bytes) in
    (parts, second.1.0)

-- A consistent side in range is read from its part: the length of its record, and the record.
part_again : OneRecord → (side : Side) (at : ℕ) (more : List ℕ) → IsSide side → ReadsAgain part side at more
part_again one side at more is =
    let n = length (record_encoding side) in
    let size = two_octets_is.again n at (record_encoding side ++ more) (omega (arith, one.short side is)) in
    let text = (sized_is _ n one_record (record_sized one n)).again side size.0 more (is, refl) in
    (text.0, rw (append_assoc (two_octets.encode n) (record_encoding side) more, size.1, text.1) refl)

-- The field of a part obeys the laws.
part_is : OneRecord → IsField IsSide part
part_is one = record { takes = part_takes one; again = part_again one }

-- ---- sides are read from their encoding

-- Each side is consistent and in range, and there are at most 1,000 sides.
abbrev ManySides : List Side → Type 0
ManySides = CountedBy (λ n. n ≤ most_sides) IsSide

-- The field of the role and the sides obeys the laws.
role_and_sides_is : OneRecord → IsField (Both Any ManySides) role_and_sides
role_and_sides_is one = followed_is Any ManySides role (counted_by side_count part) role_is
    (counted_by_is (λ n. n ≤ most_sides) IsSide side_count part side_count_is (part_is one))

-- Returns the encoding of the role and the sides: the octets between the version and the digest.
abbrev octets_of : SidesOf → List ℕ
octets_of held = role_and_sides.encode (held.role, held.sides)

-- Sides that may be saved are read from the octets between version and digest.
sides_again : OneRecord → (held : SidesOf) → AreSides held → sides_at (octets_of held) ≡ Ok held
sides_again one held are =
    let read = (role_and_sides_is one).again (held.role, held.sides) 4 [] (tt, (are.each, are.few)) in
    let whole : role_and_sides.read (cursor_at 4 (octets_of held)) ≡ Ok ((held.role, held.sides), cursor_at read.0 []) =
    ap (λ (octets : List ℕ). role_and_sides.read (cursor_at 4 octets)) (sym (append-nil (octets_of held))) ∙ read.1 in
    ap (λ r. consistent_sides (all_of r)) whole ∙ ap (λ keeps. cond keeps (Ok held) (Err faults.Inconsistent)) are.held

-- If two lists of bytes are equal, `bytes_eq` of them is true.
same_bytes : (a b : List ℕ) → a ≡ b → bytes_eq a b ≡ true
same_bytes a b same = (bytes_eq-Decides a b).1 same

-- A list with seven elements before the rest has at least seven elements.
seven_first : (a b c d e f g : ℕ) (rest : List ℕ) → 7 ≤ length (a ∷ b ∷ c ∷ d ∷ e ∷ f ∷ g ∷ rest)
seven_first a b c d e f g rest = omega arith

-- `unsealed` of the encoding of the sides gives the octets between version and digest. `long` and `sealed` say that the
-- checks of the length and of the digest pass.
unsealed_again : (held : SidesOf) → unsealed (sides_encoding held) ≡ Ok (octets_of held)
unfolding unsealed sides_encoding
unsealed_again held =
    let prefix = body_of held in
    let digest = sha256 prefix in
    let bytes = prefix ++ digest in
    let closed : length digest ≡ 32 = length-sha256 prefix in
    let all = length-append prefix digest in
    let seven : 7 ≤ length prefix =
    seven_first 73 76 76 50 (role_octet held.role) (byte_at 1 (length held.sides)) (byte_at 0 (length held.sides))
    (encode_all part.encode held.sides) in
    let long : ltb (length bytes) 39 ≡ false = le-ltb (length bytes) 39 (omega (arith, closed, all, seven)) in
    let at_digest : length prefix ≡ length bytes - 32 = omega (arith, closed, all) in
    let taken : body bytes ≡ prefix = take_at prefix digest (length bytes - 32) at_digest in
    let dropped : drop (length bytes - 32) bytes ≡ digest = drop_at prefix digest (length bytes - 32) at_digest in
    let sealed : bytes_eq (drop (length bytes - 32) bytes) (sha256 (body bytes)) ≡ true =
    same_bytes _ _ (dropped ∙ ap sha256 (sym taken)) in
    rw (long, sealed) (ap (λ (x : List ℕ). Ok (drop 4 x)) taken)

-- The encoding of sides is not of version 1.
second : (held : SidesOf) → is_version_1 (sides_encoding held) ≡ false
unfolding sides_encoding
second held = refl

-- Sides that may be saved are read from their encoding.
pub read_again : OneRecord → (held : SidesOf) → AreSides held → records_at (sides_encoding held) ≡ Ok held
unfolding records_at
read_again one held are =
    rw (second held, unsealed_again held) (sides_again one held are)

-- ---- bytes that are read as sides are their encoding

-- If the check gives the sides `held`, its test is true, and `held` are the sides `found`.
together_is : (keeps : Bool) (found held : SidesOf) → cond keeps (Ok found) (Err faults.Inconsistent) ≡ Ok held
    → (keeps ≡ true) × (found ≡ held)
together_is true found held e = (refl, ok_is found held e)
together_is false found held e = absurd cc

-- If `consistent_sides` gives sides, they were read and one desk may hold them together.
judged_is : (r : Result (Role × List Side) LayoutFault) (held : SidesOf) → consistent_sides r ≡ Ok held
    → (r ≡ Ok (held.role, held.sides)) × (may_be_held held ≡ true)
judged_is (Ok found) held e =
    let both = together_is (may_be_held (record { role = found.0; sides = found.1 })) (record { role = found.0; sides = found.1 })
    held e in
    (ap (λ (x : SidesOf). Ok (x.role, x.sides)) both.1, ap may_be_held (sym both.1) ∙ both.0)
judged_is (Err fault) held e = absurd cc

-- If the check for the end succeeds, no byte is left.
ends : (left : Cursor) (x : Unit {0}) → ended left ≡ Ok x → left.bytes ≡ []
ends left x e = nil_from_length left.bytes (eqb-true (length left.bytes) 0 (passed _ (Ok tt) (Bad left.at) x e).0)

-- If octets are read as sides, they are their encoding, and the sides may be saved. By `judged` the sides were read
-- and may be held together. `found` is this reading, after which no byte is left (`last`). By `is` the octets are
-- encodings.
sides_take : OneRecord → (octets : List ℕ) (held : SidesOf) → IsBytes octets → sides_at octets ≡ Ok held
    → (octets ≡ octets_of held) × AreSides held
sides_take one octets held fits e =
    let judged = judged_is (all_of (role_and_sides.read (cursor_at 4 octets))) held e in
    let found = bind_ok (role_and_sides.read (cursor_at 4 octets)) (λ found. ended found.1 >>= λ _. Ok found.0)
    (held.role, held.sides) judged.0 in
    let last = bind_ok (ended found.value.1) (λ _. Ok found.value.0) (held.role, held.sides) found.follows in
    let same : found.value.0 ≡ (held.role, held.sides) = ok_is found.value.0 (held.role, held.sides) last.follows in
    let is = (role_and_sides_is one).takes (cursor_at 4 octets) found.value.0 found.value.1 fits found.given in
    let encoded : octets ≡ octets_of held =
    is.0 ∙ ap (λ (x : List ℕ). role_and_sides.encode found.value.0 ++ x) (ends found.value.1 last.value last.given)
    ∙ append-nil (role_and_sides.encode found.value.0) ∙ ap role_and_sides.encode same in
    let parts : Both Any ManySides (held.role, held.sides) = subst (Both Any ManySides) same is.1 in
    (encoded, record { held = judged.1; each = parts.1.0; few = parts.1.1 })

-- The bytes are the version, `octets`, and the digest of both.
abbrev IsSealed : List ℕ → List ℕ → Type 0
IsSealed bytes octets = (bytes ≡ (version_2 ++ octets) ++ sha256 (version_2 ++ octets)) × IsBytes octets

-- If `unsealed` of `bytes` gives `octets`, `bytes` are the version, `octets`, and the digest of both. Three checks
-- passed: `long` is that of the length, `begun` of the version, and `closed` of the digest.
unsealed_is : (bytes octets : List ℕ) → IsBytes bytes → unsealed bytes ≡ Ok octets → IsSealed bytes octets
unfolding unsealed
unsealed_is bytes octets fits e =
    let size = length bytes - 32 in
    let long = test_failed (ltb (length bytes) 39) _ faults.Short octets e in
    let begun = test_failed (not (starts_with nat_eq bytes version_2)) _ (faults.Bad 0) octets long.1 in
    let closed = passed (bytes_eq (drop size bytes) (sha256 (body bytes))) (Ok (drop 4 (body bytes))) faults.Digest octets
    begun.1 in
    let enough : 39 ≤ length bytes = ltb-false (length bytes) 39 long.0 in
    let begins : starts_with nat_eq bytes version_2 ≡ true = not_not (starts_with nat_eq bytes version_2) begun.0 in
    let version : version_2 ≡ take 4 bytes = (bytes_eq-Decides version_2 (take 4 bytes)).0 begins in
    let digest : drop size bytes ≡ sha256 (body bytes) = (bytes_eq-Decides (drop size bytes) (sha256 (body bytes))).0 closed.0 in
    let after : drop 4 (body bytes) ≡ octets = ok_is (drop 4 (body bytes)) octets closed.1 in
    let first : take 4 (body bytes) ≡ version_2 = take-take 4 size bytes (omega (arith, enough)) ∙ sym version in
    let prefix : body bytes ≡ version_2 ++ octets =
    sym (take-append-drop 4 (body bytes)) ∙ ap (λ (x : List ℕ). x ++ drop 4 (body bytes)) first
    ∙ ap (λ (x : List ℕ). version_2 ++ x) after in
    let whole : bytes ≡ body bytes ++ sha256 (body bytes) =
    sym (take-append-drop size bytes) ∙ ap (λ (x : List ℕ). body bytes ++ x) digest in (
      subst (λ (x : List ℕ). bytes ≡ x ++ sha256 x) prefix whole,
      IsBytes-rest (body bytes) version_2 octets prefix (IsBytes-take size bytes fits),
    )
  where
    -- If `not b` is false, `b` is true.
    not_not : (b : Bool) → not b ≡ false → b ≡ true
    not_not true e = refl
    not_not false e = absurd cc

-- If bytes not of version 1 are read as sides, they are their encoding, and the sides may be saved. `octets` are the
-- bytes between the version and the digest. `sealed` says this, and `is` that they are the encoding of the sides.
pub encoded : OneRecord → (bytes : List ℕ) (held : SidesOf) → IsBytes bytes → is_version_1 bytes ≡ false
    → records_at bytes ≡ Ok held → (bytes ≡ sides_encoding held) × AreSides held
unfolding records_at sides_encoding
encoded one bytes held fits another e =
    let many : (unsealed bytes >>= sides_at) ≡ Ok held =
    sym (ap (λ b. cond b (read_alone (record_at bytes)) (unsealed bytes >>= sides_at)) another) ∙ e in
    let octets = bind_ok (unsealed bytes) sides_at held many in
    let sealed = unsealed_is bytes octets.value fits octets.given in
    let is = sides_take one octets.value held sealed.1 octets.follows in
    (sealed.0 ∙ ap (λ (x : List ℕ). (version_2 ++ x) ++ sha256 (version_2 ++ x)) is.0, is.1)

-- If sides that may be saved are read from their encoding, such sides with equal encodings are equal.
pub one_sides : ((held : SidesOf) → AreSides held → records_at (sides_encoding held) ≡ Ok held)
    → (a b : SidesOf) → AreSides a → AreSides b → sides_encoding a ≡ sides_encoding b → a ≡ b
one_sides again a b first second e = ok_is a b (sym (again a first) ∙ ap records_at e ∙ again b second)
