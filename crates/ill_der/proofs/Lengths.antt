-- Length octets: octets that are read as a length are its encoding, and a length is read from its encoding.
use Rattle.std.proofs.Common.{◌≡◌, ℕ, zero, suc, ◌+◌, ◌*◌, ◌/◌, ◌%◌, ◌<◌, ◌≤◌, Bool, true, false, cond, eqb, ltb, List, [], ◌∷◌}
use Rattle.std.proofs.Common.{◌++◌, length, drop, refl, sym, subst, inl, inr, arith}
use Rattle.std.proofs.lemmas.Bool.{cases_lt, lt-ltb, le-ltb, ltb-true, ltb-false, eqb-true}
use Rattle.std.proofs.Math.Dec.{eqb-suc-zero}
use Rattle.std.specs.Prelude.{if◌then◌else◌, nat_lt}
use Rattle.ill_der.specs.declared.length.LengthForm.{LengthForm}
use Rattle.ill_der.specs.declared.length.LengthForm.TheVariants.{Invalid, Definite}
use Rattle.ill_der.specs.Format.{length_octets, length_of, IsFew, one_octet_length, two_octet_length}
use Rattle.ill_der.proofs.Chains.{chosen}
use Rattle.ill_der.specs.Laws.{IsBytes}
use Rattle.ill_der.proofs.Bytes.{IsBytes-rest}

-- ---- the three forms

-- A length `n` below 128 is encoded as one octet, `n`.
pub short_form : (n : ℕ) → n < 128 → length_octets n ≡ n ∷ []
unfolding length_octets
short_form n lt = rw (lt-ltb n 128 lt) refl

-- A length `n` from 128 to 255 is encoded as two octets, 81 and `n`.
pub middle_form : (n : ℕ) → 128 ≤ n → n < 256 → length_octets n ≡ 0x81 ∷ n ∷ []
unfolding length_octets
middle_form n le lt = rw (le-ltb n 128 le, lt-ltb n 256 lt) refl

-- A length `n` from 256 on is encoded as three octets, 82, `n / 256` and `n % 256`.
pub long_form : (n : ℕ) → 256 ≤ n → length_octets n ≡ 0x82 ∷ n / 256 ∷ n % 256 ∷ []
unfolding length_octets
long_form n le = let big : 128 ≤ n = omega arith in rw (le-ltb n 128 big, le-ltb n 256 le) refl

-- ---- an encoding is read as its length

-- If `n` is at least 1, the test for 0 is false.
test_of_positive : (n : ℕ) → 1 ≤ n → eqb n 0 ≡ false
test_of_positive zero h = absurd (omega arith)
test_of_positive (suc n) h = eqb-suc-zero n

-- `length_of` reads each length below 65536 from its octets, whatever follows.
pub length_again : (n : ℕ) (more : List ℕ) → n < 65536
    → length_of (length_octets n ++ more) ≡ Definite n (length (length_octets n))
unfolding length_of
length_again n more small =
    elim (cases_lt n 128) [
      | inl lt ↦ rw (short_form n lt) (rw (lt-ltb n 128 lt) refl)
      | inr le ↦ elim (cases_lt n 256) [
        | inl lt ↦ rw (middle_form n le lt) (rw (le-ltb n 128 le) refl)
        | inr big ↦
            let high : eqb (n / 256) 0 ≡ false = test_of_positive (n / 256) (omega arith) in
            let value : 256 * (n / 256) + n % 256 ≡ n = omega arith in
            rw (long_form n big) (rw (high, value) refl)
      ]
    ]

-- If the test of `n` for 0 is false, `n` is at least 1.
positive_of_test : (n : ℕ) → eqb n 0 ≡ false → 1 ≤ n
positive_of_test zero e = absurd (let both : eqb 0 0 ≡ false = e in cc)
positive_of_test (suc n) e = omega arith

-- ---- octets that are read as a length are its encoding

-- `bytes` begins with the length octets of `n`, of which there are `octets`.
abbrev pub IsEncodedLength : List ℕ → ℕ → ℕ → Type 0
IsEncodedLength bytes n octets = (bytes ≡ length_octets n ++ drop octets bytes) × (length (length_octets n) ≡ octets)

-- If `Definite a b` is `Definite n octets`, `IsEncodedLength` for `a` and `b` gives it for `n` and `octets`.
with_equal_form : (bytes : List ℕ) (a b n octets : ℕ) → Definite a b ≡ Definite n octets → IsEncodedLength bytes a b
    → IsEncodedLength bytes n octets
with_equal_form bytes a b n octets e h =
    let ea : a ≡ n = cc in
    let eb : b ≡ octets = cc in
    subst (λ (x : ℕ). IsEncodedLength bytes x octets) ea (subst (λ (x : ℕ). IsEncodedLength bytes a x) eb h)

-- If `one_octet_length rest` is `Definite n octets`, 81 and `rest` begin with the length octets of `n`.
one_takes : (rest : List ℕ) (n octets : ℕ) → IsBytes rest → one_octet_length rest ≡ Definite n octets
    → IsEncodedLength (0x81 ∷ rest) n octets
one_takes [] n octets fits e = absurd cc
one_takes (m ∷ rest) n octets fits e =
    elim (chosen (ltb m 128) Invalid (Definite m 2) (Definite n octets) e) [
      | inl h ↦ absurd (let no_form : Invalid ≡ Definite n octets = h.1 in cc)
      | inr h ↦ with_equal_form (0x81 ∷ m ∷ rest) m 2 n octets h.1
          (rw (middle_form m (ltb-false m 128 h.0) (fits 0)) (refl, refl))
    ]

-- If `two_octet_length rest` is `Definite n octets`, 82 and `rest` begin with the length octets of `n`.
two_takes : (rest : List ℕ) (n octets : ℕ) → IsBytes rest → two_octet_length rest ≡ Definite n octets
    → IsEncodedLength (0x82 ∷ rest) n octets
two_takes [] n octets fits e = absurd cc
two_takes (high ∷ []) n octets fits e = absurd cc
two_takes (high ∷ low ∷ rest) n octets fits e =
    elim (chosen (eqb high 0) Invalid (Definite (256 * high + low) 3) (Definite n octets) e) [
      | inl h ↦ absurd (let no_form : Invalid ≡ Definite n octets = h.1 in cc)
      | inr h ↦
          let positive : 1 ≤ high = positive_of_test high h.0 in
          let small : low < 256 = fits 1 in
          let quotient : (256 * high + low) / 256 ≡ high = omega arith in
          let remainder : (256 * high + low) % 256 ≡ low = omega arith in
          with_equal_form (0x82 ∷ high ∷ low ∷ rest) (256 * high + low) 3 n octets h.1
          (rw (long_form (256 * high + low) (omega arith), quotient, remainder) (refl, refl))
    ]

-- If `length_of bytes` is `Definite n octets`, `bytes` begins with the length octets of `n`.
-- The first octet is the length itself if it is below 128. After 81 and 82 come one and two octets.
pub length_takes : (bytes : List ℕ) (n octets : ℕ) → IsBytes bytes → length_of bytes ≡ Definite n octets
    → IsEncodedLength bytes n octets
unfolding length_of
length_takes [] n octets fits e = absurd cc
length_takes (first ∷ rest) n octets fits e =
    let others = IsBytes-rest (first ∷ rest) (first ∷ []) rest refl fits in
    elim (chosen (ltb first 128) (Definite first 1)
    (cond (eqb first 0x81) (one_octet_length rest) (cond (eqb first 0x82) (two_octet_length rest) Invalid))
    (Definite n octets) e) [
      | inl h ↦ with_equal_form (first ∷ rest) first 1 n octets h.1 (rw (short_form first (ltb-true first 128 h.0)) (refl, refl))
      | inr h ↦ elim (chosen (eqb first 0x81) (one_octet_length rest) (cond (eqb first 0x82) (two_octet_length rest) Invalid)
          (Definite n octets) h.1) [
            | inl g ↦ subst (λ (x : ℕ). IsEncodedLength (x ∷ rest) n octets) (sym (eqb-true first 0x81 g.0))
                (one_takes rest n octets others g.1)
            | inr g ↦ elim (chosen (eqb first 0x82) (two_octet_length rest) Invalid (Definite n octets) g.1) [
              | inl k ↦ subst (λ (x : ℕ). IsEncodedLength (x ∷ rest) n octets) (sym (eqb-true first 0x82 k.0))
                  (two_takes rest n octets others k.1)
              | inr k ↦ absurd (let no_form : Invalid ≡ Definite n octets = k.1 in cc)
            ]
          ]
    ]

-- ---- numbers of octets

-- Returns the number of octets that the identifier and the length of `n` contents octets take.
abbrev pub overhead : ℕ → ℕ
overhead n = if nat_lt n 128 then 2 else (if nat_lt n 256 then 3 else 4)

-- A length below 256 has at most two length octets.
two_at_most : (n : ℕ) → n < 256 → length (length_octets n) ≤ 2
two_at_most n small =
    elim (cases_lt n 128) [
      | inl lt ↦ rw (short_form n lt) (omega arith)
      | inr le ↦ rw (middle_form n le small) (omega arith)
    ]

-- A length has at most three length octets.
three_at_most : (n : ℕ) → length (length_octets n) ≤ 3
three_at_most n =
    elim (cases_lt n 256) [
      | inl lt ↦ omega (arith, two_at_most n lt)
      | inr le ↦ rw (long_form n le) (omega arith)
    ]

-- If `n` is at most `most`, the identifier and the length of `n` contents octets take at most `overhead most` octets.
pub few_octets : (n most : ℕ) → n ≤ most → 1 + length (length_octets n) ≤ overhead most
few_octets n most le =
    elim (cases_lt most 128) [
      | inl lt ↦ let short : n < 128 = omega arith in rw (lt-ltb most 128 lt, short_form n short) (omega arith)
      | inr from ↦ elim (cases_lt most 256) [
        | inl lt ↦ let small : n < 256 = omega arith in
            rw (le-ltb most 128 from, lt-ltb most 256 lt) (omega (arith, two_at_most n small))
        | inr big ↦ rw (le-ltb most 128 from, le-ltb most 256 big) (omega (arith, three_at_most n))
      ]
    ]

-- If `x` and `y` satisfy `IsFew`, `cond b x y` satisfies it.
few_chosen : (b : Bool) (x y : LengthForm) (bytes : ℕ) → IsFew x bytes → IsFew y bytes → IsFew (cond b x y) bytes
few_chosen true x y bytes hx hy = hx
few_chosen false x y bytes hx hy = hy

-- Let 81 and `rest` begin with a length. If it is definite, it has at most three octets. If it is truncated, 81 and
-- `rest` are at most two octets.
one_few : (rest : List ℕ) → IsFew (one_octet_length rest) (suc (length rest))
one_few [] = omega arith
one_few (n ∷ rest) = few_chosen (nat_lt n 128) Invalid (Definite n 2) (suc (suc (length rest))) tt (omega arith)

-- Let 82 and `rest` begin with a length. If it is definite, it has at most three octets. If it is truncated, 82 and
-- `rest` are at most two octets.
two_few : (rest : List ℕ) → IsFew (two_octet_length rest) (suc (length rest))
two_few [] = omega arith
two_few (high ∷ []) = omega arith
two_few (high ∷ low ∷ rest) =
    few_chosen (eqb high 0) Invalid (Definite (256 * high + low) 3) (suc (suc (suc (length rest)))) tt (omega arith)

-- Let `bytes` begin with a length. If it is definite, it has at most three octets. If it is truncated, `bytes` has at
-- most two.
pub length_few : (bytes : List ℕ) → IsFew (length_of bytes) (length bytes)
unfolding length_of
length_few [] = omega arith
length_few (first ∷ rest) =
    few_chosen (nat_lt first 128) (Definite first 1)
    (cond (eqb first 0x81) (one_octet_length rest) (cond (eqb first 0x82) (two_octet_length rest) Invalid))
    (suc (length rest)) (omega arith)
    (few_chosen (eqb first 0x81) (one_octet_length rest) (cond (eqb first 0x82) (two_octet_length rest) Invalid)
    (suc (length rest)) (one_few rest)
    (few_chosen (eqb first 0x82) (two_octet_length rest) Invalid (suc (length rest)) (two_few rest) tt))
