-- Two lists of bytes of one length differ in no bit exactly if they are equal.
use Rattle.std.proofs.Common.{◌≡◌, ◌==◌, ℕ, inl, inr, true, List, [], ◌∷◌, length, refl}
use Rattle.std.proofs.Common.{sym, ap, ap₂, ◌∙◌, arith}
use Rattle.std.specs.Prelude.{bit_or, bit_xor}
use Rattle.std.specs.Str.{bytes_eq}
use Rattle.std.specs.Int.Bits.{or_zero_r, xor_zero_l, xor_zero_r, xor_self}
use Rattle.std.proofs.lemmas.Bool.{cases_Bool, eqb-true, eq-eqb, false_from_ne_true}
use Rattle.std.proofs.lemmas.Nat.{le_or_l, le_or_r}
use Rattle.std.proofs.lemmas.Slice.Eq.{bytes_eq-Decides}
use Rattle.ill_seal.specs.Letter.{difference}
use lib.Bits.{xor_assoc}

-- If the bitwise or of two numbers is 0, both are 0.
or_is_zero : (a b : ℕ) → bit_or a b ≡ 0 → (a ≡ 0) × (b ≡ 0)
or_is_zero a b e =
    let left = le_or_l a b in
    let right = le_or_r a b in
    (omega (arith, left, e), omega (arith, right, e))

-- Numbers that differ in no bit are equal.
xor_is_zero : (a b : ℕ) → bit_xor a b ≡ 0 → a ≡ b
xor_is_zero a b e =
    sym (xor_zero_r a) ∙ ap (λ (x : ℕ). bit_xor a x) (sym (xor_self b)) ∙ sym (xor_assoc a b b)
    ∙ ap (λ (x : ℕ). bit_xor x b) e ∙ xor_zero_l b

-- Let two lists of one length have the `difference` 0, together with the bits `so_far`. Then `so_far` is 0, and the
-- lists are equal.
none_differs : (so_far : ℕ) (xs ys : List ℕ) → length xs ≡ length ys → difference so_far xs ys ≡ 0 → (so_far ≡ 0) × (xs ≡ ys)
unfolding difference
none_differs so_far [] [] size e = (e, refl)
none_differs so_far (x ∷ xs) (y ∷ ys) size e =
    let rest = none_differs (bit_or so_far (bit_xor x y)) xs ys (omega (arith, size)) e in
    let both = or_is_zero so_far (bit_xor x y) rest.0 in
    (both.0, ap₂ ◌∷◌ (xor_is_zero x y both.1) rest.1)
none_differs so_far [] (y ∷ ys) size e = absurd (omega (arith, size))
none_differs so_far (x ∷ xs) [] size e = absurd (omega (arith, size))

-- A list differs from itself in no bit, so only the bits `so_far` are left.
itself_differs : (so_far : ℕ) (xs : List ℕ) → difference so_far xs xs ≡ so_far
unfolding difference
itself_differs so_far [] = refl
itself_differs so_far (x ∷ xs) =
    ap (λ (bits : ℕ). difference bits xs xs) (ap (λ (bits : ℕ). bit_or so_far bits) (xor_self x) ∙ or_zero_r so_far)
    ∙ itself_differs so_far xs

-- If two lists have one length, the test for no difference gives what the test for equal bytes gives.
-- By `here` equal lists pass the first test.
pub differs_is_eq : (xs ys : List ℕ) → length xs ≡ length ys → (difference 0 xs ys == 0) ≡ bytes_eq xs ys
differs_is_eq xs ys size =
    elim (cases_Bool (difference 0 xs ys == 0)) [
      | inl none ↦
          let same = none_differs 0 xs ys size (eqb-true (difference 0 xs ys) 0 none) in
          none ∙ sym ((bytes_eq-Decides xs ys).1 same.1)
      | inr some ↦
          some ∙ sym (false_from_ne_true (bytes_eq xs ys) (λ equal.
          let same = (bytes_eq-Decides xs ys).0 equal in
          let zero_bits : difference 0 xs ys ≡ 0 = sym (ap (λ (zs : List ℕ). difference 0 xs zs) same) ∙ itself_differs 0 xs in
          let here : (difference 0 xs ys == 0) ≡ true = eq-eqb (difference 0 xs ys) 0 zero_bits in
          absurd cc))
    ]
