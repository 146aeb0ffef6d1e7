-- Proves of texts that they are UTF-8 and have no control characters.
use Rattle.std.proofs.Common.{◌≡◌, ℕ, ◌<◌, ◌≤◌, Bool, true, ◌&&◌, nat_lt, nat_le, List, [], ◌∷◌, ◌++◌}
use Rattle.std.proofs.Common.{refl, subst, arith, IsUtf8}
use Rattle.std.proofs.lemmas.Bool.{and_parts, and_from, le-leb, ne_eqb, ltb-true, leb-true}
use Rattle.std.proofs.lemmas.Str.{IsUtf8-append, IsUtf8-nil, IsUtf8-encode, encode_ascii}
use Rattle.std.specs.List.{list_all}
use lib.Utf8.{low_scalar}
use Rattle.ill_values.specs.Text.{is_no_control}

-- The text is UTF-8, and has no control characters of ASCII.
pub record IsShown (text : List ℕ) : Type 0 where
  pub utf8 : IsUtf8 text
  pub seen : list_all is_no_control text ≡ true

-- If `P` is true of each byte of both texts, it is true of each byte of their join.
all-append : (P : ℕ → Bool) (xs ys : List ℕ) → list_all P xs ≡ true → list_all P ys ≡ true → list_all P (xs ++ ys) ≡ true
all-append P [] ys h k = k
all-append P (x ∷ xs) ys h k = let both = and_parts _ _ h in and_from _ _ both.0 (all-append P xs ys both.1 k)

-- The empty text is shown.
pub shown-nil : IsShown []
shown-nil = record { utf8 = IsUtf8-nil; seen = refl }

-- If two texts are shown, their join is shown.
pub shown-append : (xs ys : List ℕ) → IsShown xs → IsShown ys → IsShown (xs ++ ys)
shown-append xs ys h k = record {
  utf8 = IsUtf8-append xs ys h.utf8 k.utf8;
  seen = all-append is_no_control xs ys h.seen k.seen;
}

-- A byte from 32 on other than 127 is no control character.
pub no_control : (x : ℕ) → 32 ≤ x → (x ≡ 127 → ⊥) → is_no_control x ≡ true
no_control x low other = rw (le-leb 32 x low, ne_eqb x 127 other) refl

-- A printing character of ASCII is shown.
pub one_shown : (x : ℕ) → 32 ≤ x → x < 127 → IsShown (x ∷ [])
one_shown x low high = record {
  utf8 = subst IsUtf8 (encode_ascii x (omega arith)) (IsUtf8-encode x (low_scalar x (omega arith)));
  seen = rw (no_control x low (λ e. omega arith)) refl;
}

-- A printing character of ASCII before a shown text is shown.
pub shown-cons : (x : ℕ) (xs : List ℕ) → 32 ≤ x → x < 127 → IsShown xs → IsShown (x ∷ xs)
shown-cons x xs low high h = shown-append (x ∷ []) xs (one_shown x low high) h

-- Returns true if each byte of the text is a printing character of ASCII.
abbrev pub are_printable : List ℕ → Bool
are_printable [] = true
are_printable (x ∷ xs) = nat_le 32 x && (nat_lt x 127 && are_printable xs)

-- A text of printing characters of ASCII is shown.
pub printable_shown : (xs : List ℕ) → are_printable xs ≡ true → IsShown xs
printable_shown [] h = shown-nil
printable_shown (x ∷ xs) h =
    let first = and_parts _ _ h in
    let rest = and_parts _ _ first.1 in
    shown-cons x xs (leb-true 32 x first.0) (ltb-true x 127 rest.0) (printable_shown xs rest.1)
