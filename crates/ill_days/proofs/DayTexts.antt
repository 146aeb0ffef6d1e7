-- Proves that a text which is read as a day is one of its two texts.
use Rattle.std.proofs.Common.{◌≡◌, ℕ, ◌+◌, ◌&&◌, Bool, true, false, eqb, List, [], ◌∷◌, length, Ok, arith}
use Rattle.std.proofs.Common.{inl, inr, refl, sym, ap, subst, ◌∙◌}
use Rattle.std.specs.Prelude.{◌⊎◌, slice_index, if◌then◌else◌, Some, None}
use Rattle.std.proofs.lemmas.Bool.{and_parts, eqb-true}
use Rattle.ill_values.specs.Day.{Date, IsDate, date_text, iso_text, read_date}
use Rattle.ill_values.proofs.Dates.{date_read}
use Rattle.ill_days.specs.Days.{is_dashed, read_day, without_dashes}

-- `text` is one of the two texts of `d`, which is a day of the calendar.
abbrev IsTextOf : Date → List ℕ → Type 0
IsTextOf d text = IsDate d × ((text ≡ date_text d) ⊎ (text ≡ iso_text d))

-- If `text` has `n + 1` elements, it is one element followed by a list of `n`.
first_of : (text : List ℕ) (n : ℕ) → length text ≡ n + 1 → (x : ℕ) × (rest : List ℕ) × (text ≡ x ∷ rest) × (length rest ≡ n)
first_of [] n e = absurd (omega arith)
first_of (x ∷ rest) n e = (x, rest, refl, omega arith)

-- A list of length 0 is empty.
none_left : (text : List ℕ) → length text ≡ 0 → text ≡ []
none_left [] e = refl
none_left (x ∷ rest) e = absurd (omega arith)

-- If `x` and `y` of ten bytes are hyphens, and the others are read as `d`, the ten are a text of `d`.
ten_read : (d : Date) (a b c e x f g y h i : ℕ) → x ≡ 0x2D → y ≡ 0x2D
    → read_date (a ∷ b ∷ c ∷ e ∷ f ∷ g ∷ h ∷ i ∷ []) ≡ Ok d
    → IsTextOf d (a ∷ b ∷ c ∷ e ∷ x ∷ f ∷ g ∷ y ∷ h ∷ i ∷ [])
ten_read d a b c e x f g y h i first second found =
    let read = date_read (a ∷ b ∷ c ∷ e ∷ f ∷ g ∷ h ∷ i ∷ []) d found in
    let digits = read.1 in
    (read.0, inr cc)

-- If the digits of a text with hyphens are read as `d`, it is the text of `d` with hyphens. Its ten bytes are named one
-- after another, for `ten_read`.
dashed_read : (text : List ℕ) (d : Date) → is_dashed text ≡ true
    → read_date (slice_index text 0 ∷ slice_index text 1 ∷ slice_index text 2 ∷ slice_index text 3
    ∷ slice_index text 5 ∷ slice_index text 6 ∷ slice_index text 8 ∷ slice_index text 9 ∷ []) ≡ Ok d
    → IsTextOf d text
dashed_read text d is found =
    let outer = and_parts (eqb (length text) 10 && eqb (slice_index text 4) 0x2D) (eqb (slice_index text 7) 0x2D) is in
    let inner = and_parts (eqb (length text) 10) (eqb (slice_index text 4) 0x2D) outer.0 in
    let a = first_of text 9 (eqb-true (length text) 10 inner.0) in
    let b = first_of a.1 8 a.3 in
    let c = first_of b.1 7 b.3 in
    let e = first_of c.1 6 c.3 in
    let x = first_of e.1 5 e.3 in
    let f = first_of x.1 4 x.3 in
    let g = first_of f.1 3 f.3 in
    let y = first_of g.1 2 g.3 in
    let h = first_of y.1 1 y.3 in
    let i = first_of h.1 0 h.3 in
    let ended = none_left i.1 i.3 in
    let whole : text ≡ a.0 ∷ b.0 ∷ c.0 ∷ e.0 ∷ x.0 ∷ f.0 ∷ g.0 ∷ y.0 ∷ h.0 ∷ i.0 ∷ [] = cc in
    let first = eqb-true (slice_index text 4) 0x2D inner.1 in
    let second = eqb-true (slice_index text 7) 0x2D outer.1 in
    subst (IsTextOf d) (sym whole) (ten_read d a.0 b.0 c.0 e.0 x.0 f.0 g.0 y.0 h.0 i.0
    (sym (ap (λ (text : List ℕ). slice_index text 4) whole) ∙ first)
    (sym (ap (λ (text : List ℕ). slice_index text 7) whole) ∙ second)
    (subst (λ (text : List ℕ). read_date (slice_index text 0 ∷ slice_index text 1 ∷ slice_index text 2 ∷ slice_index text 3
    ∷ slice_index text 5 ∷ slice_index text 6 ∷ slice_index text 8 ∷ slice_index text 9 ∷ []) ≡ Ok d) whole found))

-- If `text` is read as `d`, it is one of the two texts of `d`.
pub text_read : (text : List ℕ) (d : Date) → read_day text ≡ Ok d → IsTextOf d text
text_read text d found = go (is_dashed text) refl found
  where
    -- If `b` is true, `text` has the shape of a day with hyphens, and is the text with hyphens. Else it is the eight
    -- digits.
    go : (b : Bool) → is_dashed text ≡ b
        → read_date (without_dashes text (if b then Some (slice_index text 0 ∷ slice_index text 1 ∷ slice_index text 2
        ∷ slice_index text 3 ∷ slice_index text 5 ∷ slice_index text 6 ∷ slice_index text 8 ∷ slice_index text 9 ∷ [])
        else None)) ≡ Ok d
        → IsTextOf d text
    go true is found = dashed_read text d is found
    go false is found = let read = date_read text d found in (read.0, inl read.1)
