-- Proves that a text of bytes is a list of lines between its LFs. It also proves how a part of a line is taken from the
-- bytes ahead.
use Rattle.std.proofs.Common.{rules, arith, ◌≡◌, ℕ, suc, ◌+◌, ◌-◌, ◌<◌, ◌≤◌, min, Bool, true, false, ◌||◌, ◌==◌, cond, List, []}
use Rattle.std.proofs.Common.{◌∷◌, ◌++◌, length, take, drop, Option, Some, None, Ok, refl, sym, ap, ◌∙◌, subst, add-one, eqb-true}
use Rattle.std.proofs.Common.{take_all, take-append-drop, drop_of_length-le, length-append, length-take}
use Rattle.std.specs.List.{onto_first, position_from}
use Rattle.ill_script.specs.declared.lines.Found.TheVariants as found
use Rattle.ill_script.specs.Replay.{lines_in}
use Rattle.ill_script.specs.Simulating.{has_lf, lf_place, TakesPart}

-- ---- the first LF

-- `bytes` have their first LF at this index, counted from `from`, or have no LF. `rest` are the bytes after `bytes`.
abbrev FirstLf : List ℕ → List ℕ → ℕ → Option ℕ → Type 0
FirstLf bytes rest from None = has_lf bytes ≡ false
FirstLf bytes rest from (Some at) =
    (k : ℕ) × (at ≡ from + k) × (k < length bytes) × (has_lf (take k bytes) ≡ false)
    × (bytes ++ rest ≡ take k bytes ++ 10 ∷ drop (suc k) (bytes ++ rest))

-- `FirstLf` holds of the index that `position_from` finds.
lf_stands : (bytes rest : List ℕ) (from : ℕ) (place : Option ℕ) → position_from (λ b. b == 10) from bytes ≡ place
    → FirstLf bytes rest from place
lf_stands [] rest from None is = refl
lf_stands [] rest from (Some at) is = search rules
lf_stands (byte ∷ bytes) rest from place is = go (byte == 10) place refl is (lf_stands bytes rest (from + 1))
  where
    -- By cases of the first byte, which is an LF or not, and of the index that is found.
    go : (is_lf : Bool) (place : Option ℕ) → (byte == 10) ≡ is_lf
        → cond is_lf (Some from) (position_from (λ b. b == 10) (from + 1) bytes) ≡ place
        → ((later : Option ℕ) → position_from (λ b. b == 10) (from + 1) bytes ≡ later → FirstLf bytes rest (from + 1) later)
        → FirstLf (byte ∷ bytes) rest from place
    go true None is_lf is after = search rules
    go true (Some at) is_lf is after =
        let here : at ≡ from + 0 = search (arith, rules) in
        (0, here, omega arith, refl, ap (λ b. b ∷ (bytes ++ rest)) (eqb-true byte 10 is_lf))
    go false None no_lf is after = ap (λ (b : Bool). b || has_lf bytes) no_lf ∙ after None is
    go false (Some at) no_lf is after =
        let stands = after (Some at) is in (
          suc stands.0,
          omega (arith, stands.1),
          omega (arith, stands.2),
          ap (λ (b : Bool). b || has_lf (take stands.0 bytes)) no_lf ∙ stands.3,
          ap (λ l. byte ∷ l) stands.4,
        )

-- The index `at` of the first LF is within `bytes`, and no LF is before it. The text `bytes ++ rest` has the bytes
-- before `at`, the LF, and the bytes after it.
first_lf : (bytes rest : List ℕ) (at : ℕ) → lf_place bytes ≡ Some at
    → (at < length bytes) × (has_lf (take at bytes) ≡ false)
    × (bytes ++ rest ≡ take at bytes ++ 10 ∷ drop (at + 1) (bytes ++ rest))
first_lf bytes rest at is =
    let stands = lf_stands bytes rest 0 (Some at) is in
    let k = stands.0 in
    let same : k ≡ at = omega (arith, stands.1) in
    subst (λ (n : ℕ). (n < length bytes) × (has_lf (take n bytes) ≡ false)
    × (bytes ++ rest ≡ take n bytes ++ 10 ∷ drop (n + 1) (bytes ++ rest))) same (
      stands.2,
      stands.3,
      subst (λ (n : ℕ). bytes ++ rest ≡ take k bytes ++ 10 ∷ drop n (bytes ++ rest)) (sym (add-one k))
          stands.4,
    )

-- If `lf_place` finds no index, `bytes` have no LF.
no_lf : (bytes : List ℕ) → lf_place bytes ≡ None → has_lf bytes ≡ false
no_lf bytes is = lf_stands bytes [] 0 None is

-- ---- a part of a line

-- If an LF is within the limit, the bytes before it are appended to the line. `before` and `prefix` are the bytes ahead
-- and the line before the call, `ahead` and `line` those after it. `most` bytes are looked at.
pub takes_line : (before ahead prefix line : List ℕ) (most at : ℕ) → length prefix ≤ 1024 → most ≤ 1025 - length prefix
    → lf_place (take most before) ≡ Some at
    → line ≡ prefix ++ take at (take most before) → ahead ≡ drop (at + 1) before
    → TakesPart before ahead prefix line (Ok (Some found.Line))
takes_line before ahead prefix line most at few within is line_is ahead_is =
    let part = take most before in
    let first = first_lf part (drop most before) at is in
    let whole : part ++ drop most before ≡ before = take-append-drop most before in
    let bytes = take at part in
    let parts = subst (λ l. l ≡ bytes ++ 10 ∷ drop (at + 1) l) whole first.2 in
    let size : length (prefix ++ bytes) ≤ 1024 =
    omega (arith, length-append prefix bytes, length-take at part, length-take most before, first.0, few, within) in
    (bytes, parts ∙ ap (λ l. bytes ++ 10 ∷ l) (sym ahead_is), first.1, line_is, subst (λ l. length l ≤ 1024) (sym line_is) size)

-- If no LF is within the limit, and more bytes are ahead, the line is too long. `before` and `prefix` are the bytes
-- ahead and the line before the call, `ahead` and `line` those after it. `most` bytes are looked at.
pub takes_too_long : (before ahead prefix line : List ℕ) (most : ℕ) → length prefix ≤ 1024
    → most ≡ min (length before) (1024 - length prefix + 1) → 1024 - length prefix < most
    → lf_place (take most before) ≡ None → ahead ≡ drop most before → TakesPart before ahead prefix line (Ok (Some found.TooLong))
takes_too_long before ahead prefix line most few most_is long is ahead_is =
    let bytes = take most before in
    let size : length (prefix ++ bytes) ≡ 1025 =
    omega (arith, length-append prefix bytes, length-take most before, few, most_is, long) in
    (bytes, sym (take-append-drop most before) ∙ ap (λ l. bytes ++ l) (sym ahead_is), no_lf bytes is, size)

-- If the bytes ahead are within the limit, and have no LF, all of them are appended to the line. `before` and `prefix`
-- are the bytes ahead and the line before the call, `ahead` and `line` those after it. `most` bytes are looked at.
pub takes_all : (before ahead prefix line : List ℕ) (most : ℕ) → length prefix ≤ 1024
    → most ≡ min (length before) (1024 - length prefix + 1) → most ≤ 1024 - length prefix
    → lf_place (take most before) ≡ None → line ≡ prefix ++ take most before → ahead ≡ drop most before
    → TakesPart before ahead prefix line (Ok None)
takes_all before ahead prefix line most few most_is short is line_is ahead_is =
    let all : length before ≤ most = omega (arith, most_is, short) in
    let same : take most before ≡ before = take_all most before all in
    let line_all : line ≡ prefix ++ before = line_is ∙ ap (λ l. prefix ++ l) same in
    let size : length (prefix ++ before) ≤ 1024 = omega (arith, length-append prefix before, few, all, short) in (
      ahead_is ∙ drop_of_length-le before all,
      ap has_lf (sym same) ∙ no_lf (take most before) is,
      line_all,
      subst (λ l. length l ≤ 1024) (sym line_all) size,
    )

-- ---- the lines of a text

-- If `a || b` is false, both are false.
neither : (a b : Bool) → (a || b) ≡ false → (a ≡ false) × (b ≡ false)
neither false b none = (refl, none)
neither true b none = search rules

-- If a list has no LF, neither its first byte nor the rest has one.
no_lf_first : (byte : ℕ) (bytes : List ℕ) → has_lf (byte ∷ bytes) ≡ false → ((byte == 10) ≡ false) × (has_lf bytes ≡ false)
no_lf_first byte bytes none = neither (byte == 10) (has_lf bytes) none

-- If bytes without an LF are before an LF, they are the first line. The lines of the rest follow.
pub line_first : (bytes rest : List ℕ) → has_lf bytes ≡ false → lines_in (bytes ++ 10 ∷ rest) ≡ bytes ∷ lines_in rest
line_first [] rest none = refl
line_first (byte ∷ bytes) rest none =
    let first = no_lf_first byte bytes none in
    ap (λ (b : Bool). cond b ([] ∷ lines_in (bytes ++ 10 ∷ rest)) (onto_first byte (lines_in (bytes ++ 10 ∷ rest)))) first.0
    ∙ ap (onto_first byte) (line_first bytes rest first.1)

-- Bytes without an LF are one line.
pub line_alone : (bytes : List ℕ) → has_lf bytes ≡ false → lines_in bytes ≡ bytes ∷ []
line_alone [] none = refl
line_alone (byte ∷ bytes) none =
    let first = no_lf_first byte bytes none in
    ap (λ (b : Bool). cond b ([] ∷ lines_in bytes) (onto_first byte (lines_in bytes))) first.0
    ∙ ap (onto_first byte) (line_alone bytes first.1)

-- A text has at least one line, which may be empty.
pub some_line : (text : List ℕ) → (first : List ℕ) × (more : List (List ℕ)) × (lines_in text ≡ first ∷ more)
some_line [] = ([], [], refl)
some_line (byte ∷ text) = begun byte (byte == 10) (lines_in text) (some_line text)
  where
    -- By cases of the first byte: an LF closes an empty line, and another byte begins the first line.
    begun : (byte : ℕ) (is_lf : Bool) (parts : List (List ℕ))
        → ((first : List ℕ) × (more : List (List ℕ)) × (parts ≡ first ∷ more))
        → (first : List ℕ) × (more : List (List ℕ)) × (cond is_lf ([] ∷ parts) (onto_first byte parts) ≡ first ∷ more)
    begun byte true parts some = ([], parts, refl)
    begun byte false parts some = (byte ∷ some.0, some.1, ap (onto_first byte) some.2)

-- If bytes without an LF are before a text, they begin its first line.
pub line_begins : (bytes rest first : List ℕ) (more : List (List ℕ)) → has_lf bytes ≡ false
    → lines_in rest ≡ first ∷ more → lines_in (bytes ++ rest) ≡ (bytes ++ first) ∷ more
line_begins [] rest first more none e = e
line_begins (byte ∷ bytes) rest first more none e =
    let neither = no_lf_first byte bytes none in
    ap (λ (b : Bool). cond b ([] ∷ lines_in (bytes ++ rest)) (onto_first byte (lines_in (bytes ++ rest)))) neither.0
    ∙ ap (onto_first byte) (line_begins bytes rest first more neither.1 e)
