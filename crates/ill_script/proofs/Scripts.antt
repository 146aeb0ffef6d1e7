-- Proves lemmas on the reading of a script, line by line, for any meaning of its lines.
use Rattle.std.proofs.Common.{arith, ◌≡◌, ℕ, ◌+◌, ◌<◌, ◌≤◌, Bool, true, false, ◌&&◌, nat_le, if◌then◌else◌, cond, ◌==◌, List, []}
use Rattle.std.proofs.Common.{◌∷◌, ◌++◌, length, Some, refl, sym, ap, ◌∙◌, length-append}
use Rattle.std.specs.List.{onto_first}
use Rattle.std.proofs.lemmas.Bool.{le-leb, lt-leb}
use Rattle.ill_script.specs.declared.script_line.ScriptLine.{ScriptLine}
use Rattle.ill_script.specs.declared.script_line.ScriptLine.TheVariants as lines
use Rattle.ill_script.specs.Replay.{Replay, Said, empty_reading, is_within, line_at, then_says, end_reading, broken_reading}
use Rattle.ill_script.specs.Replay.{says_from}
use Rattle.ill_script.specs.Replay.{lines_in, reading_from}
use Rattle.ill_script.specs.Simulating.{has_lf}
use Rattle.ill_script.proofs.Texts.{line_first, line_alone, some_line, line_begins}

-- Returns a reading without events, in which line n is bad.
abbrev pub only_bad : {E : Type 0} → ℕ → Said E
only_bad n = record { events = []; bad = Some n }

-- ---- within the limits

-- If m is at most n, `nat_le m n` is true.
le_true : (m n : ℕ) → m ≤ n → nat_le m n ≡ true
le_true m n le = le-leb m n le

-- If n is less than m, `nat_le m n` is false.
le_false : (m n : ℕ) → n < m → nat_le m n ≡ false
le_false m n less = lt-leb m n less

-- If a and b are true, so is `a && b`.
both_true : (a b : Bool) → a ≡ true → b ≡ true → (a && b) ≡ true
both_true a b one two = ap (λ (x : Bool). x && b) one ∙ two

-- A line of at most 1,024 bytes up to line 100,000 is within the limits.
pub within : (n : ℕ) (bytes : List ℕ) → n ≤ 100000 → length bytes ≤ 1024 → is_within n bytes ≡ true
within n bytes few short = both_true (nat_le n 100000) (nat_le (length bytes) 1024) (le_true n 100000 few)
    (le_true (length bytes) 1024 short)

-- A line of more than 1,024 bytes is beyond the limits.
too_long : (n : ℕ) (bytes : List ℕ) → 1025 ≤ length bytes → is_within n bytes ≡ false
too_long n bytes long = go (nat_le n 100000) (nat_le (length bytes) 1024) (le_false (length bytes) 1024 (omega (arith, long)))
  where
    -- By cases of the first test: if the second is false, both together are false.
    go : (a b : Bool) → b ≡ false → (a && b) ≡ false
    go true b none = none
    go false b none = refl

-- A line after line 100,000 is beyond the limits.
too_many : (n : ℕ) (bytes : List ℕ) → 100001 ≤ n → is_within n bytes ≡ false
too_many n bytes many = ap (λ (a : Bool). a && nat_le (length bytes) 1024) (le_false n 100000 (omega (arith, many)))

-- If bytes are within the limits, and the reader fails after them, their reading is empty.
pub breaks_nothing : {E C : Type 0} → (c : C) (n : ℕ) (bytes : List ℕ) → is_within n bytes ≡ true
    → ◌≡◌ {A = Said E} (broken_reading c n bytes) empty_reading
breaks_nothing c n [] is = refl
breaks_nothing {E = E} c n (byte ∷ bytes) is = ap (λ (b : Bool). if b then empty_reading {E = E} else only_bad n) is

-- `W` is the type of worlds, `E` the type of events. `C` is the type of the value that is carried from line to line.
module _ {W E C : Type 0} (replay : Replay W E C) where
  -- A line within the limits has the meaning of its bytes.
  pub line_within : (c : C) (n : ℕ) (bytes : List ℕ) → n ≤ 100000 → length bytes ≤ 1024
      → line_at replay c n bytes ≡ replay.says c bytes
  line_within c n bytes few short =
      ap (λ (b : Bool). if b then replay.says c bytes else (lines.Bad, c)) (within n bytes few short)

  -- A line beyond the limits is bad, and leaves the carried value unchanged.
  line_bad : (c : C) (n : ℕ) (bytes : List ℕ) → is_within n bytes ≡ false → line_at replay c n bytes ≡ (lines.Bad, c)
  line_bad c n bytes out = ap (λ (b : Bool). if b then replay.says c bytes else (lines.Bad, c)) out

  -- ---- lines

  -- The reading of two or more lines is the reading of the first, followed by the reading of the others.
  says_first : (end : C → ℕ → List ℕ → Said E) (c : C) (n : ℕ) (first second : List ℕ) (more : List (List ℕ))
      → says_from replay end c n (first ∷ second ∷ more)
      ≡ then_says (line_at replay c n first).0 n (says_from replay end (line_at replay c n first).1 (n + 1) (second ∷ more))
  unfolding says_from
  says_first end c n first second more = refl

  -- `end` reads the last line.
  says_last : (end : C → ℕ → List ℕ → Said E) (c : C) (n : ℕ) (rest : List ℕ)
      → says_from replay end c n (rest ∷ []) ≡ end c n rest
  unfolding says_from
  says_last end c n rest = refl

  -- If an LF closes a line, the reading is its meaning, followed by the reading of the rest.
  pub says_line : (end : C → ℕ → List ℕ → Said E) (c : C) (n : ℕ) (bytes rest : List ℕ) → has_lf bytes ≡ false
      → reading_from replay end c n (bytes ++ 10 ∷ rest)
      ≡ then_says (line_at replay c n bytes).0 n (reading_from replay end (line_at replay c n bytes).1 (n + 1) rest)
  says_line end c n bytes rest none =
      let some = some_line rest in
      let line = line_at replay c n bytes in
      ap (says_from replay end c n) (line_first bytes rest none ∙ ap (λ parts. bytes ∷ parts) some.2)
      ∙ says_first end c n bytes some.0 some.1
      ∙ ap (λ parts. then_says line.0 n (says_from replay end line.1 (n + 1) parts)) (sym some.2)

  -- If no LF closes the bytes, `end` reads them.
  pub says_rest : (end : C → ℕ → List ℕ → Said E) (c : C) (n : ℕ) (bytes : List ℕ) → has_lf bytes ≡ false
      → reading_from replay end c n bytes ≡ end c n bytes
  says_rest end c n bytes none = ap (says_from replay end c n) (line_alone bytes none) ∙ says_last end c n bytes

  -- At the end of a text, bytes that are not empty are a line.
  pub ends_line : (c : C) (n : ℕ) (bytes : List ℕ) → 1 ≤ length bytes
      → end_reading replay c n bytes ≡ then_says (line_at replay c n bytes).0 n empty_reading
  ends_line c n [] some = absurd (omega (arith, some))
  ends_line c n (byte ∷ bytes) some = refl

  -- ---- beyond the limits

  -- At the end of a text, bytes beyond the limits are a bad line.
  bad_ends : (c : C) (n : ℕ) (bytes : List ℕ) → 1 ≤ length bytes → is_within n bytes ≡ false
      → end_reading replay c n bytes ≡ only_bad n
  bad_ends c n bytes some out = ends_line c n bytes some
      ∙ ap (λ (line : ScriptLine E × C). then_says line.0 n empty_reading) (line_bad c n bytes out)

  -- If a first line is beyond the limits, and lines follow, this line is bad, and no event is read.
  bad_first : (c : C) (n : ℕ) (first second : List ℕ) (more : List (List ℕ)) → is_within n first ≡ false
      → says_from replay (end_reading replay) c n (first ∷ second ∷ more) ≡ only_bad n
  bad_first c n first second more out =
      says_first (end_reading replay) c n first second more
      ∙ ap (λ (line : ScriptLine E × C).
      then_says line.0 n (says_from replay (end_reading replay) line.1 (n + 1) (second ∷ more)))
      (line_bad c n first out)

  -- If a first line is beyond the limits, and is not empty, it is bad, and no event is read.
  first_bad : (c : C) (n : ℕ) (first : List ℕ) (more : List (List ℕ)) → is_within n first ≡ false → 1 ≤ length first
      → says_from replay (end_reading replay) c n (first ∷ more) ≡ only_bad n
  first_bad c n first [] out some = says_last (end_reading replay) c n first ∙ bad_ends c n first some out
  first_bad c n first (second ∷ more) out some = bad_first c n first second more out

  -- If bytes without an LF are too long for a line, they are a bad line, whatever follows them.
  pub says_too_long : (c : C) (n : ℕ) (bytes rest : List ℕ) → has_lf bytes ≡ false → 1025 ≤ length bytes
      → reading_from replay (end_reading replay) c n (bytes ++ rest) ≡ only_bad n
  says_too_long c n bytes rest none long =
      let some = some_line rest in
      let longer : 1025 ≤ length (bytes ++ some.0) = omega (arith, long, length-append bytes some.0) in
      ap (says_from replay (end_reading replay) c n) (line_begins bytes rest some.0 some.1 none some.2)
      ∙ first_bad c n (bytes ++ some.0) some.1 (too_long n (bytes ++ some.0) longer) (omega (arith, longer))

  -- Bytes after line 100,000 are a bad line.
  pub says_too_many : (c : C) (n byte : ℕ) (text : List ℕ) → 100001 ≤ n
      → reading_from replay (end_reading replay) c n (byte ∷ text) ≡ only_bad n
  says_too_many c n byte text many = go (byte == 10) (some_line text)
    where
      -- By cases of the first byte: an LF closes an empty line, and another byte begins one.
      go : (is_lf : Bool) → ((first : List ℕ) × (more : List (List ℕ)) × (lines_in text ≡ first ∷ more))
          → says_from replay (end_reading replay) c n (cond is_lf ([] ∷ lines_in text) (onto_first byte (lines_in text)))
          ≡ only_bad n
      go true some = ap (λ parts. says_from replay (end_reading replay) c n ([] ∷ parts)) some.2
          ∙ bad_first c n [] some.0 some.1 (too_many n [] many)
      go false some =
          ap (λ parts. says_from replay (end_reading replay) c n (onto_first byte parts)) some.2
          ∙ first_bad c n (byte ∷ some.0) some.1 (too_many n (byte ∷ some.0) many) (omega arith)
