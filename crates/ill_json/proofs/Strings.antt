-- Proves that a quoted text is read as this text.
use Rattle.std.proofs.Common.{◌≡◌, ℕ, zero, suc, ◌+◌, ◌-◌, ◌/◌, ◌%◌, ◌<◌, ◌≤◌, Bool, true, false, cond}
use Rattle.std.proofs.Common.{nat_lt, nat_le, if◌then◌else◌, List, [], ◌∷◌, ◌++◌, Option, Some, None, option_and_then, inl, inr}
use Rattle.std.proofs.Common.{◌⊎◌, refl, sym, ap, ap₂, ◌∙◌, subst, arith, append_assoc, IsUtf8}
use Rattle.std.proofs.lemmas.Bool.{cases_eq, cases_lt, cases_Bool, ne_eqb, le-ltb, lt-ltb, le-leb, lt-leb, and_parts}
use Rattle.std.proofs.lemmas.Str.{digit_value-digit_char, encode_ascii, IsUtf8-encode}
use Rattle.std.specs.List.{list_all}
use Rattle.std.specs.Char.{encode_utf8, digit_char, digit_value, is_digit}
use Rattle.std.specs.Fmt.{digits}
use lib.Utf8.{scalar, scalars, encode, encodes, scalar_cases}
use Rattle.json.specs.Text.{content, plain, prepend, code_unit, short_escape, after_high}
use Rattle.json.specs.Text.{is_high_surrogate, is_low_surrogate, surrogate_pair}
use Rattle.json.specs.Lex.{Lexeme, Mode, lex, lex_byte, in_string, operator, space, other}
use Rattle.json.specs.Word.{is_operator, is_space}
use Rattle.ill_text.specs.Escape.{needs_backslash, is_control}
use Rattle.ill_text.specs.Escape.{hex, unit_escape, escape, byte_text, written, is_within}
use Rattle.ill_values.specs.Text.{is_no_control}
use Rattle.ill_json.proofs.Shown.{IsShown, shown-nil, shown-append, shown-cons, one_shown, printable_shown, no_control}
use Rattle.ill_text.specs.Escape.{is_acting_pair, is_acting_triple, is_acting_quad, number_of_two, number_of_three}
use Rattle.ill_text.specs.Escape.{number_of_four}
use Rattle.ill_text.proofs.EscapeLemmas.{last_stays, first_of_two_stays, first_of_three_stays, first_stays, two_escape}
use Rattle.ill_text.proofs.EscapeLemmas.{three_escape, four_escape}

-- Inside a string the reader takes the bytes `text` for the bytes `meant`, before any text.
pub record StandsFor (text meant : List ℕ) : Type 0 where
  pub content : (rest : List ℕ) → content plain (text ++ rest) ≡ prepend meant (content plain rest)
  pub passed : (rest : List ℕ) → lex in_string (text ++ rest) ≡ lex in_string rest

-- If no bytes are put before a text that may be missing, it stays as it is.
prepend-nil : (found : Option (List ℕ)) → prepend [] found ≡ found
prepend-nil None = refl
prepend-nil (Some s) = refl

-- If `ys` and then `xs` are put before a text that may be missing, `xs ++ ys` are before it.
prepend-append : (xs ys : List ℕ) (found : Option (List ℕ)) → prepend xs (prepend ys found) ≡ prepend (xs ++ ys) found
prepend-append xs ys None = refl
prepend-append xs ys (Some s) = ap Some (sym (append_assoc xs ys s))

-- No bytes stand for no bytes.
pub stands-nil : StandsFor [] []
stands-nil = record { content = λ rest. sym (prepend-nil (content plain rest)); passed = λ rest. refl }

-- If `text` stands for `meant`, and `more` for `also`, their join stands for the join of these.
pub stands-append : (text meant more also : List ℕ) → StandsFor text meant → StandsFor more also
    → StandsFor (text ++ more) (meant ++ also)
stands-append text meant more also first second = record {
  content = λ rest. ap (content plain) (append_assoc text more rest) ∙ first.content (more ++ rest)
      ∙ ap (prepend meant) (second.content rest) ∙ prepend-append meant also (content plain rest);
  passed = λ rest. ap (lex in_string) (append_assoc text more rest) ∙ first.passed (more ++ rest) ∙ second.passed rest;
}

-- ---- single bytes

-- Inside a string the lexer passes over a byte of any class but a quotation mark and a backslash.
stays_inside : (o s : Bool) (x : ℕ) (r : List ℕ) (k : Mode → List Lexeme)
    → lex_byte in_string (cond o operator (cond s space other)) x r k ≡ k in_string
stays_inside true s x r k = refl
stays_inside false true x r k = refl
stays_inside false false x r k = refl

-- A byte other than a control, a quotation mark and a backslash stands for itself.
pub plain_byte : (x : ℕ) → (x ≡ 34 → ⊥) → (x ≡ 92 → ⊥) → 32 ≤ x → StandsFor (x ∷ []) (x ∷ [])
unfolding content lex
plain_byte x q b l = record {
  content = λ r. rw (ne_eqb x 34 q, ne_eqb x 92 b, le-ltb x 32 l) refl;
  passed = λ r. rw (ne_eqb x 34 q, ne_eqb x 92 b) (stays_inside (is_operator x) (is_space x) x r (λ m. lex m r));
}

-- A backslash and a quotation mark stand for a quotation mark.
pub quote_byte : StandsFor (92 ∷ 34 ∷ []) (34 ∷ [])
unfolding content lex short_escape
quote_byte = record { content = λ r. refl; passed = λ r. refl }

-- Two backslashes stand for one.
pub backslash_byte : StandsFor (92 ∷ 92 ∷ []) (92 ∷ [])
unfolding content lex short_escape
backslash_byte = record { content = λ r. refl; passed = λ r. refl }

-- ---- escapes

-- `P` is true of each number below `n`.
abbrev Below : (ℕ → Type 0) → ℕ → Type 0
Below P zero = Unit {0}
Below P (suc n) = P n × Below P n

-- If `P` is true of each number below `n`, and `x` is below `n`, `P` is true of `x`.
below_each : (P : ℕ → Type 0) (n : ℕ) → Below P n → (x : ℕ) → x < n → P x
below_each P zero h x lt = absurd (omega arith)
below_each P (suc n) h x lt = go (below_each P n h.1 x) (cases_eq x n)
  where
    -- The number `x` is `n`, or it is below `n`.
    go : (x < n → P x) → (x ≡ n) ⊎ (x ≡ n → ⊥) → P x
    go below (inl e) = subst P (sym e) h.0
    go below (inr ne) = below (omega arith)

-- Each of the 16 hexadecimal digits is one character.
one_digit : Below (λ d. hex d ≡ digit_char d ∷ []) 16
unfolding digits
one_digit = (
  refl,
  (
    refl,
    (
      refl,
      (
        refl,
        (
          refl,
          (refl, (refl, (refl, (refl, (refl, (refl, (refl, (refl, (refl, (refl, (refl, tt))))))))))),
        ),
      ),
    ),
  ),
)

-- A number below 16 is one hexadecimal digit.
hex_digit : (d : ℕ) → d < 16 → hex d ≡ digit_char d ∷ []
hex_digit d small = below_each (λ d. hex d ≡ digit_char d ∷ []) 16 one_digit d small

-- Returns the four hexadecimal digits of a unit of UTF-16.
abbrev four_digits : ℕ → List ℕ
four_digits u =
    digit_char (u / 4096 % 16) ∷ digit_char (u / 256 % 16) ∷ digit_char (u / 16 % 16) ∷ digit_char (u % 16) ∷ []

-- The escape of a unit of UTF-16 is a backslash, a `u` and its four digits.
unit_digits : (u : ℕ) → unit_escape u ≡ 92 ∷ 117 ∷ four_digits u
unit_digits u =
    let a : u / 4096 % 16 < 16 = omega arith in
    let b : u / 256 % 16 < 16 = omega arith in
    let c : u / 16 % 16 < 16 = omega arith in
    let d : u % 16 < 16 = omega arith in
    rw (hex_digit _ a, hex_digit _ b, hex_digit _ c, hex_digit _ d) refl

-- The value of a digit below 16 is this digit.
digit_is : (d : ℕ) → d < 16 → digit_value (digit_char d) ≡ d
digit_is d small = digit_value-digit_char d (omega arith)

-- A digit below 16 is a hexadecimal digit of JSON.
is_hex_digit : (d : ℕ) → d < 16 → is_digit (digit_char d) 16 ≡ true
is_hex_digit d small = ap (λ v. nat_lt v 16) (digit_is d small) ∙ lt-ltb d 16 small

-- The reader takes the four digits of a unit for this unit.
unit_read : (u : ℕ) → u < 65536
    → code_unit (digit_char (u / 4096 % 16)) (digit_char (u / 256 % 16)) (digit_char (u / 16 % 16)) (digit_char (u % 16)) ≡ Some u
unfolding code_unit
unit_read u small =
    let a : u / 4096 % 16 < 16 = omega arith in
    let b : u / 256 % 16 < 16 = omega arith in
    let c : u / 16 % 16 < 16 = omega arith in
    let d : u % 16 < 16 = omega arith in
    rw (
      is_hex_digit _ a,
      is_hex_digit _ b,
      is_hex_digit _ c,
      is_hex_digit _ d,
      digit_is _ a,
      digit_is _ b,
      digit_is _ c,
      digit_is _ d,
    )
    (ap Some (omega arith))

-- Inside a string the lexer passes over a digit.
digit_passed : (d : ℕ) (rest : List ℕ) → d < 16 → lex in_string (digit_char d ∷ rest) ≡ lex in_string rest
digit_passed d rest small = (plain_byte (digit_char d) (not_above d small).0 (not_above d small).1 (not_above d small).2).passed
    rest
  where
    -- The character of a digit is one of 0 to 9, or a letter.
    split : (d : ℕ) → (d < 10) ⊎ (10 ≤ d) → d < 16 → (digit_char d ≡ 34 → ⊥) × (digit_char d ≡ 92 → ⊥) × (32 ≤ digit_char d)
    split d (inl low) small = rw (lt-ltb d 10 low) (λ e. omega arith, λ e. omega arith, omega arith)
    split d (inr high) small = rw (le-ltb d 10 high) (λ e. omega arith, λ e. omega arith, omega arith)

    -- The character of a digit is no quotation mark, no backslash and no control.
    not_above : (d : ℕ) → d < 16 → (digit_char d ≡ 34 → ⊥) × (digit_char d ≡ 92 → ⊥) × (32 ≤ digit_char d)
    not_above d small = split d (cases_lt d 10) small

-- Inside a string the lexer passes over an escape.
unit_passed : (u : ℕ) (rest : List ℕ) → lex in_string (unit_escape u ++ rest) ≡ lex in_string rest
unfolding lex
unit_passed u rest =
    ap (λ l. lex in_string (l ++ rest)) (unit_digits u)
    ∙ digit_passed (u / 4096 % 16) _ (omega arith) ∙ digit_passed (u / 256 % 16) _ (omega arith)
    ∙ digit_passed (u / 16 % 16) _ (omega arith) ∙ digit_passed (u % 16) _ (omega arith)

-- A number below the range of surrogates or above it is no surrogate.
no_surrogate : (u : ℕ) → (u < 55296) ⊎ (57344 ≤ u) → (is_high_surrogate u ≡ false) × (is_low_surrogate u ≡ false)
no_surrogate u (inl low) = (rw (lt-leb 0xd800 u low) refl, rw (lt-leb 0xdc00 u (omega arith)) refl)
no_surrogate u (inr high) = (
  rw (le-leb 0xd800 u (omega arith), le-ltb u 0xdc00 (omega arith)) refl,
  rw (le-leb 0xdc00 u (omega arith), le-ltb u 0xe000 high) refl,
)

-- The escape of a character up to U+FFFF stands for this character.
pub unit_stands : (u : ℕ) → u < 65536 → (u < 55296) ⊎ (57344 ≤ u) → StandsFor (unit_escape u) (encode_utf8 u)
unfolding content
unit_stands u small apart = record {
  content = λ r. ap (λ l. content plain (l ++ r)) (unit_digits u)
      ∙ ap (option_and_then (λ u. cond (is_high_surrogate u) (content (after_high u) r)
      (cond (is_low_surrogate u) None (prepend (encode_utf8 u) (content plain r))))) (unit_read u small)
      ∙ rw (no_surrogate u apart).0 (rw (no_surrogate u apart).1 refl);
  passed = unit_passed u;
}

-- Two escapes of a pair of surrogates stand for the character of the pair.
pub pair_stands : (high low : ℕ) → 0xd800 ≤ high → high < 0xdc00 → 0xdc00 ≤ low → low < 0xe000
    → StandsFor (unit_escape high ++ unit_escape low) (encode_utf8 (surrogate_pair high low))
unfolding content
pair_stands high low from to from_low to_low = record {
  content = λ r. ap (content plain) (append_assoc (unit_escape high) (unit_escape low) r)
      ∙ ap₂ (λ l m. content plain (l ++ (m ++ r))) (unit_digits high) (unit_digits low)
      ∙ ap (option_and_then (λ u. cond (is_high_surrogate u) (content (after_high u) (92 ∷ 117 ∷ (four_digits low ++ r)))
      (cond (is_low_surrogate u) None (prepend (encode_utf8 u) (content plain (92 ∷ 117 ∷ (four_digits low ++ r)))))))
      (unit_read high (omega arith))
      ∙ ap (λ b. cond b (content (after_high high) (92 ∷ 117 ∷ (four_digits low ++ r)))
      (cond (is_low_surrogate high) None (prepend (encode_utf8 high) (content plain (92 ∷ 117 ∷ (four_digits low ++ r))))))
      (is_high high from to)
      ∙ ap (option_and_then (λ l. cond (is_low_surrogate l) (prepend (encode_utf8 (surrogate_pair high l)) (content plain r))
      None)) (unit_read low (omega arith))
      ∙ ap (λ b. cond b (prepend (encode_utf8 (surrogate_pair high low)) (content plain r)) None) (is_low low from_low to_low);
  passed = λ r. ap (lex in_string) (append_assoc (unit_escape high) (unit_escape low) r) ∙ unit_passed high _ ∙ unit_passed low r;
}
  where
    -- A number in this range is the first half of a pair of surrogates.
    is_high : (u : ℕ) → 0xd800 ≤ u → u < 0xdc00 → is_high_surrogate u ≡ true
    is_high u from to = rw (le-leb 0xd800 u from) (lt-ltb u 0xdc00 to)

    -- A number in this range is the second half of a pair of surrogates.
    is_low : (u : ℕ) → 0xdc00 ≤ u → u < 0xe000 → is_low_surrogate u ≡ true
    is_low u from to = rw (le-leb 0xdc00 u from) (lt-ltb u 0xe000 to)

-- ---- the ways to write a text

-- Returns the type of the first argument of a function.
abbrev Argument : {A B : Type 0} → (A → B) → Type 0
Argument {A} {B} function = A

-- The ways to write a text: for a screen, and in JSON.
abbrev pub Escaping : Type 0
Escaping = Argument written

-- Returns the escape of a character in JSON.
abbrev pub escape_in_json : ℕ → List ℕ
escape_in_json number =
    if nat_lt number 0x10000 then unit_escape number
    else unit_escape (0xD800 + (number - 0x10000) / 1024) ++ unit_escape (0xDC00 + (number - 0x10000) % 1024)

-- Returns the text in JSON of a byte that begins no acting character.
abbrev pub byte_in_json : ℕ → List ℕ
byte_in_json byte =
    if needs_backslash byte then 0x5C ∷ byte ∷ [] else (if is_control byte then escape_in_json byte else byte ∷ [])

-- This way to write a text is that of JSON.
pub record IsInJson (escaping : Escaping) : Type 0 where
  pub character : (number : ℕ) → escape escaping number ≡ escape_in_json number
  pub byte : (byte : ℕ) → byte_text escaping byte ≡ byte_in_json byte

-- ---- characters

-- The text is shown, and stands for the bytes `meant`.
pub record IsWritten (text meant : List ℕ) : Type 0 where
  pub stands : StandsFor text meant
  pub shown : IsShown text

-- If `text` is written for `meant`, and `more` for `also`, their join is written for the join of these.
written-append : (text meant more also : List ℕ) → IsWritten text meant → IsWritten more also
    → IsWritten (text ++ more) (meant ++ also)
written-append text meant more also first second = record {
  stands = stands-append text meant more also first.stands second.stands;
  shown = shown-append text more first.shown second.shown;
}

-- A hexadecimal digit is a printing character.
digit_printable : (d : ℕ) → d < 16 → (32 ≤ digit_char d) × (digit_char d < 127)
digit_printable d small = split (cases_lt d 10)
  where
    -- The character of a digit is one of 0 to 9, or a letter.
    split : (d < 10) ⊎ (10 ≤ d) → (32 ≤ digit_char d) × (digit_char d < 127)
    split (inl low) = rw (lt-ltb d 10 low) (omega arith, omega arith)
    split (inr high) = rw (le-ltb d 10 high) (omega arith, omega arith)

-- The escape of a unit is shown.
unit_shown : (u : ℕ) → IsShown (unit_escape u)
unit_shown u =
    let a = digit_printable (u / 4096 % 16) (omega arith) in
    let b = digit_printable (u / 256 % 16) (omega arith) in
    let c = digit_printable (u / 16 % 16) (omega arith) in
    let d = digit_printable (u % 16) (omega arith) in
    subst IsShown (sym (unit_digits u))
    (shown-cons 92 _ (omega arith) (omega arith) (shown-cons 117 _ (omega arith) (omega arith)
    (shown-cons _ _ a.0 a.1 (shown-cons _ _ b.0 b.1 (shown-cons _ _ c.0 c.1 (one_shown _ d.0 d.1))))))

-- The escape of a character up to U+FFFF is written for this character.
unit_written : (u : ℕ) → u < 65536 → (u < 55296) ⊎ (57344 ≤ u) → IsWritten (unit_escape u) (encode_utf8 u)
unit_written u small apart = record { stands = unit_stands u small apart; shown = unit_shown u }

-- A scalar value is below the surrogates, or above them.
scalar_apart : (c : ℕ) → scalar c ≡ true → (c < 55296) ⊎ (57344 ≤ c)
scalar_apart c s = elim (scalar_cases c s) [ inl low ↦ inl low | inr high ↦ inr high.0 ]

-- The escape of a character is written for this character.
escape_in_json_written : (c : ℕ) → scalar c ≡ true → IsWritten (escape_in_json c) (encode_utf8 c)
escape_in_json_written c s = elim (cases_lt c 0x10000) [
  | inl small ↦ rw (lt-ltb c 0x10000 small) (unit_written c small (scalar_apart c s))
  | inr large ↦
      let most : c < 1114112 = elim (scalar_cases c s) [ inl low ↦ omega arith | inr high ↦ high.1 ] in
      let high = 0xD800 + (c - 0x10000) / 1024 in
      let low = 0xDC00 + (c - 0x10000) % 1024 in
      let same : surrogate_pair high low ≡ c = omega arith in
      rw (le-ltb c 0x10000 large) (record {
        stands = subst (λ m. StandsFor (unit_escape high ++ unit_escape low) (encode_utf8 m)) same
            (pair_stands high low (omega arith) (omega arith) (omega arith) (omega arith));
        shown = shown-append (unit_escape high) (unit_escape low) (unit_shown high) (unit_shown low);
      })
]

-- A byte of ASCII is written as a text that stands for it.
ascii_in_json_written : (x : ℕ) → x < 128 → IsWritten (byte_in_json x) (x ∷ [])
ascii_in_json_written x small = go (cases_eq x 34) (cases_eq x 92) (cases_lt x 32) (cases_eq x 127)
  where
    -- The byte is a quotation mark, a backslash, a control below 32, the control 127, or any other byte.
    go : (x ≡ 34) ⊎ (x ≡ 34 → ⊥) → (x ≡ 92) ⊎ (x ≡ 92 → ⊥) → (x < 32) ⊎ (32 ≤ x) → (x ≡ 127) ⊎ (x ≡ 127 → ⊥)
        → IsWritten (byte_in_json x) (x ∷ [])
    go (inl e) b c d = rw e (record { stands = quote_byte; shown = printable_shown _ refl })
    go (inr q) (inl e) c d = rw e (record { stands = backslash_byte; shown = printable_shown _ refl })
    go (inr q) (inr b) (inl low) d =
        let e : byte_in_json x ≡ unit_escape x =
        rw (ne_eqb x 34 q, ne_eqb x 92 b, lt-ltb x 32 low, lt-ltb x 0x10000 (omega arith)) refl in
        subst (λ t. IsWritten t (x ∷ [])) (sym e)
        (subst (λ m. IsWritten (unit_escape x) m) (encode_ascii x small) (unit_written x (omega arith) (inl (omega arith))))
    go (inr q) (inr b) (inr high) (inl e) =
        rw e (subst (λ m. IsWritten (unit_escape 127) m) (encode_ascii 127 (omega arith))
        (unit_written 127 (omega arith) (inl (omega arith))))
    go (inr q) (inr b) (inr high) (inr d) =
        let e : byte_in_json x ≡ x ∷ [] = rw (ne_eqb x 34 q, ne_eqb x 92 b, le-ltb x 32 high, ne_eqb x 127 d) refl in
        subst (λ t. IsWritten t (x ∷ [])) (sym e)
        (record { stands = plain_byte x q b high; shown = one_shown x high (omega arith) })

-- A byte above ASCII is written as it is.
high_in_json : (x : ℕ) → 128 ≤ x → byte_in_json x ≡ x ∷ []
high_in_json x high =
    rw (
      ne_eqb x 34 (λ e. omega arith),
      ne_eqb x 92 (λ e. omega arith),
      le-ltb x 32 (omega arith),
      ne_eqb x 127 (λ e. omega arith),
    ) refl

-- A byte above ASCII stands for itself.
high_stands : (x : ℕ) → 128 ≤ x → StandsFor (x ∷ []) (x ∷ [])
high_stands x high = plain_byte x (λ e. omega arith) (λ e. omega arith) (omega arith)

module _ (escaping : Escaping) (in_json : IsInJson escaping) where
  -- ---- the text of a character

  -- No acting character begins with `first` and the bytes `after` it.
  abbrev NoneActs : ℕ → List ℕ → Type 0
  NoneActs first [] = Unit {0}
  NoneActs first (second ∷ []) = is_acting_pair first second ≡ false
  NoneActs first (second ∷ third ∷ []) =
      (is_acting_pair first second ≡ false) × (is_acting_triple first second third ≡ false)
  NoneActs first (second ∷ third ∷ fourth ∷ rest) =
      (is_acting_pair first second ≡ false) × (is_acting_triple first second third ≡ false)
      × (is_acting_quad first second third fourth ≡ false)

  -- A byte that begins no acting character is written by itself.
  stays : (first : ℕ) (after : List ℕ) → NoneActs first after
      → written escaping (first ∷ after) ≡ byte_text escaping first ++ written escaping after
  stays first [] h = last_stays escaping first [] refl
  stays first (second ∷ []) h = first_of_two_stays escaping first second _ [] refl refl h
  stays first (second ∷ third ∷ []) h = first_of_three_stays escaping first second third _ _ [] refl refl refl h.0 h.1
  stays first (second ∷ third ∷ fourth ∷ rest) h = first_stays escaping first second third fourth rest h.0 h.1 h.2

  -- A byte that begins no character of two bytes begins no acting one.
  pair_needs : (first second : ℕ) → is_within 0xC0 0xDF first ≡ false → is_acting_pair first second ≡ false
  pair_needs first second h = rw h refl

  -- A byte that begins no character of three bytes begins no acting one.
  triple_needs : (first second third : ℕ) → is_within 0xE0 0xEF first ≡ false → is_acting_triple first second third ≡ false
  triple_needs first second third h = rw h refl

  -- A byte that begins no character of four bytes begins no acting one.
  quad_needs : (first second third fourth : ℕ) → is_within 0xF0 0xF7 first ≡ false
      → is_acting_quad first second third fourth ≡ false
  quad_needs first second third fourth h = rw h refl

  -- A number below a range is not within it.
  below_range : (from to n : ℕ) → n < from → is_within from to n ≡ false
  below_range from to n low = rw (lt-leb from n low) refl

  -- A number above a range is not within it.
  above_range : (from to n : ℕ) → to < n → is_within from to n ≡ false
  above_range from to n high = elim (cases_Bool (nat_le from n)) [
    | inl is ↦ rw (is, lt-leb n to high) refl
    | inr not ↦ rw not refl
  ]

  -- A byte that begins no character of two bytes or more is written by itself.
  low_stays : (first : ℕ) (after : List ℕ) → first < 0xC0
      → written escaping (first ∷ after) ≡ byte_text escaping first ++ written escaping after
  low_stays first after low = stays first after (none after)
    where
      -- The byte begins no character of two bytes.
      two : is_within 0xC0 0xDF first ≡ false
      two = below_range 0xC0 0xDF first low

      -- The byte begins no character of three bytes.
      three : is_within 0xE0 0xEF first ≡ false
      three = below_range 0xE0 0xEF first (omega arith)

      -- The byte begins no character of four bytes.
      four : is_within 0xF0 0xF7 first ≡ false
      four = below_range 0xF0 0xF7 first (omega arith)

      -- So no acting character begins with the byte.
      none : (after : List ℕ) → NoneActs first after
      none [] = tt
      none (second ∷ []) = pair_needs first second two
      none (second ∷ third ∷ []) = (pair_needs first second two, triple_needs first second third three)
      none (second ∷ third ∷ fourth ∷ rest) =
          (pair_needs first second two, triple_needs first second third three, quad_needs first second third fourth four)

  -- ---- characters of two bytes and more

  -- The escape of a character is written for this character.
  escape_written : (c : ℕ) → scalar c ≡ true → IsWritten (escape escaping c) (encode_utf8 c)
  escape_written c s = subst (λ t. IsWritten t (encode_utf8 c)) (sym (in_json.character c)) (escape_in_json_written c s)

  -- A byte of ASCII is written as a text that stands for it.
  ascii_written : (x : ℕ) → x < 128 → IsWritten (byte_text escaping x) (x ∷ [])
  ascii_written x small = subst (λ t. IsWritten t (x ∷ [])) (sym (in_json.byte x)) (ascii_in_json_written x small)

  -- A byte above ASCII is written as it is.
  high_text : (x : ℕ) → 128 ≤ x → byte_text escaping x ≡ x ∷ []
  high_text x high = in_json.byte x ∙ high_in_json x high

  -- A byte above ASCII that is not the first of a character is written as it is.
  next_text : (x : ℕ) (rest : List ℕ) → 128 ≤ x → x ≤ 0xBF → written escaping (x ∷ rest) ≡ x ∷ written escaping rest
  next_text x rest low high = low_stays x rest (omega arith) ∙ ap (λ t. t ++ written escaping rest) (high_text x low)

  -- The text `whole`, which begins with a character, is written as a text for this character, and then as `rest` is.
  record Splits (meant whole rest : List ℕ) : Type 0 where
    text : List ℕ
    splits : written escaping whole ≡ text ++ written escaping rest
    written : IsWritten text meant

  -- A character that is escaped is written as its escape.
  split_escape : (c : ℕ) (meant whole rest : List ℕ) → scalar c ≡ true → encode c ≡ meant
      → written escaping whole ≡ escape escaping c ++ written escaping rest → Splits meant whole rest
  split_escape c meant whole rest s encoded writes = record {
    text = escape escaping c;
    splits = writes;
    written = subst (λ m. IsWritten (escape escaping c) m) encoded (escape_written c s);
  }

  -- A character that is not escaped is written as it is. Each byte of it stands for itself.
  split_bytes : (c : ℕ) (meant whole rest : List ℕ) → scalar c ≡ true → encode c ≡ meant → StandsFor meant meant
      → list_all is_no_control meant ≡ true → written escaping whole ≡ meant ++ written escaping rest → Splits meant whole rest
  split_bytes c meant whole rest s encoded stands seen writes = record {
    text = meant;
    splits = writes;
    written = record { stands = stands; shown = record { utf8 = subst IsUtf8 encoded (IsUtf8-encode c s); seen = seen } };
  }

  -- If a first byte of two and the next one are no acting character, no acting character begins with them.
  two_none : (a b : ℕ) (rest : List ℕ) → a ≤ 0xDF → is_acting_pair a b ≡ false → NoneActs a (b ∷ rest)
  two_none a b [] to none = none
  two_none a b (third ∷ []) to none = (none, triple_needs a b third (below_range 0xE0 0xEF a (omega arith)))
  two_none a b (third ∷ fourth ∷ rest) to none = (
    none,
    triple_needs a b third (below_range 0xE0 0xEF a (omega arith)),
    quad_needs a b third fourth (below_range 0xF0 0xF7 a (omega arith)),
  )

  -- If a first byte of three and the next two are no acting character, no acting character begins with them.
  three_none : (a b third : ℕ) (rest : List ℕ) → 0xE0 ≤ a → a ≤ 0xEF → is_acting_triple a b third ≡ false
      → NoneActs a (b ∷ third ∷ rest)
  three_none a b third [] from to none = (pair_needs a b (above_range 0xC0 0xDF a (omega arith)), none)
  three_none a b third (fourth ∷ rest) from to none = (
    pair_needs a b (above_range 0xC0 0xDF a (omega arith)),
    none,
    quad_needs a b third fourth (below_range 0xF0 0xF7 a (omega arith)),
  )

  -- A byte above ASCII is no control character.
  high_seen : (x : ℕ) → 128 ≤ x → is_no_control x ≡ true
  high_seen x high = no_control x (omega arith) (λ e. omega arith)

  -- A character of two bytes is written as a text that stands for it.
  two_bytes : (c a b : ℕ) (rest : List ℕ) → scalar c ≡ true → encode c ≡ a ∷ b ∷ [] → 0xC0 ≤ a → a ≤ 0xDF
      → 0x80 ≤ b → b ≤ 0xBF → number_of_two a b ≡ c → Splits (a ∷ b ∷ []) (a ∷ b ∷ rest) rest
  two_bytes c a b rest s encoded from to low high is = go (cases_Bool (is_acting_pair a b))
    where
      -- The character acts and is escaped, or it is written as it is.
      go : (is_acting_pair a b ≡ true) ⊎ (is_acting_pair a b ≡ false) → Splits (a ∷ b ∷ []) (a ∷ b ∷ rest) rest
      go (inl acts) =
          split_escape c _ _ rest s encoded
          (two_escape escaping a b rest acts ∙ ap (λ n. escape escaping n ++ written escaping rest) is)
      go (inr none) =
          split_bytes c _ _ rest s encoded
          (stands-append (a ∷ []) _ (b ∷ []) _ (high_stands a (omega arith)) (high_stands b low))
          (rw (high_seen a (omega arith), high_seen b low) refl)
          (stays a (b ∷ rest) (two_none a b rest to none)
          ∙ ap₂ (λ l m. l ++ m) (high_text a (omega arith)) (next_text b rest low high))

  -- A character of three bytes is written as a text that stands for it.
  three_bytes : (c a b d : ℕ) (rest : List ℕ) → scalar c ≡ true → encode c ≡ a ∷ b ∷ d ∷ [] → 0xE0 ≤ a → a ≤ 0xEF
      → 0x80 ≤ b → b ≤ 0xBF → 0x80 ≤ d → d ≤ 0xBF → number_of_three a b d ≡ c
      → Splits (a ∷ b ∷ d ∷ []) (a ∷ b ∷ d ∷ rest) rest
  three_bytes c a b d rest s encoded from to b_low b_high d_low d_high is = go (cases_Bool (is_acting_triple a b d))
    where
      -- The character acts and is escaped, or it is written as it is.
      go : (is_acting_triple a b d ≡ true) ⊎ (is_acting_triple a b d ≡ false)
          → Splits (a ∷ b ∷ d ∷ []) (a ∷ b ∷ d ∷ rest) rest
      go (inl acts) =
          split_escape c _ _ rest s encoded
          (three_escape escaping a b d rest (pair_needs a b (above_range 0xC0 0xDF a (omega arith))) acts
          ∙ ap (λ n. escape escaping n ++ written escaping rest) is)
      go (inr none) =
          split_bytes c _ _ rest s encoded
          (stands-append (a ∷ []) _ (b ∷ d ∷ []) _ (high_stands a (omega arith))
          (stands-append (b ∷ []) _ (d ∷ []) _ (high_stands b b_low) (high_stands d d_low)))
          (rw (high_seen a (omega arith), high_seen b b_low, high_seen d d_low) refl)
          (stays a (b ∷ d ∷ rest) (three_none a b d rest from to none)
          ∙ ap₂ (λ l m. l ++ m) (high_text a (omega arith))
          (next_text b (d ∷ rest) b_low b_high ∙ ap (λ l. b ∷ l) (next_text d rest d_low d_high)))

  -- A character of four bytes is written as a text that stands for it.
  four_bytes : (c a b d e : ℕ) (rest : List ℕ) → scalar c ≡ true → encode c ≡ a ∷ b ∷ d ∷ e ∷ [] → 0xF0 ≤ a → a ≤ 0xF7
      → 0x80 ≤ b → b ≤ 0xBF → 0x80 ≤ d → d ≤ 0xBF → 0x80 ≤ e → e ≤ 0xBF → number_of_four a b d e ≡ c
      → Splits (a ∷ b ∷ d ∷ e ∷ []) (a ∷ b ∷ d ∷ e ∷ rest) rest
  four_bytes c a b d e rest s encoded from to b_low b_high d_low d_high e_low e_high is =
      go (cases_Bool (is_acting_quad a b d e))
    where
      -- A first byte of four begins no acting character of two bytes.
      pair : is_acting_pair a b ≡ false
      pair = pair_needs a b (above_range 0xC0 0xDF a (omega arith))

      -- A first byte of four begins no acting character of three bytes.
      triple : is_acting_triple a b d ≡ false
      triple = triple_needs a b d (above_range 0xE0 0xEF a (omega arith))

      -- The character acts and is escaped, or it is written as it is.
      go : (is_acting_quad a b d e ≡ true) ⊎ (is_acting_quad a b d e ≡ false)
          → Splits (a ∷ b ∷ d ∷ e ∷ []) (a ∷ b ∷ d ∷ e ∷ rest) rest
      go (inl acts) =
          split_escape c _ _ rest s encoded
          (four_escape escaping a b d e rest pair triple acts ∙ ap (λ n. escape escaping n ++ written escaping rest) is)
      go (inr none) =
          split_bytes c _ _ rest s encoded
          (stands-append (a ∷ []) _ (b ∷ d ∷ e ∷ []) _ (high_stands a (omega arith))
          (stands-append (b ∷ []) _ (d ∷ e ∷ []) _ (high_stands b b_low)
          (stands-append (d ∷ []) _ (e ∷ []) _ (high_stands d d_low) (high_stands e e_low))))
          (rw (high_seen a (omega arith), high_seen b b_low, high_seen d d_low, high_seen e e_low) refl)
          (stays a (b ∷ d ∷ e ∷ rest) (pair, triple, none)
          ∙ ap₂ (λ l m. l ++ m) (high_text a (omega arith))
          (next_text b (d ∷ e ∷ rest) b_low b_high ∙ ap (λ l. b ∷ l)
          (next_text d (e ∷ rest) d_low d_high ∙ ap (λ l. d ∷ l) (next_text e rest e_low e_high))))

  -- ---- texts

  -- A text that begins with a character is written as a text for this character, and then as the rest is.
  splits_character : (c : ℕ) (rest : List ℕ) → scalar c ≡ true → Splits (encode c) (encode c ++ rest) rest
  unfolding encode
  splits_character c rest s = go (cases_lt c 128) (cases_lt c 2048) (cases_lt c 65536)
    where
      -- A scalar value is below 0x110000.
      large : c < 1114112
      large = elim (scalar_cases c s) [ inl low ↦ omega arith | inr high ↦ high.1 ]

      -- If the character is encoded as `bytes`, they may stand for its encoding.
      from : (bytes : List ℕ) → encode c ≡ bytes → Splits bytes (bytes ++ rest) rest → Splits (encode c) (encode c ++ rest) rest
      from bytes is h = subst (λ b. Splits b (b ++ rest) rest) (sym is) h

      -- From 128 on the encoding has two bytes.
      two : 128 ≤ c → c < 2048 → encode c ≡ (192 + c / 64) ∷ (128 + c % 64) ∷ []
      two a b = rw (le-ltb c 128 a, lt-ltb c 2048 b) refl

      -- From 2048 on the encoding has three bytes.
      three : 2048 ≤ c → c < 65536 → encode c ≡ (224 + c / 4096) ∷ (128 + c / 64 % 64) ∷ (128 + c % 64) ∷ []
      three a b = rw (le-ltb c 128 (omega arith), le-ltb c 2048 a, lt-ltb c 65536 b) refl

      -- From 65536 on the encoding has four bytes.
      four : 65536 ≤ c
          → encode c ≡ (240 + c / 262144) ∷ (128 + c / 4096 % 64) ∷ (128 + c / 64 % 64) ∷ (128 + c % 64) ∷ []
      four a = rw (le-ltb c 128 (omega arith), le-ltb c 2048 (omega arith), le-ltb c 65536 a) refl

      -- The encoding of the character has one, two, three or four bytes.
      go : (c < 128) ⊎ (128 ≤ c) → (c < 2048) ⊎ (2048 ≤ c) → (c < 65536) ⊎ (65536 ≤ c)
          → Splits (encode c) (encode c ++ rest) rest
      go (inl small) b d =
          from (c ∷ []) (encode_ascii c small)
          (record { text = byte_text escaping c; splits = low_stays c rest (omega arith); written = ascii_written c small })
      go (inr low) (inl high) d =
          from _ (two low high)
          (two_bytes c _ _ rest s (two low high) (omega arith) (omega arith) (omega arith) (omega arith) (omega arith))
      go (inr past) (inr low) (inl high) =
          from _ (three low high)
          (three_bytes c _ _ _ rest s (three low high) (omega arith) (omega arith) (omega arith) (omega arith) (omega arith)
          (omega arith) (omega arith))
      go (inr past) (inr also) (inr low) =
          from _ (four low)
          (four_bytes c _ _ _ _ rest s (four low) (omega arith) (omega (arith, large)) (omega arith) (omega arith) (omega arith)
          (omega arith) (omega arith) (omega arith) (omega arith))

  -- The text of each list of characters is written as a text that stands for it.
  characters_written : (cs : List ℕ) → scalars cs ≡ true → IsWritten (written escaping (encodes cs)) (encodes cs)
  unfolding written
  characters_written [] s = record { stands = stands-nil; shown = shown-nil }
  characters_written (c ∷ cs) s =
      let both = and_parts _ _ s in
      let first = splits_character c (encodes cs) both.0 in
      subst (λ t. IsWritten t (encode c ++ encodes cs)) (sym first.splits)
      (written-append first.text (encode c) _ (encodes cs) first.written (characters_written cs both.1))

  -- A text of UTF-8 is written as a text that stands for it.
  pub text_written : (text : List ℕ) → IsUtf8 text → IsWritten (written escaping text) text
  text_written text u = subst (λ t. IsWritten (written escaping t) t) u.1.1 (characters_written u.0 u.1.0)
