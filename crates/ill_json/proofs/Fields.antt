-- Proves that the fields of the program are read as members. A text *has a value* if it is read as JSON (`HasValue`). A
-- field *is read* if its label is UTF-8, and its text has a value (`FieldReads`).
use Rattle.std.proofs.Common.{◌≡◌, ℕ, suc, ◌/◌, ◌<◌, ◌^◌, Bool, true, List, [], ◌∷◌, Option}
use Rattle.std.proofs.Common.{Some, None, arith, IsUtf8, decimal, IfSome}
use Rattle.ill_values.specs.Day.{Date, iso_text, last_digit}
use Rattle.ill_record.specs.Ranges.{Each}
use Rattle.ill_text.specs.Json.{array, day, flag, optional, quoted}
use Rattle.ill_json.proofs.Shown.{IsShown, shown-cons, shown-nil, are_printable, printable_shown}
use Rattle.ill_json.proofs.Values.{HasValue, FieldReads, string_reads, null_reads, flag_reads, number_reads, array_reads}

-- ---- values

-- If `text` is shown, the last digit of `n` and then `text` are shown.
digit_then : (n : ℕ) (text : List ℕ) → IsShown text → IsShown (last_digit n ∷ text)
digit_then n text shown = shown-cons (last_digit n) text (omega arith) (omega arith) shown

-- The text of a day is UTF-8.
pub day_utf8 : (d : Date) → IsUtf8 (iso_text d)
day_utf8 d =
    let hyphen : (text : List ℕ) → IsShown text → IsShown (0x2D ∷ text) = λ text shown.
    shown-cons 0x2D text (omega arith) (omega arith) shown in
    (digit_then (d.year / 1000) _ (digit_then (d.year / 100) _ (digit_then (d.year / 10) _ (digit_then d.year _
    (hyphen _ (digit_then (d.month / 10) _ (digit_then d.month _
    (hyphen _ (digit_then (d.day / 10) _ (digit_then d.day _ shown-nil)))))))))).utf8

module _ (most : ℕ) where
  -- A quoted text of UTF-8 has a value.
  pub text_value : (text : List ℕ) → IsUtf8 text → HasValue most (quoted text)
  text_value text u = record { value = _; reads = string_reads most text u }

  -- A number of 64 bits has a value.
  pub number_value : (n : ℕ) → n < 2 ^ 64 → HasValue most (decimal n)
  number_value n small = record { value = _; reads = number_reads most n small }

  -- A Bool has a value.
  pub flag_value : (holds : Bool) → HasValue most (flag holds)
  flag_value holds = record { value = _; reads = flag_reads most holds }

  -- The text of a value that may be missing has a value: that of the value found, or null.
  pub optional_value : {A : Type 0} (text : A → List ℕ) (found : Option A) → IfSome found (λ a. HasValue most (text a))
      → HasValue most (optional text found)
  optional_value text None h = record { value = _; reads = null_reads most }
  optional_value text (Some a) h = h

  -- A day has a value.
  pub day_value : (d : Date) → HasValue most (day d)
  day_value d = text_value (iso_text d) (day_utf8 d)

  -- A day that may be missing has a value.
  pub optional_day_value : (found : Option Date) → HasValue most (optional day found)
  optional_day_value None = record { value = _; reads = null_reads most }
  optional_day_value (Some d) = day_value d

-- An array of values has a value.
pub array_value : {A : Type 0} (most : ℕ) (text : A → List ℕ) (values : List A)
    → Each (λ value. HasValue most (text value)) values
    → HasValue (suc most) (array text values)
array_value most text values each = record { value = _; reads = array_reads text most values each }

-- A list of texts of UTF-8 has a value.
pub words_value : (most : ℕ) (words : List (List ℕ)) → Each IsUtf8 words → HasValue (suc most) (array quoted words)
unfolding Each
words_value most words each = array_value most quoted words (values words each)
  where
    -- Each quoted word has a value.
    values : (words : List (List ℕ)) → Each IsUtf8 words → Each (λ word. HasValue most (quoted word)) words
    values [] each = tt
    values (word ∷ words) each = (text_value most word each.0, values words each.1)

-- ---- fields

-- A field with a label of printing characters and a value is read as a member.
pub field_reads : (most : ℕ) (label text : List ℕ) → are_printable label ≡ true → HasValue most text
    → FieldReads most (label, text)
field_reads most label text plain value = record { label = (printable_shown label plain).utf8; value = value }
