-- Proves that the texts of values are read as these values.
use Rattle.std.proofs.Common.{◌≡◌, ℕ, suc, ◌<◌, ◌≤◌, ◌^◌, Bool, true, false, cond, List, [], ◌∷◌, ◌++◌, Some}
use Rattle.std.proofs.Common.{refl, sym, ap, ap₂, ◌∙◌, subst, arith, append_assoc, append-nil, IsUtf8, decimal}
use Rattle.std.proofs.lemmas.Fmt.{decimal_is_IsNumeral}
use Rattle.std.proofs.lemmas.Str.Parse.{digit_from_value}
use Rattle.std.specs.Str.Parse.{AllDigits}
use Rattle.json.specs.Token as tokens
use Rattle.json.specs.Text.{content}
use Rattle.json.specs.Word.{ends_word, word}
use Rattle.json.specs.Lex.{token, colon, lex, between, string_token}
use Rattle.json.specs.Json.{Json, null, boolean, number, string, array, object, Items, no_items, item, Members, no_members}
use Rattle.json.specs.Json.{member, document}
use Rattle.json.specs.Tree.{depth, items_depth, members_depth}
use Rattle.json.specs.Strict.{keys, AreDistinct, HasUniqueKeys, ItemsHaveUniqueKeys, MembersHaveUniqueKeys}
use Rattle.json.proofs.Printed.Numbers.{lex-number, in_word-ended}
use Rattle.json.proofs.Printed.Decimals.{IsNumber-decimal}
use Rattle.ill_text.specs.Escape.{written}
use Rattle.ill_text.specs.Json as texts
use Rattle.ill_text.specs.Json.{quoted, flag, joined, Field}
use Rattle.ill_record.specs.Ranges.{Each}
use Rattle.ill_json.specs.Objects.{members_of}
use Rattle.ill_json.proofs.Shown.{IsShown, shown-nil, shown-append, shown-cons, one_shown, printable_shown}
use Rattle.ill_json.proofs.Strings.{Escaping, IsInJson, text_written}
use Rattle.ill_json.proofs.Labels.{labels, are_apart, apart_distinct}
use Rattle.ill_json.proofs.Lexemes.{comma_if, value_lexemes, items_lexemes, members_lexemes, document_from_lexemes}

-- `text` is read as the value `value`, which nests no deeper than `most` and has no key twice. The text is shown.
pub record Reads (most : ℕ) (text : List ℕ) (value : Json) : Type 0 where
  pub lexed : (rest : List ℕ) → ends_word rest ≡ true → lex between (text ++ rest) ≡ value_lexemes value ++ lex between rest
  pub shallow : depth value ≤ most
  pub unique : HasUniqueKeys value
  pub shown : IsShown text

-- `text` is read as some value, which nests no deeper than `most`.
pub record HasValue (most : ℕ) (text : List ℕ) : Type 0 where
  pub value : Json
  pub reads : Reads most text value

-- If `text` is read as `value`, and nests no deeper than 128, `document` returns this value.
pub document_of : (most : ℕ) (text : List ℕ) (value : Json) → most ≤ 128 → Reads most text value
    → document text ≡ Some value
unfolding lex
document_of most text value few h =
    document_from_lexemes text value (omega (arith, h.shallow))
    (ap (lex between) (sym (append-nil text)) ∙ h.lexed [] refl)

-- ---- strings

module _ (escaping : Escaping) (in_json : IsInJson escaping) where
  -- The lexer takes a text in JSON between quotation marks for a string.
  lexed_as_string : (s rest : List ℕ) → IsUtf8 s
      → lex between (34 ∷ ((written escaping s ++ 34 ∷ []) ++ rest)) ≡ token (tokens.string s) ∷ lex between rest
  unfolding lex content
  lexed_as_string s rest u =
      let stands = (text_written escaping in_json s u).stands in
      ap (λ t. lex between (34 ∷ t)) (append_assoc (written escaping s) (34 ∷ []) rest)
      ∙ ap₂ (λ o ls. token (string_token o) ∷ ls)
      (stands.content (34 ∷ rest) ∙ ap Some (append-nil s)) (stands.passed (34 ∷ rest))

  -- A text in JSON between quotation marks is shown.
  marks_shown : (s : List ℕ) → IsUtf8 s → IsShown (34 ∷ (written escaping s ++ 34 ∷ []))
  marks_shown s u =
      shown-cons 34 _ (omega arith) (omega arith)
      (shown-append (written escaping s) (34 ∷ []) (text_written escaping in_json s u).shown
      (one_shown 34 (omega arith) (omega arith)))

-- The lexer takes a quoted text for a string.
string_lexed : (s rest : List ℕ) → IsUtf8 s → lex between (quoted s ++ rest) ≡ token (tokens.string s) ∷ lex between rest
string_lexed s rest u = lexed_as_string _ (record { character = λ number. refl; byte = λ byte. refl }) s rest u

-- A quoted text is shown.
quoted_shown : (s : List ℕ) → IsUtf8 s → IsShown (quoted s)
quoted_shown s u = marks_shown _ (record { character = λ number. refl; byte = λ byte. refl }) s u

-- A quoted text is read as a string with this text.
pub string_reads : (most : ℕ) (s : List ℕ) → IsUtf8 s → Reads most (quoted s) (string s)
string_reads most s u = record {
  lexed = λ rest ended. string_lexed s rest u;
  shallow = omega arith;
  unique = tt;
  shown = quoted_shown s u;
}

-- ---- words and numbers

-- The text `null` is read as null.
pub null_reads : (most : ℕ) → Reads most texts.null null
unfolding lex word
null_reads most = record {
  lexed = λ rest ended. ap₂ (λ b l. token (cond b tokens.null tokens.bad) ∷ l) ended (in_word-ended rest ended);
  shallow = omega arith;
  unique = tt;
  shown = printable_shown _ refl;
}

-- The texts `true` and `false` are read as the values true and false.
pub flag_reads : (most : ℕ) (b : Bool) → Reads most (flag b) (boolean b)
unfolding lex word
flag_reads most true = record {
  lexed = λ rest ended. ap₂ (λ b l. token (cond b (tokens.boolean true) tokens.bad) ∷ l) ended (in_word-ended rest ended);
  shallow = omega arith;
  unique = tt;
  shown = printable_shown _ refl;
}
flag_reads most false = record {
  lexed = λ rest ended. ap₂ (λ b l. token (cond b (tokens.boolean false) tokens.bad) ∷ l) ended (in_word-ended rest ended);
  shallow = omega arith;
  unique = tt;
  shown = printable_shown _ refl;
}

-- Digits are shown.
digits_shown : (ds : List ℕ) → AllDigits 10 ds → IsShown ds
digits_shown [] h = shown-nil
digits_shown (d ∷ ds) h =
    let range = digit_from_value d h.0 in
    shown-cons d ds (omega (arith, range)) (omega (arith, range)) (digits_shown ds h.1)

-- The digits of a number that fits 64 bits are read as this number.
pub number_reads : (most n : ℕ) → n < 2 ^ 64 → Reads most (decimal n) (number (decimal n))
number_reads most n small = record {
  lexed = λ rest ended. lex-number (decimal n) rest (IsNumber-decimal n small) ended;
  shallow = omega arith;
  unique = tt;
  shown = digits_shown (decimal n) (decimal_is_IsNumeral n small).0.1;
}

-- ---- arrays

-- Returns the bytes of a comma if `later` is true, and else none.
abbrev comma_text : Bool → List ℕ
comma_text later = cond later (44 ∷ []) []

-- The lexer takes the text of a comma for the lexeme of a comma, and no text for no lexeme.
comma_lexed : (later : Bool) (rest : List ℕ) → lex between (comma_text later ++ rest) ≡ comma_if later ++ lex between rest
unfolding lex
comma_lexed true rest = refl
comma_lexed false rest = refl

-- A comma is shown.
comma_shown : (later : Bool) → IsShown (comma_text later)
comma_shown true = one_shown 44 (omega arith) (omega arith)
comma_shown false = shown-nil

-- Four lists in a row are grouped by their first three.
regroup : {A : Type 0} (a b c d : List A) → a ++ (b ++ (c ++ d)) ≡ (a ++ (b ++ c)) ++ d
regroup a b c d = simp append_assoc

-- Four lists that are grouped from the left are the lists in a row.
in_row : {A : Type 0} (a b c d : List A) → ((a ++ b) ++ c) ++ d ≡ a ++ (b ++ (c ++ d))
in_row a b c d = simp append_assoc

module _ {A : Type 0} (text : A → List ℕ) (most : ℕ) where
  -- Returns the items that the texts of `values` are read as.
  abbrev pub items_read : (values : List A) → Each (λ value. HasValue most (text value)) values → Items
  unfolding Each
  items_read [] each = no_items
  items_read (v ∷ values) each = item each.0.value (items_read values each.1)

  -- What follows a value in an array, a comma or a bracket, ends a word.
  items_end : (values : List A) (rest : List ℕ) → ends_word (joined text (44 ∷ []) values ++ 93 ∷ rest) ≡ true
  unfolding joined
  items_end [] rest = refl
  items_end (v ∷ values) rest = refl

  -- The lexer takes texts between commas for items.
  items_lexed : (later : Bool) (values : List A) (each : Each (λ value. HasValue most (text value)) values) (rest : List ℕ)
      → lex between (joined text (comma_text later) values ++ 93 ∷ rest)
      ≡ items_lexemes later (items_read values each) ++ lex between rest
  unfolding Each joined lex
  items_lexed later [] each rest = refl
  items_lexed later (v ∷ values) each rest =
      let more = joined text (44 ∷ []) values in
      let others = items_lexemes true (items_read values each.1) in
      ap (lex between) (in_row (comma_text later) (text v) more (93 ∷ rest))
      ∙ comma_lexed later (text v ++ (more ++ 93 ∷ rest))
      ∙ ap (λ l. comma_if later ++ l) (each.0.reads.lexed (more ++ 93 ∷ rest) (items_end values rest)
      ∙ ap (λ l. value_lexemes each.0.value ++ l) (items_lexed true values each.1 rest))
      ∙ regroup (comma_if later) (value_lexemes each.0.value) others (lex between rest)

  -- Items nest no deeper than `most`, since no value of their texts does.
  items_shallow : (values : List A) (each : Each (λ value. HasValue most (text value)) values)
      → items_depth (items_read values each) ≤ most
  unfolding Each
  items_shallow [] each = omega arith
  items_shallow (v ∷ values) each = omega (arith, each.0.reads.shallow, items_shallow values each.1)

  -- No item has a key twice, since no value of the texts has.
  items_unique : (values : List A) (each : Each (λ value. HasValue most (text value)) values)
      → ItemsHaveUniqueKeys (items_read values each)
  unfolding Each
  items_unique [] each = tt
  items_unique (v ∷ values) each = (each.0.reads.unique, items_unique values each.1)

  -- Texts between commas are shown.
  items_shown : (later : Bool) (values : List A) → Each (λ value. HasValue most (text value)) values
      → IsShown (joined text (comma_text later) values)
  unfolding Each joined
  items_shown later [] each = shown-nil
  items_shown later (v ∷ values) each =
      shown-append (comma_text later ++ text v) (joined text (44 ∷ []) values)
      (shown-append (comma_text later) (text v) (comma_shown later) each.0.reads.shown) (items_shown true values each.1)

  -- An array of texts of values is read as an array of these values.
  pub array_reads : (values : List A) (each : Each (λ value. HasValue most (text value)) values)
      → Reads (suc most) (texts.array text values) (array (items_read values each))
  unfolding lex
  array_reads values each = record {
    lexed = λ rest ended. ap (λ t. lex between (91 ∷ t)) (append_assoc (joined text [] values) (93 ∷ []) rest)
        ∙ ap (λ l. token tokens.begin_array ∷ l) (items_lexed false values each rest);
    shallow = omega (arith, items_shallow values each);
    unique = items_unique values each;
    shown = shown-cons 91 _ (omega arith) (omega arith)
        (shown-append (joined text [] values) (93 ∷ []) (items_shown false values each)
        (one_shown 93 (omega arith) (omega arith)));
  }

-- ---- objects

-- A field is read as a member: its label is UTF-8, and its text is read as some value.
pub record FieldReads (most : ℕ) (field : Field) : Type 0 where
  pub label : IsUtf8 field.0
  pub value : HasValue most field.1

module _ (most : ℕ) where
  -- Returns the members that fields are read as.
  abbrev pub members_read : (fields : List Field) → Each (FieldReads most) fields → Members
  unfolding Each
  members_read [] each = no_members
  members_read (field ∷ fields) each = member field.0 each.0.value.value (members_read fields each.1)

  -- What follows a value in an object, a comma or a brace, ends a word.
  members_end : (fields : List Field) (rest : List ℕ) → ends_word (joined texts.member (44 ∷ []) fields ++ 125 ∷ rest) ≡ true
  unfolding joined
  members_end [] rest = refl
  members_end (field ∷ fields) rest = refl

  -- The lexer takes a label, a colon and the text of a value for a key, a colon and this value.
  member_lexed : (field : Field) (reads : FieldReads most field) (rest : List ℕ) → ends_word rest ≡ true
      → lex between (texts.member field ++ rest)
      ≡ (token (tokens.string field.0) ∷ colon ∷ value_lexemes reads.value.value) ++ lex between rest
  unfolding lex
  member_lexed field reads rest ended =
      ap (lex between) (ap (λ t. t ++ rest) (append_assoc (quoted field.0) (58 ∷ []) field.1)
      ∙ append_assoc (quoted field.0) (58 ∷ field.1) rest)
      ∙ string_lexed field.0 (58 ∷ (field.1 ++ rest)) reads.label
      ∙ ap (λ l. token (tokens.string field.0) ∷ colon ∷ l) (reads.value.reads.lexed rest ended)

  -- The lexer takes fields between commas for members.
  members_lexed : (later : Bool) (fields : List Field) (each : Each (FieldReads most) fields) (rest : List ℕ)
      → lex between (joined texts.member (comma_text later) fields ++ 125 ∷ rest)
      ≡ members_lexemes later (members_read fields each) ++ lex between rest
  unfolding Each joined lex
  members_lexed later [] each rest = refl
  members_lexed later (field ∷ fields) each rest =
      let more = joined texts.member (44 ∷ []) fields in
      let first = token (tokens.string field.0) ∷ colon ∷ value_lexemes each.0.value.value in
      let others = members_lexemes true (members_read fields each.1) in
      ap (lex between) (in_row (comma_text later) (texts.member field) more (125 ∷ rest))
      ∙ comma_lexed later (texts.member field ++ (more ++ 125 ∷ rest))
      ∙ ap (λ l. comma_if later ++ l) (member_lexed field each.0 (more ++ 125 ∷ rest) (members_end fields rest)
      ∙ ap (λ l. first ++ l) (members_lexed true fields each.1 rest))
      ∙ regroup (comma_if later) first others (lex between rest)

  -- Members nest no deeper than `most`, since no value of their texts does.
  members_shallow : (fields : List Field) (each : Each (FieldReads most) fields) → members_depth (members_read fields each) ≤ most
  unfolding Each
  members_shallow [] each = omega arith
  members_shallow (field ∷ fields) each = omega (arith, each.0.value.reads.shallow, members_shallow fields each.1)

  -- No value of the members has a key twice, since no value of their texts has.
  members_unique : (fields : List Field) (each : Each (FieldReads most) fields) → MembersHaveUniqueKeys (members_read fields each)
  unfolding Each
  members_unique [] each = tt
  members_unique (field ∷ fields) each = (each.0.value.reads.unique, members_unique fields each.1)

  -- The keys of members are the labels of their fields.
  keys_are : (fields : List Field) (each : Each (FieldReads most) fields) → keys (members_read fields each) ≡ labels fields
  unfolding Each
  keys_are [] each = refl
  keys_are (field ∷ fields) each = ap (λ (ks : List (List ℕ)). field.0 ∷ ks) (keys_are fields each.1)

  -- If labels are apart, the keys of their members differ.
  members_distinct : (fields : List Field) (each : Each (FieldReads most) fields) → are_apart (labels fields) ≡ true
      → AreDistinct (keys (members_read fields each))
  members_distinct fields each apart = subst AreDistinct (sym (keys_are fields each)) (apart_distinct (labels fields) apart)

  -- A field is shown.
  member_shown : (field : Field) → FieldReads most field → IsShown (texts.member field)
  member_shown field reads =
      shown-append (quoted field.0 ++ 58 ∷ []) field.1
      (shown-append (quoted field.0) (58 ∷ []) (quoted_shown field.0 reads.label) (one_shown 58 (omega arith) (omega arith)))
      reads.value.reads.shown

  -- Fields between commas are shown.
  members_shown : (later : Bool) (fields : List Field) → Each (FieldReads most) fields
      → IsShown (joined texts.member (comma_text later) fields)
  unfolding Each joined
  members_shown later [] each = shown-nil
  members_shown later (field ∷ fields) each =
      shown-append (comma_text later ++ texts.member field) (joined texts.member (44 ∷ []) fields)
      (shown-append (comma_text later) (texts.member field) (comma_shown later) (member_shown field each.0))
      (members_shown true fields each.1)

  -- An object of fields is read as an object of their members.
  pub object_reads : (fields : List Field) (each : Each (FieldReads most) fields) → are_apart (labels fields) ≡ true
      → Reads (suc most) (texts.object fields) (object (members_read fields each))
  unfolding lex
  object_reads fields each apart = record {
    lexed = λ rest ended. ap (λ t. lex between (123 ∷ t)) (append_assoc (joined texts.member [] fields) (125 ∷ []) rest)
        ∙ ap (λ l. token tokens.begin_object ∷ l) (members_lexed false fields each rest);
    shallow = omega (arith, members_shallow fields each);
    unique = (members_distinct fields each apart, members_unique fields each);
    shown = shown-cons 123 _ (omega arith) (omega arith)
        (shown-append (joined texts.member [] fields) (125 ∷ []) (members_shown false fields each)
        (one_shown 125 (omega arith) (omega arith)));
  }

  -- If the texts of the fields are read, `members_of` returns the members that they are read as.
  pub are_members : (fields : List Field) (each : Each (FieldReads most) fields) → most ≤ 128
      → members_of fields ≡ Some (members_read fields each)
  unfolding Each
  are_members [] each few = refl
  are_members (field ∷ fields) each few =
      rw (document_of most field.1 each.0.value.value few each.0.value.reads, are_members fields each.1 few) refl
