-- Proves that the history of a loan is an array of objects of JSON. Each part has a value (`HasValue`).
use Rattle.std.proofs.Common.{◌≡◌, ℕ, suc, ◌+◌, ◌<◌, take, drop, Bool, true, false, List, [], ◌∷◌, ◌++◌, map, length, Option}
use Rattle.std.proofs.Common.{Some, None}
use Rattle.std.proofs.Common.{refl, arith, IsUtf8, codes, IfSome, cond}
use Rattle.std.proofs.Math.ListN.{get_or}
use Rattle.std.proofs.lemmas.Bool.{eqb-true, ltb-true}
use Rattle.std.proofs.lemmas.List.Sums.{passes_at_first}
use Rattle.std.proofs.lemmas.Str.{IsUtf8-from_is_utf8, IsUtf8-take, IsUtf8-drop, IsCharBoundary-before_ascii}
use Rattle.std.proofs.lemmas.Str.{IsCharBoundary-after_ascii}
use Rattle.std.specs.Prelude.{bytes_eq, filter, find, nat_lt, option_map, option_to_list, if◌then◌else◌}
use Rattle.std.specs.List.{after_first, before_first, position_or_len}
use Rattle.std.specs.Str.{is_utf8}
use Rattle.ill_values.specs.Day.{Date}
use Rattle.ill_values.specs.declared.apdu.Apdu.{Apdu}
use Rattle.ill_values.specs.Apdu.{IsApdu, IsNumber}
use Rattle.ill_values.specs.Types.{type_of}
use Rattle.ill_record.specs.declared.side.Side.{Side}
use Rattle.ill_record.specs.declared.side.Side.TheVariants as sides
use Rattle.ill_record.specs.Ranges.{Each, IsInRange}
use Rattle.ill_record.specs.Side.{issued_of}
use Rattle.ill_words.specs.Words.{◌>>=◌, day_of}
use Rattle.ill_beside.specs.Diary.{Named, Said, PrintedPart, at_space, body_verb, history_fields, history_of, is_named, is_space}
use Rattle.ill_beside.specs.Diary.{issued_named, messages_of, part_at, part_fields, part_object, part_of, part_said, person}
use Rattle.ill_beside.specs.Diary.{request_taken, said_by, said_in, said_on, says_of, taken_named}
use Rattle.ill_beside.specs.Heard.{is_heard}
use Rattle.ill_json.proofs.Names.{type_printable, verb_printable}
use Rattle.ill_json.proofs.Shown.{are_printable, printable_shown}
use Rattle.ill_json.proofs.Values.{HasValue, FieldReads, object_reads}
use Rattle.ill_json.proofs.Fields.{array_value, day_utf8, field_reads, number_value, text_value}
use Rattle.ill_json.proofs.Sides.{each_append, optional_text}

-- ---- what a line says

-- Two texts are UTF-8.
abbrev AreUtf8 : List ℕ × List ℕ → Type 0
AreUtf8 parts = IsUtf8 parts.0 × IsUtf8 parts.1

-- The texts before and after a space in a text of UTF-8 are UTF-8.
around : (text : List ℕ) (place : ℕ) → IsUtf8 text → place < length text → get_or text place 0 ≡ 32
    → AreUtf8 (take place text, drop (place + 1) text)
around text place utf8 within space =
    let ascii : get_or text place 0 < 128 = omega (arith, space) in (
      IsUtf8-take text place utf8 (IsCharBoundary-before_ascii text place within ascii),
      IsUtf8-drop text (place + 1) utf8 (IsCharBoundary-after_ascii text place utf8 within ascii),
    )

-- The texts before and after the first space of a text of UTF-8 are UTF-8.
around_space : (text : List ℕ) → IsUtf8 text → IfSome (at_space text) AreUtf8
around_space text utf8 = go (nat_lt (position_or_len is_space text) (length text)) refl
  where
    -- The text has a space, or there are no two parts.
    go : (is : Bool) → nat_lt (position_or_len is_space text) (length text) ≡ is
        → IfSome (if is then Some (before_first is_space text, after_first is_space text) else None) AreUtf8
    go true less =
        let within = ltb-true (position_or_len is_space text) (length text) less in
        around text (position_or_len is_space text) utf8 within
        (eqb-true (get_or text (position_or_len is_space text) 0) 32 (passes_at_first is_space text 0 within))
    go false less = tt

-- The name in what a line says is UTF-8.
abbrev HasName : Said → Type 0
HasName says = IsUtf8 says.by

-- The name of what is said on a day is UTF-8 if it is UTF-8 in the text.
named_on : (day : List ℕ) (parts : List ℕ × List ℕ) → AreUtf8 parts → IfSome (said_on day parts) HasName
named_on day parts are = go (day_of day)
  where
    -- If the text `day` is no day, nothing is said.
    go : (found : Option Date)
        → IfSome (option_map (λ d. says_of d parts.0 parts.1) found) HasName
    go None = tt
    go (Some d) = are.0

-- The name in what a text of UTF-8 says is UTF-8.
named_in : (text : List ℕ) → IsUtf8 text → IfSome (said_in text) HasName
named_in text utf8 = first (at_space text) (around_space text utf8)
  where
    -- If the text after the day is a name and then words, the name is UTF-8.
    second : (day : List ℕ) (parts : Option (List ℕ × List ℕ)) → IfSome parts AreUtf8 → IfSome (parts >>= said_on day) HasName
    second day None are = tt
    second day (Some parts) are = named_on day parts are

    -- If the text is a day and then a rest, the name in the rest is UTF-8.
    first : (parts : Option (List ℕ × List ℕ)) → IfSome parts AreUtf8
        → IfSome (parts >>= λ found. at_space found.1 >>= said_on found.0) HasName
    first None are = tt
    first (Some parts) are = second parts.0 (at_space parts.1) (around_space parts.1 are.1)

-- The name in what a line says is UTF-8.
named_by_line : (text : List ℕ) → IfSome (said_by text) HasName
named_by_line text = go (is_utf8 text) refl
  where
    -- A line that is no UTF-8 says nothing.
    go : (is : Bool) → is_utf8 text ≡ is → IfSome (if is then said_in text else None) HasName
    go true utf8 = named_in text (IsUtf8-from_is_utf8 text utf8)
    go false utf8 = tt

-- ---- the messages of a record

-- The word for a message is printable, and its number is from 1 to 255.
record IsNamed (message : Named) : Type 0 where
  what : are_printable message.what ≡ true
  number : IsNumber message.number

-- Each message that was issued has a printable word and a number from 1 to 255.
issued_are : (apdus : List Apdu) → Each IsApdu apdus → Each IsNamed (map issued_named apdus)
unfolding Each
issued_are [] each = tt
issued_are (a ∷ apdus) each =
    (record { what = verb_printable (body_verb a.body); number = each.0.number }, issued_are apdus each.1)

-- Each message that was taken has a printable word and a number from 1 to 255.
taken_are : (apdus : List Apdu) → Each IsApdu apdus → Each IsNamed (map taken_named apdus)
unfolding Each
taken_are [] each = tt
taken_are (a ∷ apdus) each =
    (record { what = type_printable (type_of a.body); number = each.0.number }, taken_are apdus each.1)

-- If each item of a list has a property, so has each item that is kept.
pub filter_each : {X : Type 0} (P : X → Type 0) (keeps : X → Bool) (xs : List X) → Each P xs → Each P (filter keeps xs)
unfolding Each
filter_each P keeps [] each = tt
filter_each P keeps (x ∷ xs) each = go (keeps x) (filter_each P keeps xs each.1)
  where
    -- The first item is kept, or not.
    go : (kept : Bool) → Each P (filter keeps xs) → Each P (cond kept (x ∷ filter keeps xs) (filter keeps xs))
    go true rest = (each.0, rest)
    go false rest = rest

-- The request in the record of a side is in range.
requests_are : (side : Side) → IsInRange side → Each IsApdu (request_taken side)
unfolding Each
requests_are (sides.Requester x) is = tt
requests_are (sides.Responder y) is = go y.request is.parts.request
  where
    -- A responder has a request, or none.
    go : (request : Option Apdu) → IfSome request IsApdu → Each IsApdu (option_to_list request)
    go None is = tt
    go (Some a) is = (is, tt)

-- Each message of a record has a printable word and a number from 1 to 255.
messages_named : (side : Side) (kept : List Apdu) → IsInRange side → Each IsApdu kept → Each IsNamed (messages_of side kept)
messages_named side kept is each =
    each_append IsNamed (map issued_named (issued_of side)) _ (issued_are (issued_of side) is.issued)
    (taken_are (request_taken side ++ filter (is_heard side) kept)
    (each_append IsApdu (request_taken side) (filter (is_heard side) kept) (requests_are side is)
    (filter_each IsApdu (is_heard side) kept each)))

-- ---- the history

-- The day and the name of a part are UTF-8. Its word is printable, and its number is from 1 to 255.
pub record IsPrinted (part : PrintedPart) : Type 0 where
  pub iso : IsUtf8 part.iso
  pub by : IsUtf8 part.by
  pub what : are_printable part.what ≡ true
  pub number : IsNumber part.number

-- If each item of a list has a property, so has the first item that passes a test.
found_has : {X : Type 0} (P : X → Type 0) (test : X → Bool) (xs : List X) → Each P xs → IfSome (find test xs) P
unfolding Each
found_has P test [] each = tt
found_has P test (x ∷ xs) each = go (test x) (found_has P test xs each.1)
  where
    -- The first item passes the test, or a later one may.
    go : (passes : Bool) → IfSome (find test xs) P → IfSome (cond passes (Some x) (find test xs)) P
    go true later = each.0
    go false later = later

module _ (messages : List Named) (each : Each IsNamed messages) where
  -- If what a line says tells a part, `IsPrinted` holds of this part.
  part_printed : (later : List (List ℕ)) (says : Said) → HasName says → IfSome (part_said messages later says) IsPrinted
  part_printed later says utf8 =
      go (is_named says.message later) (find (λ message. bytes_eq message.key says.message) messages)
      (found_has IsNamed (λ message. bytes_eq message.key says.message) messages each)
    where
      -- A message that a later line names has no part here. Another has one if it is among the messages.
      go : (names : Bool) (found : Option Named) → IfSome found IsNamed
          → IfSome (if names then None else option_map (part_of says) found) IsPrinted
      go true found is = tt
      go false None is = tt
      go false (Some message) is = record { iso = day_utf8 says.day; by = utf8; what = is.what; number = is.number }

  -- If a line tells a part, `IsPrinted` holds of this part.
  line_printed : (later : List (List ℕ)) (line : List ℕ) → IfSome (part_at messages later line) IsPrinted
  line_printed later line = go (said_by line) (named_by_line line)
    where
      -- A line that says nothing tells no part.
      go : (said : Option Said) → IfSome said HasName → IfSome (said >>= part_said messages later) IsPrinted
      go None utf8 = tt
      go (Some says) utf8 = part_printed later says utf8

  -- `IsPrinted` holds of each part of a history.
  parts_printed : (lines : List (List ℕ)) → Each IsPrinted (history_of messages lines)
  unfolding Each history_of
  parts_printed [] = tt
  parts_printed (line ∷ later) = with_one (part_at messages later line) (line_printed later line) (parts_printed later)
    where
      -- A part that a line tells is put before the others.
      with_one : (part : Option PrintedPart) → IfSome part IsPrinted → Each IsPrinted (history_of messages later)
          → Each IsPrinted (option_to_list part ++ history_of messages later)
      with_one None is others = others
      with_one (Some part) is others = (is, others)

-- `IsPrinted` holds of each part of the history of a loan.
pub history_printed : (side : Side) (kept : List Apdu) (diary : List (List ℕ)) → IsInRange side → Each IsApdu kept
    → Each IsPrinted (history_of (messages_of side kept) diary)
history_printed side kept diary is each = parts_printed (messages_of side kept) (messages_named side kept is each) diary

-- ---- the objects

-- The name of a person is UTF-8, if it is not a dash.
person_utf8 : (by : List ℕ) → IsUtf8 by → IfSome (person by) IsUtf8
person_utf8 by utf8 = go (bytes_eq by (codes "-"))
  where
    -- The name `-` stands for no person.
    go : (is : Bool) → IfSome (if is then None else Some by) IsUtf8
    go true = tt
    go false = utf8

module _ (most : ℕ) where
  -- The fields of a part are read.
  pub part_reads : (part : PrintedPart) → IsPrinted part → Each (FieldReads most) (part_fields part)
  unfolding Each
  part_reads part is = (
    field_reads most _ _ refl (text_value most (part.iso) is.iso),
    (
      field_reads most _ _ refl (optional_text most (person part.by) (person_utf8 part.by is.by)),
      (
        field_reads most _ _ refl (text_value most part.what (printable_shown part.what is.what).utf8),
        (field_reads most _ _ refl (number_value most part.number (omega (arith, is.number))), tt),
      ),
    ),
  )

  -- The object of each part has a value.
  pub parts_values : (parts : List PrintedPart) → Each IsPrinted parts
      → Each (λ part. HasValue (suc most) (part_object part)) parts
  unfolding Each
  parts_values [] each = tt
  parts_values (part ∷ parts) each = (
    record { value = _; reads = object_reads most (part_fields part) (part_reads part each.0) refl },
    parts_values parts each.1,
  )

-- The field of a history is read.
pub history_reads : (parts : List PrintedPart) → Each IsPrinted parts → Each (FieldReads 2) (history_fields parts)
unfolding Each
history_reads parts each = (field_reads 2 _ _ refl (array_value 1 part_object parts (parts_values 0 parts each)), tt)
