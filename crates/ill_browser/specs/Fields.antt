-- The fields of a form, as a browser sends them.
use Rattle.std.specs.Prelude.{ℕ, Bool, ◌==◌, if◌then◌else◌, List, map, filter, find, length, codes}
use Rattle.std.specs.Prelude.{Option, Some, None, option_map}
use Rattle.std.specs.Prelude.{string_bytes, bytes_eq}
use Rattle.std.specs.List.{flat_map, list_all, list_any}
use Rattle.std.specs.Option.{option_to_list}
use Rattle.std.specs.Str.Lossy.{utf8_lossy}
use Rattle.form_urlencoded.specs.Form.{raw_pairs, decode}
use Rattle.ill_days.specs.Days.{day_digits}
use Rattle.ill_browser.specs.declared.field.Field.{Field}

-- A field: its name as it is written, and its value.
abbrev pub Pair : Type 0
Pair = List ℕ × List ℕ

-- Returns the field that a `Field` of the code holds.
abbrev pub field_shown : Field → Pair
field_shown field = (field.name.now, string_bytes field.value)

-- Returns the text that a value of a form stands for. Bytes that are no UTF-8 become U+FFFD.
abbrev pub text_of : List ℕ → List ℕ
text_of value = utf8_lossy (decode value)

-- Returns a field with its value decoded.
abbrev pub decoded : Pair → Pair
decoded field = (field.0, text_of field.1)

-- Returns the fields of a form, in their order.
abbrev pub fields_in : List ℕ → List Pair
fields_in form = map decoded (raw_pairs form)

-- Returns true if the field has this name.
abbrev pub is_named : List ℕ → Pair → Bool
is_named name field = bytes_eq field.0 name

-- Returns the value of the first field with this name.
abbrev pub first_named : List ℕ → List Pair → Option (List ℕ)
first_named name fields = option_map (λ field. field.1) (find (λ field. is_named name field) fields)

-- Returns the number of fields with this name.
abbrev pub count_named : List ℕ → List Pair → ℕ
count_named name fields = length (filter (λ field. is_named name field) fields)

-- Returns the value of the only field with this name. Returns `None` if no field or two fields have this name.
abbrev pub only_named : List ℕ → List Pair → Option (List ℕ)
only_named name fields = if count_named name fields == 1 then first_named name fields else None

-- Returns true if each field has one of these names.
abbrev pub are_named : List (List ℕ) → List Pair → Bool
are_named names fields = list_all (λ field. list_any (λ name. is_named name field) names) fields

-- Returns the word of a day: its digits. The word of an empty text is `none`.
abbrev pub day_word : List ℕ → List ℕ
day_word text = if length text == 0 then codes "none" else day_digits text

-- Returns the word in a field named `word` or `day`. Another field has none.
abbrev pub word_in : Pair → Option (List ℕ)
word_in field =
    if is_named (codes "word") field then Some field.1
    else if is_named (codes "day") field then Some (day_word field.1)
    else None

-- Returns the words of an action: those in the fields, in their order.
unfoldable pub words_in : List Pair → List (List ℕ)
words_in fields = flat_map (λ field. option_to_list (word_in field)) fields
