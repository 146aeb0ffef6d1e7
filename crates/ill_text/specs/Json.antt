-- Texts of JSON (RFC 8259). Each text of these definitions is a single line, and no terminal acts on it.
use Rattle.std.specs.Prelude.{ℕ, Bool, true, false, List, [], ◌∷◌, ◌++◌, map, codes, Option, None, Some}
use Rattle.std.specs.Fmt.{decimal}
use Rattle.ill_values.specs.Day.{Date, iso_text}
use Rattle.ill_text.specs.declared.escape.Escaping.TheVariants as escapings
use Rattle.ill_text.specs.declared.json.Value.{Value}
use Rattle.ill_text.specs.declared.json.Value.TheVariants.{Missing, Text, Date as Day, Count, Flag, Words}
use Rattle.ill_text.specs.Escape.{written}

-- ---- the texts of values

-- Returns `text` as a string of JSON.
abbrev pub quoted : List ℕ → List ℕ
quoted text = codes "\"" ++ written escapings.Json text ++ codes "\""

-- Returns the literal `true` or `false`.
abbrev pub flag : Bool → List ℕ
flag true = codes "true"
flag false = codes "false"

-- Returns the literal `null`.
abbrev pub null : List ℕ
null = codes "null"

-- Returns the text of a value, or `null` if there is none.
abbrev pub optional : {A : Type 0} → (A → List ℕ) → Option A → List ℕ
optional text None = null
optional text (Some value) = text value

-- Returns a day as a string of JSON.
abbrev pub day : Date → List ℕ
day d = quoted (iso_text d)

-- Returns the texts of `values`, with a comma between two of them, and `before` ahead of the first.
unfoldable pub joined : {A : Type 0} → (A → List ℕ) → List ℕ → List A → List ℕ
joined text before [] = []
joined text before (value ∷ values) = before ++ text value ++ joined text (codes ",") values

-- Returns an array of `values`.
abbrev pub array : {A : Type 0} → (A → List ℕ) → List A → List ℕ
array text values = codes "[" ++ joined text [] values ++ codes "]"

-- ---- objects

-- A field of an object: its label, and the text of its value.
abbrev pub Field : Type 0
Field = List ℕ × List ℕ

-- Returns the text of a field: its label, a colon and its value.
abbrev pub member : Field → List ℕ
member field = quoted field.0 ++ codes ":" ++ field.1

-- Returns an object with these fields.
abbrev pub object : List Field → List ℕ
object fields = codes "{" ++ joined member [] fields ++ codes "}"

-- ---- the values of the program

-- Returns the text of a value of the code.
abbrev pub value_text : Value → List ℕ
value_text Missing = null
value_text (Text text) = quoted text.now
value_text (Day d) = day d
value_text (Count number) = decimal number
value_text (Flag holds) = flag holds
value_text (Words words) = array quoted (map (λ word. word.now) words.now)
