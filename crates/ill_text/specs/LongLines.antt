-- The heading and the fields of a message, as `take --long` writes them (this profile's own).
use Rattle.std.specs.Prelude.{ℕ, Bool, true, false, ◌==◌, List, [], ◌∷◌, ◌++◌}
use Rattle.std.specs.Fmt.{decimal}
use Rattle.ill_values.specs.declared.apdu.Apdu.{Apdu}
use Rattle.ill_values.specs.Types.{type_name}
use Rattle.ill_text.specs.Lines.{shown_fields}

-- Returns `text` and a space.
abbrev pub word : List ℕ → List ℕ
word text = text ++ 32 ∷ []

-- Returns the heading of a message: its transaction, its type and its number.
abbrev pub heading : Apdu → List ℕ
heading a = word a.txn.group ++ (word a.txn.transaction ++ (word (type_name a.body) ++ word (decimal a.number)))

-- Returns two spaces if the next byte begins a line, else nothing.
abbrev pub indent : Bool → List ℕ
indent true = 32 ∷ 32 ∷ []
indent false = []

-- Returns `text` with two spaces before each line. `begins` is true if the first byte begins a line.
unfoldable pub indented_on : Bool → List ℕ → List ℕ
indented_on begins [] = []
indented_on begins (byte ∷ text) = indent begins ++ byte ∷ indented_on (byte == 10) text

-- Returns `text` with two spaces before each line.
abbrev pub indented : List ℕ → List ℕ
indented text = indented_on true text

-- Returns the lines of the further fields of a message. No byte of them acts on a terminal.
abbrev pub said : Apdu → List ℕ
said a = indented (shown_fields a.body)
