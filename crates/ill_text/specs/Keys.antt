-- The key of a loan: the text with which lines name it in the files beside a desk.
use Rattle.std.specs.Prelude.{ℕ, ◌==◌, if◌then◌else◌, List, [], ◌∷◌, ◌++◌, codes}
use Rattle.std.specs.List.{flat_map}
use Rattle.ill_values.specs.TxnId.{Qualifiers}

-- Returns the text of a byte of a qualifier: an escape for a space or a backslash, else the byte. So the first space in
-- a line ends the qualifier.
abbrev pub key_byte : ℕ → List ℕ
key_byte byte =
    if byte == 0x20 then codes "\\u{20}" else (if byte == 0x5C then codes "\\u{5c}" else byte ∷ [])

-- Returns the text of a qualifier in a line, with an escape for each space and each backslash.
abbrev pub key : List ℕ → List ℕ
key text = flat_map key_byte text

-- Returns the key of a loan: both qualifiers, with a space after each.
abbrev pub loan_key : Qualifiers → List ℕ
loan_key txn = key txn.group ++ (codes " " ++ (key txn.transaction ++ codes " "))
