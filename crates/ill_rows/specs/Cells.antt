-- The cells of lines of loans: the item of a loan, a qualifier, and a text of a width.
use Rattle.std.specs.Prelude.{ℕ, ◌-◌, Bool, true, false, ◌&&◌, ◌||◌, ◌==◌, if◌then◌else◌, List, [], ◌∷◌, ◌++◌, length}
use Rattle.std.specs.Prelude.{replicate, Option, Some, None, codes}
use Rattle.ill_text.specs.Escape.{escaped}

-- Returns an item for a screen, or a dash if there is none.
abbrev pub title_text : Option (List ℕ) → List ℕ
title_text None = codes "-"
title_text (Some item) = escaped item

-- Returns a byte of a column. A space is an escape if it is at an edge of the text or after another one.
abbrev pub column_byte : (is_edge : Bool) → ℕ → List ℕ
column_byte is_edge byte = if is_edge && byte == 0x20 then codes "\\u{20}" else byte ∷ []

-- Returns true if there is no further byte.
abbrev pub is_end : List ℕ → Bool
is_end [] = true
is_end after = false

-- Returns the rest of a column. If `is_edge` is true, nothing or a space is before the rest.
unfoldable pub column_rest : (is_edge : Bool) → List ℕ → List ℕ
column_rest is_edge [] = []
column_rest is_edge (byte ∷ after) = column_byte (is_edge || is_end after) byte ++ column_rest (byte == 0x20) after

-- Returns a qualifier for a column. No two spaces stand side by side in it, since two spaces end a column.
abbrev pub column : List ℕ → List ℕ
column text = column_rest true text

-- Returns `text` with spaces after it, up to `width`.
unfoldable pub padded : ℕ → List ℕ → List ℕ
padded width text = text ++ replicate (width - length text) 32

-- Returns `text` with spaces up to `width`, and two further ones before the next column.
abbrev pub cell : ℕ → List ℕ → List ℕ
cell width text = padded width text ++ codes "  "
