-- The lines of a file beside a desk, as notes and a diary have them.
use Rattle.std.specs.Prelude.{ℕ, ◌==◌, if◌then◌else◌, List, [], ◌∷◌, ◌++◌, fold, map}
use Rattle.ill_beside.specs.declared.file_lines.FileLines.{FileLines}

-- Returns the lines so far and the bytes of the next one, with one byte more. A line feed ends a line.
abbrev pub with_byte : List (List ℕ) × List ℕ → ℕ → List (List ℕ) × List ℕ
with_byte (lines, next) byte = if byte == 0x0A then (lines ++ next ∷ [], []) else (lines, next ++ byte ∷ [])

-- Returns the lines in `bytes`, without their ends. A part of a line, as a crash leaves it at the end, is no line.
abbrev pub lines_in : List ℕ → List (List ℕ)
lines_in bytes = (fold with_byte ([], []) bytes).0

-- Returns the lines of a file that was read.
abbrev pub lines_of : FileLines → List (List ℕ)
lines_of read = map (λ line. line.items) read.lines.items
