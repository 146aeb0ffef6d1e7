-- States the loop invariant of `push_indented` (`src/long_lines.rt`).
use Rattle.std.proofs.Common.{◌≡◌, ◌++◌, drop}
use Rattle.ill_text.specs.LongLines.{indented, indented_on}
use Rattle.ill_text.proofs.long_lines.push_indented.Given as goal

-- `lines`, and the bytes that are left, indented, are the old lines and the indented text.
abbrev pub invariant-loop-byte : goal.invariant-loop-byte
invariant-loop-byte l = record {
  shown : l.lines.items ++ indented_on l.begins (drop l.byte-index l.text) ≡ l.initial.lines.items ++ indented l.text;
}
