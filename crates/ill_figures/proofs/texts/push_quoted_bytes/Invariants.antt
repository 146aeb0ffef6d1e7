-- States the loop invariant of `push_quoted_bytes` (`src/texts.rt`).
use Rattle.std.proofs.Common.{◌≡◌, ◌++◌, take}
use Rattle.std.specs.List.{flat_map}
use Rattle.ill_figures.specs.Texts.{quoted_byte}
use Rattle.ill_figures.proofs.texts.push_quoted_bytes.Given as goal

-- The bytes so far are appended, with each quote doubled.
abbrev pub invariant-loop-byte : goal.invariant-loop-byte
invariant-loop-byte l = record {
  appended : l.text.items ≡ l.initial.text.items ++ flat_map quoted_byte (take l.byte-index l.field);
}
