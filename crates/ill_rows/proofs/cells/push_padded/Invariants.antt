-- States the loop invariant of `push_padded` (`src/cells.rt`).
use Rattle.std.proofs.Common.{◌≡◌, ◌-◌, ◌++◌, length, replicate}
use Rattle.ill_rows.proofs.cells.push_padded.Given as goal

-- `lines`, and the spaces that are left, are the lines before the loop and all spaces of the text.
abbrev pub invariant-loop : goal.invariant-loop
invariant-loop l = record {
  filled : l.lines.items ++ replicate (l.width - l.counter) 32 ≡ l.initial.lines.items ++ replicate (l.width - length l.text) 32;
}
