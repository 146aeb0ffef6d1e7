-- States the loop invariant and the measure of `has_part` (`src/finding.rt`).
use Rattle.std.proofs.Common.{◌≡◌, length}
use Rattle.ill_rows.specs.Finding.{has_part}
use Rattle.ill_rows.proofs.finding.has_part.Given as goal

-- `part` is within `text` if, and only if, it is within `rest`.
abbrev pub invariant-loop-after : goal.invariant-loop-after
invariant-loop-after l = record {
  left : has_part l.part l.rest ≡ has_part l.part l.text;
}

-- Returns the number of bytes at which `part` was not looked for yet.
abbrev pub decreases-loop-after : goal.decreases-loop-after
decreases-loop-after l = length l.rest
