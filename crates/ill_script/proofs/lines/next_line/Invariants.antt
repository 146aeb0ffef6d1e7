-- The loop of `next_line` (`src/lines.rt`) keeps this invariant, and comes to an end.
use Rattle.std.proofs.Common.{◌-◌, length}
use Rattle.std.specs.Io.KnownBytes.{Consumes, prepend_known}
use Rattle.ill_script.specs.Simulating.{IsLine}
use Rattle.ill_script.proofs.lines.next_line.Given as goal

-- `line` has the bytes that were read. They are the first part of a line: no LF, and within the limit.
abbrev pub invariant-loop-ahead : goal.invariant-loop-ahead
invariant-loop-ahead g l =
    IsLine l.line.items
    × Consumes (prepend_known l.initial.ahead (g.R.Read.remaining l.initial.reader))
    (prepend_known l.ahead (g.R.Read.remaining l.reader)) l.line.items

-- The count of the bytes that the line may still have decreases.
abbrev pub decreases-loop-ahead : goal.decreases-loop-ahead
decreases-loop-ahead g l = 1025 - length l.line.items
