-- States the loop invariant and the measure of `column` (`src/cells.rt`).
use Rattle.std.proofs.Common.{◌≡◌, ◌++◌, length}
use Rattle.ill_rows.specs.Cells.{column, column_rest}
use Rattle.ill_rows.proofs.cells.column.Given as goal

-- `shown`, and `rest` as it will be shown, are the whole column.
abbrev pub invariant-loop-byte : goal.invariant-loop-byte
invariant-loop-byte l = record {
  shown : l.shown.items ++ column_rest l.is_edge l.rest ≡ column l.text;
}

-- Returns the number of bytes that are not shown yet.
abbrev pub decreases-loop-byte : goal.decreases-loop-byte
decreases-loop-byte l = length l.rest
