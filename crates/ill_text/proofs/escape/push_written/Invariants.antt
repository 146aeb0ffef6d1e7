-- States the loop invariant and the measure of `push_written` (`src/escape.rt`).
use Rattle.std.proofs.Common.{◌≡◌, ◌++◌, length}
use Rattle.ill_text.specs.Escape.{written}
use Rattle.ill_text.proofs.escape.push_written.Given as goal

-- `text`, and `rest` as it will be written, are the old text and `item` as it is written.
abbrev pub invariant-loop-first : goal.invariant-loop-first
invariant-loop-first l = record {
  shown : l.text.items ++ written l.escaping l.rest ≡ l.initial.text.items ++ written l.escaping l.item;
}

-- Returns the number of bytes that are not written yet.
abbrev pub decreases-loop-first : goal.decreases-loop-first
decreases-loop-first l = length l.rest
