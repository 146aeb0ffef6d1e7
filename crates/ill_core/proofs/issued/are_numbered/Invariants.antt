-- Defines the loop invariant of `are_numbered` (`src/issued.rt`).
use Rattle.std.proofs.Common.{◌≡◌, ◌+◌, ◌≤◌, drop}
use Rattle.ill_core.specs.Issued.{are_numbered}
use Rattle.ill_core.proofs.issued.are_numbered.Given as goal

-- The list is numbered if, and only if, the part from the index on is. The index is at most 255.
abbrev pub invariant-loop-index : goal.invariant-loop-index
invariant-loop-index l = record {
  rest : are_numbered l.txn 1 l.apdus ≡ are_numbered l.txn (l.index + 1) (drop l.index l.apdus);
  few : l.index ≤ 255;
}
