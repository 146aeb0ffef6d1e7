-- States the loop invariant of `held_together` (`src/decoding_v2.rt`).
use Rattle.std.proofs.Common.{◌≡◌, true, ◌++◌}
use Rattle.ill_record.specs.Sides.{may_be_held}
use Rattle.ill_record.proofs.decoding_v2.held_together.Given as goal

-- The sides that are held, followed by the sides that are left, are all sides that were read.
abbrev pub invariant-loop-side : goal.invariant-loop-side
invariant-loop-side l = record {
  role : l.sides.role ≡ l.fn.role;
  all : l.sides.sides ++ l.side-iterator.rest.items ≡ l.fn.read.items;
  held : may_be_held l.sides ≡ true;
}
