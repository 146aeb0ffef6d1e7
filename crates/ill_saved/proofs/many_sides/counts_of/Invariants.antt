-- States the loop invariant of `counts_of` (`src/many_sides.rt`).
use Rattle.std.proofs.Common.{◌≡◌, ◌++◌, drop}
use Rattle.ill_saved.specs.ManySides.{counts}
use Rattle.ill_saved.proofs.many_sides.counts_of.Given as goal

-- The counts so far, followed by the counts of the sides from `place` on, are the counts of all sides.
abbrev pub invariant-loop-place : goal.invariant-loop-place
invariant-loop-place l = record {
  counted : l.counts.items ++ counts (drop l.place l.sides.sides) ≡ counts l.sides.sides;
}
