-- States the loop invariant of `all_held` (`src/sides.rt`).
use Rattle.std.proofs.Common.{◌≡◌, ◌++◌, map, drop}
use Rattle.ill_words.specs.Sides.{held_of}
use Rattle.ill_words.proofs.sides.all_held.Given as goal

-- `all`, and the entries that are left, are all entries of the desk.
abbrev pub invariant-loop-place : goal.invariant-loop-place
invariant-loop-place g l = record {
  all : map held_of l.all.items ++ drop l.place l.desk.live.held ≡ l.desk.live.held;
}
