-- States the loop invariant of `all_of` (`src/sides.rt`).
use Rattle.std.proofs.Common.{◌≡◌, ◌++◌, map, drop, Bor}
use Rattle.ill_record.specs.declared.side.Side.{Side}
use Rattle.ill_words.proofs.sides.all_of.Given as goal

-- `all`, and the sides that are left, are all sides.
abbrev pub invariant-loop-place : goal.invariant-loop-place
invariant-loop-place l = record {
  all : map (λ (side : Bor Side). side.now) l.all.items ++ drop l.place l.sides.sides ≡ l.sides.sides;
}
