-- The loop invariant of `shipped` (`src/main.rt`).
use Rattle.std.proofs.Common.{◌≡◌, ◌++◌, map, Bor}
use Rattle.ill_record.specs.declared.side.Side.{Side}
use Rattle.due_dates.specs.Shipped.{shipped}
use Rattle.due_dates.proofs.shipped.Given as goal

-- The sides found so far, and the SHIPPED sides that are left, are all SHIPPED sides.
abbrev pub invariant-loop-side : goal.invariant-loop-side
invariant-loop-side l = record {
  all : map (λ (side : Bor Side). side.now) l.found.items ++ shipped l.side-iterator ≡ shipped l.sides.sides;
}
