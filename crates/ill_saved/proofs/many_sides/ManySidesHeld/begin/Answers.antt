-- Proves the contract of `ManySides::begin` (`src/many_sides.rt`).
use Rattle.std.proofs.Common.{sym, subst}
use Rattle.ill_saved.specs.ManySides.{ManyBack, many_sides}
use Rattle.ill_saved.proofs.Contents.{none_back}
use Rattle.ill_saved.proofs.many_sides.ManySidesHeld.begin.Goals as goal

-- A desk that holds no side backs itself.
pub returns-clause-backed : goal.returns-clause-backed
returns-clause-backed c = subst (λ held. ManyBack (many_sides.unsaved held) held) (sym c.none.ensures) (none_back c.args.first)
