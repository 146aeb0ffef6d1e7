-- Proves the contract of `read_or_none` (`src/many_sides.rt`).
-- A desk that holds no side backs itself.
use Rattle.std.proofs.Common.{None, sym, subst}
use Rattle.std.specs.Prelude.{option_map}
use Rattle.ill_saved.specs.Holdings.{IsBacked}
use Rattle.ill_saved.specs.ManySides.{ManyBack, many_sides}
use Rattle.ill_saved.proofs.Contents.{none_back}
use Rattle.ill_saved.proofs.many_sides.read_or_none.Goals as goal

-- If there are no bytes, a desk that holds no side is backed.
pub returns-in-None-clause-backed : goal.returns-in-None-clause-backed
returns-in-None-clause-backed c =
    subst (λ bytes. IsBacked many_sides ManyBack (option_map (λ b. b.items) bytes) c.none.result) (sym c.in-None.is)
    (subst (λ held. IsBacked many_sides ManyBack None held) (sym c.none.ensures) (none_back c.args.role))
