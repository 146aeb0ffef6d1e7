-- Proves the contract of `ManySides::sides` (`src/many_sides.rt`).
use Rattle.ill_saved.proofs.Contents.{as_seen}
use Rattle.ill_saved.proofs.many_sides.ManySides.sides.Goals as goal

-- The result is the sides that the desk holds.
pub returns : goal.returns
returns c = as_seen c.self.inside.sides c.self.inside.released.items c.args.self.now c.self.invariant.0 c.self.view_is
