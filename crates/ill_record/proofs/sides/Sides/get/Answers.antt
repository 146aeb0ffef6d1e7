-- Proves the contract of `Sides::get` (`src/sides.rt`).
-- Each side has its own transaction as its key.
use Rattle.std.proofs.Common.{ap, ◌∙◌}
use Rattle.ill_record.specs.Sides.{side_with}
use Rattle.ill_record.proofs.DeskEntry.{filed_with}
use Rattle.ill_record.proofs.sides.Sides.get.Goals as goal

-- The map gives the side of the transaction.
pub returns : goal.returns
returns c =
    c.get.ensures.value ∙ filed_with c.args.txn.now c.self.inside.map.entries c.self.invariant.keys
    ∙ ap (λ held. side_with c.args.txn.now held.sides) c.self.view_is
