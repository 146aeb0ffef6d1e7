-- Proves the contract of `Sides::act` (`src/sides.rt`).
-- Only the entry of the transaction changes, and its side keeps the transaction and the role.
use Rattle.std.proofs.Common.{subst}
use Rattle.std.specs.Map.{values_of}
use Rattle.ill_record.specs.Sides.{ChangesOnlySideOf}
use Rattle.ill_record.specs.Side.{Acts}
use Rattle.ill_record.proofs.DeskEntry.{filed_on, only_that, acts_row}
use Rattle.ill_record.proofs.sides.Sides.act.Goals as goal

-- All entries satisfy `AreFiled` after one side performs an action.
pub invariant_of-self : goal.invariant_of-self
invariant_of-self c =
    filed_on c.rows_grow.ensures c.rows_begin.ensures.stays (λ old answer new. Acts old c.args.action.now answer new)
    (λ old new answer does. acts_row old new c.args.action.now answer does) c.self.inside.role c.args.txn.now
    c.self.inside.map.entries c.self.invariant
    c.act_among.result c.act_among.new.map.entries c.act_among.ensures

-- Only the side of the transaction performs the action.
pub returns : goal.returns
returns c =
    subst (λ held. ChangesOnlySideOf (λ old answer new. Acts old c.args.action.now answer new) c.args.txn.now held
    c.act_among.result
    (record { role = c.self.inside.role; sides = values_of c.act_among.new.map.entries })) c.self.view_is
    (only_that c.rows_grow.ensures c.rows_begin.ensures.stays (λ old answer new. Acts old c.args.action.now answer new)
    (λ old new answer does. acts_row old new c.args.action.now answer does) c.self.inside.role c.args.txn.now
    c.self.inside.map.entries c.self.invariant
    c.act_among.result c.act_among.new.map.entries c.act_among.ensures)
