-- Proves the contract of `Sides::take` (`src/sides.rt`).
-- Only the entry of the transaction changes, and its side keeps the transaction and the role.
use Rattle.std.proofs.Common.{subst}
use Rattle.std.specs.Map.{values_of}
use Rattle.ill_record.specs.Sides.{ChangesOnlySideOf}
use Rattle.ill_record.specs.Side.{Takes}
use Rattle.ill_record.proofs.DeskEntry.{filed_on, only_that, takes_row}
use Rattle.ill_record.proofs.sides.Sides.take.Goals as goal

-- All entries satisfy `AreFiled` after one side takes an APDU.
pub invariant_of-self : goal.invariant_of-self
invariant_of-self c =
    filed_on c.rows_grow.ensures c.rows_begin.ensures.stays (λ old answer new. Takes old c.args.apdu.now answer new)
    (λ old new answer does. takes_row old new c.args.apdu.now answer does) c.self.inside.role c.args.apdu.now.txn
    c.self.inside.map.entries c.self.invariant
    c.take_among.result c.take_among.new.map.entries c.take_among.ensures

-- Only the side of the APDU's transaction takes it.
pub returns : goal.returns
returns c =
    subst (λ held. ChangesOnlySideOf (λ old answer new. Takes old c.args.apdu.now answer new) c.args.apdu.now.txn held
    c.take_among.result
    (record { role = c.self.inside.role; sides = values_of c.take_among.new.map.entries })) c.self.view_is
    (only_that c.rows_grow.ensures c.rows_begin.ensures.stays (λ old answer new. Takes old c.args.apdu.now answer new)
    (λ old new answer does. takes_row old new c.args.apdu.now answer does) c.self.inside.role c.args.apdu.now.txn
    c.self.inside.map.entries c.self.invariant
    c.take_among.result c.take_among.new.map.entries c.take_among.ensures)
