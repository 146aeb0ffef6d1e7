-- Proves the contract of `one_sides` (`src/laws.rt`).
use Rattle.ill_record.proofs.SidesLaws.{one_sides}
use Rattle.ill_record.proofs.laws.one_sides.Goals as goal

-- Sides of two desks with equal encodings are equal.
pub returns : goal.returns
returns c = one_sides c.sides_read_again.ensures
