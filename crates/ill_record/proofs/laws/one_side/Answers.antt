-- Proves the contract of `one_side` (`src/laws.rt`).
use Rattle.ill_record.proofs.RecordLaws.{one_side}
use Rattle.ill_record.proofs.laws.one_side.Goals as goal

-- Two consistent sides in range with equal encodings are equal.
pub returns : goal.returns
returns c = one_side c.read_again.ensures
