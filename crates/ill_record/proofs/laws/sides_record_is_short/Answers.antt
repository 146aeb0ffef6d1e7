-- Proves the contract of `sides_record_is_short` (`src/laws.rt`).
use Rattle.ill_record.proofs.Sizes.{sides_bound}
use Rattle.ill_record.proofs.laws.sides_record_is_short.Goals as goal

-- The record of a desk has at most 41,813,039 bytes.
pub returns : goal.returns
returns c = sides_bound c.record_is_short.ensures
