-- Proves the contract of `sides_encoded` (`src/laws.rt`).
use Rattle.ill_record.proofs.SidesLaws.{encoded}
use Rattle.ill_record.proofs.laws.sides_encoded.Goals as goal

-- Bytes that are read as sides, and are not of version 1, are their encoding.
pub returns : goal.returns
returns c = encoded (record { encoded = c.encoded.ensures.side; again = c.read_again.ensures; short = c.record_is_short.ensures })
