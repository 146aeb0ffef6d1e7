-- Proves the contract of `sides_read_again` (`src/laws.rt`).
-- Each field of the record is read from its encoding, and the digest is computed from equal bytes.
use Rattle.ill_record.proofs.SidesLaws.{read_again}
use Rattle.ill_record.proofs.laws.sides_read_again.Goals as goal

-- Sides that may be saved are read from their encoding.
pub returns : goal.returns
returns c = read_again (record {
  encoded = c.encoded.ensures.side;
  again = c.read_again.ensures;
  short = c.record_is_short.ensures;
})
