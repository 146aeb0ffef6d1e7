-- Proves the contract of `read_again` (`src/laws.rt`).
-- Each field of the record is read from its encoding.
use Rattle.ill_record.proofs.RecordLaws.{record_again}
use Rattle.ill_record.proofs.laws.read_again.Goals as goal

-- A consistent side in range is read from its encoding.
pub returns : goal.returns
returns c = record_again (record {
  day_encoded = c.date_texts.ensures.encoded;
  day_read = c.date_texts.ensures.read;
  text_size = c.text_sizes.ensures.qualifier;
  apdu_again = c.read_again.ensures;
  apdu_or_fault = c.prefix_or_fault.ensures;
})
