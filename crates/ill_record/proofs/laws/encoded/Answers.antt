-- Proves the contract of `encoded` (`src/laws.rt`).
-- Each field accepts only the encoding of the value that it reads.
use Rattle.ill_record.proofs.Fields.{Below}
use Rattle.ill_record.proofs.RecordLaws.{side_takes, record_takes}
use Rattle.ill_record.proofs.laws.encoded.Goals as goal

-- Bytes that are read as a side are its encoding. `below` has the laws of the crates below that this needs.
pub returns : goal.returns
returns c =
    let below : Below = record {
      day_encoded = c.date_texts.ensures.encoded;
      day_read = c.date_texts.ensures.read;
      text_size = c.text_sizes.ensures.qualifier;
      apdu_again = c.read_again.ensures;
      apdu_or_fault = c.prefix_or_fault.ensures;
    } in
    record { side = record_takes below; layout = side_takes below }
