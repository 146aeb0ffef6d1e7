-- Proves the law `laws::prefix_or_fault`: bytes begin with exactly one APDU, or have a fault.
-- Bytes that are read as an APDU are its encoding, and each encoding is read as its APDU.
use Rattle.ill_der.proofs.EncodingLaws.{prefix_or_fault}
use Rattle.ill_der.proofs.laws.prefix_or_fault.Goals as goal

pub returns : goal.returns
returns c = prefix_or_fault (record {
  day_encoded = c.date_texts.ensures.encoded;
  day_read = c.date_texts.ensures.read;
  qualifier_size = c.text_sizes.ensures.qualifier;
  item_size = c.text_sizes.ensures.item;
})
