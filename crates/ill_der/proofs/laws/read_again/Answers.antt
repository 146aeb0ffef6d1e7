-- Proves the law `laws::read_again`: an APDU is read from its encoding, whatever follows.
-- Each field is read from its encoding, and the next field or the end follows it.
use Rattle.ill_der.proofs.ShortFormLaws.{apdu_again}
use Rattle.ill_der.proofs.laws.read_again.Goals as goal

pub returns : goal.returns
returns c = apdu_again (record {
  day_encoded = c.date_texts.ensures.encoded;
  day_read = c.date_texts.ensures.read;
  qualifier_size = c.text_sizes.ensures.qualifier;
  item_size = c.text_sizes.ensures.item;
})
