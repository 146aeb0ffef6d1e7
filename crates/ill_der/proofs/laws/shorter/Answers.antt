-- Proves the law `laws::shorter`: the encoding of an APDU that is no ILL-Request has at most 162 bytes.
-- Each field has at most the size of the corresponding field in `longest_other`, whose encoding has 162 bytes.
use Rattle.ill_der.proofs.EncodingLaws.{encoded_shorter, shorter_reached}
use Rattle.ill_der.proofs.laws.shorter.Goals as goal

pub returns-clause-most : goal.returns-clause-most
returns-clause-most c = encoded_shorter (record {
  day_encoded = c.date_texts.ensures.encoded;
  day_read = c.date_texts.ensures.read;
  qualifier_size = c.text_sizes.ensures.qualifier;
  item_size = c.text_sizes.ensures.item;
})

pub returns-clause-reached : goal.returns-clause-reached
returns-clause-reached c = shorter_reached
