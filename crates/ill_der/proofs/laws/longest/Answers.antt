-- Proves the law `laws::longest`: an encoding has at most 359 bytes, and one encoding has 359.
-- Each field has at most the size of the corresponding field in `longest_apdu`.
use Rattle.ill_der.proofs.EncodingLaws.{encoded_most, longest_reached}
use Rattle.ill_der.proofs.laws.longest.Goals as goal

pub returns-clause-most : goal.returns-clause-most
returns-clause-most c = encoded_most (record {
  day_encoded = c.date_texts.ensures.encoded;
  day_read = c.date_texts.ensures.read;
  qualifier_size = c.text_sizes.ensures.qualifier;
  item_size = c.text_sizes.ensures.item;
})

pub returns-clause-reached : goal.returns-clause-reached
returns-clause-reached c = longest_reached
