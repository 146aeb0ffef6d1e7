-- Proves the law `laws::short_has_the_size`: the number in Short is the number of the bytes, at most 358.
-- Only the header and the check of its size return Short, and an APDU has at most 359 bytes.
use Rattle.std.proofs.Common.{arith}
use Rattle.ill_der.proofs.ContentsLaws.{Values}
use Rattle.ill_der.proofs.ShortFormLaws.{apdu_short}
use Rattle.ill_der.proofs.laws.short_has_the_size.Goals as goal

pub returns : goal.returns
returns c bytes n e =
    let values : Values = record {
      day_encoded = c.date_texts.ensures.encoded;
      day_read = c.date_texts.ensures.read;
      qualifier_size = c.text_sizes.ensures.qualifier;
      item_size = c.text_sizes.ensures.item;
    } in
    let short = apdu_short values bytes n e in
    (short.0, omega (arith, short.0, short.1))
