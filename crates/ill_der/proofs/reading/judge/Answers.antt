-- Proves the contract of `reading::judge`: the result is the APDU of bytes that lack no byte, or their fault.
-- The proper prefixes are unfinished, so an APDU with which the bytes begin has all of them.
use Rattle.std.proofs.Common.{arith}
use Rattle.ill_der.proofs.ContentsLaws.{Values}
use Rattle.ill_der.proofs.StreamLemmas.{encoded_exactly}
use Rattle.ill_der.proofs.MissingLemmas.{judged_error}
use Rattle.ill_der.proofs.reading.judge.Goals as goal

-- If decoding gives an APDU, all of `bytes` is its encoding.
pub returns : goal.returns
returns c =
    let values : Values = record {
      day_encoded = c.date_texts.ensures.encoded;
      day_read = c.date_texts.ensures.read;
      qualifier_size = c.text_sizes.ensures.qualifier;
      item_size = c.text_sizes.ensures.item;
    } in
    encoded_exactly values c.args.bytes.now (c.in_ok-apdu.apdu, c.in_ok-apdu.field-0-1) (λ i. omega (arith, c.type_inv.bytes i))
    c.requires.unfinished c.in_ok-apdu.ensures.read

-- If decoding has a fault, the result is `read_fault` of it, which is right for `bytes`.
pub returns-in_err-apdu : goal.returns-in_err-apdu
returns-in_err-apdu c =
    let values : Values = record {
      day_encoded = c.date_texts.ensures.encoded;
      day_read = c.date_texts.ensures.read;
      qualifier_size = c.text_sizes.ensures.qualifier;
      item_size = c.text_sizes.ensures.item;
    } in
    judged_error values c.args.bytes.now c.in_err-apdu.field-0.0 c.from_residual.result (λ i. omega (arith, c.type_inv.bytes i))
    c.requires.unfinished c.requires.enough c.in_err-apdu.ensures.read c.from_residual.ensures.1
