-- Proves the contract of `read_side` (`src/one_side.rt`).
-- Bytes that are read as a side are its encoding.
use Rattle.std.proofs.Common.{arith}
use Rattle.ill_record.specs.Records.{begins_as_record}
use Rattle.ill_record.proofs.Records.{decodes_encoded}
use Rattle.ill_saved.proofs.one_side.read_side.Goals as goal

-- The answer is the answer of decoding, and a side that it gives has the bytes as its encoding.
pub returns : goal.returns
returns c =
    let bytes = c.args.bytes.now in
    record {
      decodes = c.decode_record.ensures;
      encoded = decodes_encoded bytes (begins_as_record bytes) c.decode_record.result
          (λ side read. c.encoded.ensures.side bytes side (λ i. omega (arith, c.type_inv.bytes i)) read) c.decode_record.ensures;
    }
