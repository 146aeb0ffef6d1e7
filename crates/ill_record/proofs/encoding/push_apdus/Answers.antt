-- Proves the contract of `push_apdus` (`src/encoding.rt`).
-- Each turn of the loop appends the encoding of the next APDU.
use Rattle.std.proofs.Common.{◌+◌, ◌≤◌, ◌++◌, length, drop, ap, sym, ◌∙◌, arith}
use Rattle.ill_values.specs.Apdu.{IsApdu}
use Rattle.ill_der.specs.ShortForm.{encoding}
use Rattle.ill_record.specs.Layout.{encode_all}
use Rattle.ill_record.proofs.Lists.{one_encoded, all_encoded, one_each, none_each}
use Rattle.ill_record.proofs.encoding.push_apdus.Goals as goal

-- One more turn of the loop keeps the invariant. It appends the encoding of the APDU `a` at `index`.
pub loop-apdu-preserved : goal.loop-apdu-preserved
loop-apdu-preserved c =
    let apdus = c.args.apdus.now in
    let index = c.loop-apdu.apdu-index in
    let a = c.apdu-item.result in
    let pushed = c.in_ok-encode_onto.ensures in
    record {
      bytes = ap (λ bytes. bytes ++ encode_all encoding (drop (index + 1) apdus)) pushed.encoded
          ∙ (one_encoded encoding c.loop-apdu.bytes.items apdus index a c.loop-apdu-test.true c.apdu-item.is
          ∙ c.loop-apdu.invariant.bytes);
      range = λ others. c.loop-apdu.invariant.range
          (one_each IsApdu apdus index a c.loop-apdu-test.true c.apdu-item.is pushed.range others);
    }

-- After the last APDU, the encodings of all are appended.
pub returns-clause-bytes : goal.returns-clause-bytes
returns-clause-bytes c =
    let all : length c.args.apdus.now ≤ c.loop-apdu.apdu-index = omega (arith, c.loop-apdu-test.false) in
    sym (all_encoded encoding c.loop-apdu.bytes.items c.args.apdus.now c.loop-apdu.apdu-index all) ∙ c.loop-apdu.invariant.bytes

-- After the last APDU, all APDUs are in range.
pub returns-clause-range : goal.returns-clause-range
returns-clause-range c =
    let all : length c.args.apdus.now ≤ c.loop-apdu.apdu-index = omega (arith, c.loop-apdu-test.false) in
    c.loop-apdu.invariant.range (none_each IsApdu c.args.apdus.now c.loop-apdu.apdu-index all)
