-- States the loop invariant of `push_apdus` (`src/encoding.rt`).
use Rattle.std.proofs.Common.{◌≡◌, ◌++◌, drop}
use Rattle.ill_values.specs.Apdu.{IsApdu}
use Rattle.ill_der.specs.ShortForm.{encoding}
use Rattle.ill_record.specs.Layout.{encode_all}
use Rattle.ill_record.specs.Ranges.{Each}
use Rattle.ill_record.proofs.encoding.push_apdus.Given as goal

-- The bytes so far, followed by the encodings of the APDUs from `apdu-index` on, are the whole encoding.
-- If the APDUs from `apdu-index` on are in range, all APDUs are in range.
abbrev pub invariant-loop-apdu : goal.invariant-loop-apdu
invariant-loop-apdu l = record {
  bytes : l.bytes.items ++ encode_all encoding (drop l.apdu-index l.apdus) ≡ l.fn.bytes.items ++ encode_all encoding l.apdus;
  range : Each IsApdu (drop l.apdu-index l.apdus) → Each IsApdu l.apdus;
}
