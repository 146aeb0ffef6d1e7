-- Proves the contract of `decode_record2` (`src/decoding_v2.rt`).
-- The check of the version and the digest takes no memory.
use Rattle.std.proofs.Common.{rules, ◌≡◌, false}
use Rattle.ill_record.specs.RecordsV2.{is_version_1}
use Rattle.ill_record.proofs.Together.{unsealed_not}
use Rattle.ill_record.proofs.decoding_v2.decode_record2.Goals as goal

-- A fault of the version or the digest is the fault of the record.
pub returns-in_err-unsealed : goal.returns-in_err-unsealed
returns-in_err-unsealed c =
    let another : is_version_1 c.args.bytes.now ≡ false = search rules in
    search (rules, unsealed_not c.args.bytes.now c.in_err-unsealed.field-0.0 another c.in_err-unsealed.ensures.fault)
