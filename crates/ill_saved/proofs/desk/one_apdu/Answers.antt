-- Proves the contract of `one_apdu` (`src/desk.rt`).
-- If the APDU is shorter than the bytes, other bytes follow it.
use Rattle.std.proofs.Common.{rules, ◌+◌, ◌≤◌, length}
use Rattle.ill_der.specs.ShortForm.{apdu_at}
use Rattle.ill_saved.proofs.Desks.{trailing_alone}
use Rattle.ill_saved.proofs.desk.one_apdu.Goals as goal

-- If the APDU ends before the bytes do, `Trailing` is an answer that `IsOneApdu` allows.
pub returns-else-size-bytes : goal.returns-else-size-bytes
returns-else-size-bytes c =
    let bytes = c.args.bytes.now in
    let less : c.in_ok-size.field-0.1 + 1 ≤ length bytes = search rules in
    trailing_alone bytes (apdu_at bytes) c.in_ok-size.field-0 less c.in_ok-size.ensures.read
