-- Answers the contract of `one_message` (`src/message.rt`).
use Rattle.std.proofs.Common.{rules, ◌+◌, ◌≤◌, length}
use Rattle.ill_der.specs.ShortForm.{apdu_at}
use Rattle.ill_night.proofs.MessageFilesLemmas.{trailing_unfit}
use Rattle.ill_night.proofs.message.one_message.Goals as goal

-- Proves the contract of `one_message` if bytes follow the APDU. By `trailing_unfit` the fault is `Trailing`.
pub returns-else-size-bytes : goal.returns-else-size-bytes
returns-else-size-bytes c =
    let bytes = c.args.bytes.now in
    let less : c.in-Ok.size + 1 ≤ length bytes = search rules in
    trailing_unfit bytes (apdu_at bytes) (c.in-Ok.apdu, c.in-Ok.size) less c.in-Ok.ensures.read
