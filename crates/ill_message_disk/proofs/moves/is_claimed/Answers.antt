-- Answers the contract of `is_claimed` (`src/moves.rt`).
use Rattle.ill_message_disk.proofs.Calling.{tells_at}
use Rattle.ill_message_disk.proofs.moves.is_claimed.Goals as goal

-- `stands_at` looked at the claimed path for the file of the message file.
pub returns-clause-tells : goal.returns-clause-tells
returns-clause-tells g c = tells_at c.claimed.ensures c.file.ensures.number c.stands_at.ensures
