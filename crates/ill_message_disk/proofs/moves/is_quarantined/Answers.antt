-- Answers the contract of `is_quarantined` (`src/moves.rt`).
use Rattle.ill_message_disk.proofs.Calling.{tells_at}
use Rattle.ill_message_disk.proofs.moves.is_quarantined.Goals as goal

-- `stands_at` looked at the path in quarantine for the file of the message file.
pub returns : goal.returns
returns g c = tells_at c.quarantined.ensures c.file.ensures.number c.stands_at.ensures
