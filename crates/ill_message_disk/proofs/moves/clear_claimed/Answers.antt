-- Answers the contract of `clear_claimed` (`src/moves.rt`).
use Rattle.ill_message_disk.proofs.Calling.{at_path}
use Rattle.ill_message_disk.specs.MessageFileCalls.{Clears}
use Rattle.ill_message_disk.proofs.moves.clear_claimed.Goals as goal

-- The path that `clear` was given is the claimed one.
pub returns : goal.returns
returns g c = at_path (λ p. Clears p) c.claimed.ensures c.clear.ensures
