-- Answers the contract of `Keeper::forget` (`src/keeper.rt`).
use Rattle.ill_message_disk.specs.MessageFileCalls.{Clears}
use Rattle.ill_message_disk.proofs.Calling.{at_path}
use Rattle.ill_message_disk.proofs.Kept.{clear_puts}
use Rattle.ill_message_disk.proofs.keeper.Keeper.forget.Goals as goal

-- `clear` was given the path of the file. By `clear_puts` None is put in the place of the file.
pub returns : goal.returns
returns g c = clear_puts c.args.self.now (at_path (λ p. Clears p) c.path.ensures c.clear.ensures)
