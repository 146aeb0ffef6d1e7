-- Answers the contract of `Keeper::clear_temporary` (`src/keeper.rt`).
use Rattle.ill_message_disk.specs.MessageFileCalls.{Clears}
use Rattle.ill_message_disk.proofs.Calling.{at_path}
use Rattle.ill_message_disk.proofs.Kept.{beside_differs, clear_leaves}
use Rattle.ill_message_disk.proofs.keeper.Keeper.clear_temporary.Goals as goal

-- `clear` was given the path beside the file. It is not the path of the file, so the file is left.
pub returns : goal.returns
returns g c = clear_leaves (beside_differs c.args.self.now c.temporary.ensures.beside)
    (at_path (λ p. Clears p) c.temporary.ensures.path c.clear.ensures)
