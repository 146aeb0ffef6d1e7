-- Answers the contract of `Keeper::keep` (`src/keeper.rt`).
use Rattle.ill_disk.specs.Calls.{Changes}
use Rattle.ill_message_disk.specs.MessageFileCalls.{after_flush_name}
use Rattle.ill_message_disk.proofs.Calling.{at_path}
use Rattle.ill_message_disk.proofs.Kept.{look_leaves, name_leaves, leaves_then, puts_after, puts_before, puts_failed}
use Rattle.ill_message_disk.proofs.Kept.{puts_nothing}
use Rattle.ill_message_disk.proofs.keeper.Keeper.keep.Goals as goal

-- The look failed, and nothing was put.
pub returns-in_err-look_up : goal.returns-in_err-look_up
returns-in_err-look_up g c = puts_nothing c.from_residual.ensures.0 (look_leaves c.look_up.ensures)

-- What stands beside the file could not be removed, and nothing was put.
pub returns-in_err-clear_temporary : goal.returns-in_err-clear_temporary
returns-in_err-clear_temporary g c = puts_nothing c.from_residual-in_err-clear_temporary.ensures.0
    (leaves_then (look_leaves c.look_up.ensures) c.clear_temporary.ensures)

-- The bytes were put, and the flush of the name, done or failed, leaves the file.
pub returns-in-Ok : goal.returns-in-Ok
returns-in-Ok g c = puts_before c.flush_name.result
    (puts_after (leaves_then (look_leaves c.look_up.ensures) c.clear_temporary.ensures) c.in-Ok.ensures)
    (name_leaves (at_path (λ p. Changes (after_flush_name p)) c.path-in-Ok.ensures c.flush_name.ensures))

-- The bytes could not be put, and the removal of what stands beside the file leaves the file.
pub returns-in-Err : goal.returns-in-Err
returns-in-Err g c = puts_failed
    (puts_after (leaves_then (look_leaves c.look_up.ensures) c.clear_temporary.ensures) c.in-Err.ensures)
    c.clear_temporary-in-Err.ensures
