-- Answers the contract of `place` (`src/whole.rt`): for each call that may fail, and for the rename, both clauses.
use Rattle.ill_store.proofs.DiskSaves.{making_fails, flushing_fails, placing_ends}
use Rattle.ill_message_disk.proofs.Kept.{create_leaves, flush_leaves, leaves_then, puts_nothing, rename_puts}
use Rattle.ill_message_disk.proofs.whole.place.Goals as goal

-- The new file failed: a crash leaves what stood at the path.
pub returns-in_err-create_new-clause-places : goal.returns-in_err-create_new-clause-places
returns-in_err-create_new-clause-places g c differ =
    making_fails differ c.create_new.ensures.creates c.from_residual.ensures.0

-- The new file failed: nothing was put at the path.
pub returns-in_err-create_new-clause-puts : goal.returns-in_err-create_new-clause-puts
returns-in_err-create_new-clause-puts g c differ =
    puts_nothing c.from_residual.ensures.0 (create_leaves differ c.args.bytes.now c.create_new.ensures.creates)

-- The flush failed: a crash leaves what stood at the path.
pub returns-in_err-flush-clause-places : goal.returns-in_err-flush-clause-places
returns-in_err-flush-clause-places g c differ = flushing_fails differ c.in_ok-create_new.ensures.creates
    c.flush.ensures.changes c.from_residual-in_err-flush.ensures.0

-- The flush failed: nothing was put at the path.
pub returns-in_err-flush-clause-puts : goal.returns-in_err-flush-clause-puts
returns-in_err-flush-clause-puts g c differ = puts_nothing c.from_residual-in_err-flush.ensures.0
    (leaves_then (create_leaves differ c.args.bytes.now c.create_new.ensures.creates)
    (flush_leaves differ c.flush.ensures.changes))

-- The rename is done or failed: a crash leaves what stood at the path, or all bytes.
pub returns-clause-places : goal.returns-clause-places
returns-clause-places g c differ = placing_ends differ c.in_ok-create_new.ensures.creates c.in_ok-flush.ensures.changes
    c.rename.ensures.changes

-- The rename is done or failed: the bytes were put, or nothing was.
pub returns-clause-puts : goal.returns-clause-puts
returns-clause-puts g c differ = rename_puts differ c.in_ok-create_new.ensures.creates c.in_ok-flush.ensures.changes
    c.rename.ensures.changes
