-- Answers the contract of `Keeper::place` (`src/keeper.rt`).
use Rattle.ill_disk.specs.Disk.{after_flush, after_rename}
use Rattle.ill_disk.specs.Calls.{Changes, Creates}
use Rattle.ill_message_disk.proofs.Calling.{at_path, at_paths}
use Rattle.ill_message_disk.proofs.Kept.{beside_differs, create_leaves, flush_leaves, leaves_then, puts_nothing, rename_puts}
use Rattle.ill_message_disk.proofs.keeper.Keeper.place.Goals as goal

-- The new file failed, and nothing was put.
pub returns-in_err-create_new : goal.returns-in_err-create_new
returns-in_err-create_new g c = puts_nothing c.from_residual.ensures.0
    (create_leaves (beside_differs c.args.self.now c.temporary.ensures.beside) c.args.bytes.now
    (at_path (λ p. Creates p c.args.bytes.now) c.temporary.ensures.path c.create_new.ensures.creates))

-- The flush of the new file failed, and nothing was put.
pub returns-in_err-flush : goal.returns-in_err-flush
returns-in_err-flush g c = puts_nothing c.from_residual-in_err-flush.ensures.0
    (leaves_then (create_leaves (beside_differs c.args.self.now c.temporary.ensures.beside) c.args.bytes.now
    (at_path (λ p. Creates p c.args.bytes.now) c.temporary.ensures.path c.create_new.ensures.creates))
    (flush_leaves (beside_differs c.args.self.now c.temporary.ensures.beside)
    (at_path (λ p. Changes (after_flush p)) c.temporary-2.ensures.path c.flush.ensures.changes)))

-- The new file was flushed, and the rename over the file is done or failed.
pub returns : goal.returns
returns g c = rename_puts (beside_differs c.args.self.now c.temporary.ensures.beside)
    (at_path (λ p. Creates p c.args.bytes.now) c.temporary.ensures.path c.in_ok-create_new.ensures.creates)
    (at_path (λ p. Changes (after_flush p)) c.temporary-2.ensures.path c.in_ok-flush.ensures.changes)
    (at_paths (λ p q. Changes (after_rename p q)) c.temporary-3.ensures.path c.path.ensures c.rename.ensures.changes)
