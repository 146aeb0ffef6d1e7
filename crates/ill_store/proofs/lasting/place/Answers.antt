-- Proves the contract of `place` (`src/lasting.rt`). At whichever call it ends, the disk has the old record or the new
-- one.
use Rattle.ill_store.proofs.DiskSaves.{making_fails, flushing_fails, placing_ends}
use Rattle.ill_store.proofs.lasting.place.Goals as goal

-- The making of the new file failed.
pub returns-in_err-create_new : goal.returns-in_err-create_new
returns-in_err-create_new g c = making_fails c.requires c.create_new.ensures.creates c.from_residual.ensures.0

-- The new file was made, and its flush failed.
pub returns-in_err-flush : goal.returns-in_err-flush
returns-in_err-flush g c = flushing_fails c.requires c.in_ok-create_new.ensures.creates c.flush.ensures.changes
    c.from_residual-in_err-flush.ensures.0

-- The new file was made and flushed. The answer is that of the rename.
pub returns : goal.returns
returns g c = placing_ends c.requires c.in_ok-create_new.ensures.creates c.in_ok-flush.ensures.changes c.rename.ensures.changes
