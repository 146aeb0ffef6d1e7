-- Proves the contract of `save` (`src/lasting.rt`). At whichever call it ends, the disk has the old record or the new
-- one.
use Rattle.std.proofs.Common.{refl}
use Rattle.ill_store.proofs.DiskSaves.{early_save_fails, look_up_has_kept, remove_has_kept, save_fails, save_ends}
use Rattle.ill_store.proofs.lasting.save.Goals as goal

-- The look-up failed.
pub returns-in_err-look_up : goal.returns-in_err-look_up
returns-in_err-look_up g c = early_save_fails c.from_residual.ensures.0 (look_up_has_kept c.look_up.ensures)

-- The removal of what an earlier save left at `temporary` failed.
pub returns-in-Err : goal.returns-in-Err
returns-in-Err g c = early_save_fails refl
    (remove_has_kept c.requires (look_up_has_kept c.look_up.ensures) c.remove.ensures.changes)

-- The new record was placed. The answer is that of the flush of the names.
pub returns-in-Ok-place : goal.returns-in-Ok-place
returns-in-Ok-place g c = save_ends c.requires
    (remove_has_kept c.requires (look_up_has_kept c.look_up.ensures) c.remove.ensures.changes) c.in-Ok-place.ensures
    c.flush_names.ensures

-- The placing failed. What stands at `temporary` was then removed, or was not.
pub returns-in-Err-place : goal.returns-in-Err-place
returns-in-Err-place g c = save_fails c.requires
    (remove_has_kept c.requires (look_up_has_kept c.look_up.ensures) c.remove.ensures.changes) c.in-Err-place.ensures
    c.remove-in-Err-place.ensures.changes
