-- Proves the law `laws::a_save_is_old_or_new`: a crash during a save leaves an old record or the new one.
-- A crash after the save leaves the new one.
use Rattle.ill_disk.proofs.Saves.{save_moments, save_lasts}
use Rattle.ill_disk.proofs.laws.a_save_is_old_or_new.Goals as goal

pub returns-clause-moments : goal.returns-clause-moments
returns-clause-moments c temporary path bytes d moment found whole differ on_way left =
    save_moments temporary path bytes d whole differ moment on_way found left

pub returns-clause-lasts : goal.returns-clause-lasts
returns-clause-lasts c temporary path bytes d found whole differ left = save_lasts temporary path bytes d whole differ found left
