-- Proves the clause `names` of the law `laws::each_flush_of_a_save_counts`: without the flush of names a crash may
-- leave what it might leave before the save.
use Rattle.ill_disk.proofs.Saves.{unflushed_names_return}
use Rattle.ill_disk.proofs.laws.each_flush_of_a_save_counts.Goals as goal

pub returns-clause-names : goal.returns-clause-names
returns-clause-names c temporary path bytes d found whole left = unflushed_names_return temporary path bytes d found whole left
