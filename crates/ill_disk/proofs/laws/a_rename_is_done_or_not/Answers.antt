-- Proves the clause `never_half` of the law `laws::a_rename_is_done_or_not`: no names after a rename are half renamed.
use Rattle.ill_disk.proofs.BadDisk.{none_half}
use Rattle.ill_disk.proofs.laws.a_rename_is_done_or_not.Goals as goal

pub returns-clause-never_half : goal.returns-clause-never_half
returns-clause-never_half c from to file names differ half = none_half from to file names differ half
