-- Proves the clause `bytes` of the law `laws::what_is_flushed_lasts`: a crash leaves the bytes of a flushed file.
use Rattle.ill_disk.proofs.Crashes.{flushes_last}
use Rattle.ill_disk.proofs.laws.what_is_flushed_lasts.Goals as goal

pub returns-clause-bytes : goal.returns-clause-bytes
returns-clause-bytes c path d found left = flushes_last path d found left
