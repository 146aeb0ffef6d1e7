-- Proves two clauses of the law `laws::disks_stay_whole`: a whole disk stays whole if a file is made, or is flushed.
use Rattle.ill_disk.proofs.Wholes.{create_whole, flush_whole}
use Rattle.ill_disk.proofs.laws.disks_stay_whole.Goals as goal

pub returns-clause-created : goal.returns-clause-created
returns-clause-created c path bytes d whole = create_whole path bytes d whole

pub returns-clause-flushed : goal.returns-clause-flushed
returns-clause-flushed c path d whole = flush_whole path d whole
