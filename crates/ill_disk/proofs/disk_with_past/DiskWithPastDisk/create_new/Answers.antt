-- Proves the contract of `DiskWithPast::create_new` if memory runs out for the past: no file is made.
use Rattle.ill_disk.proofs.Moments.{no_file}
use Rattle.ill_disk.proofs.disk_with_past.DiskWithPastDisk.create_new.Goals as goal

pub returns-in_err-keep-clause-creates : goal.returns-in_err-keep-clause-creates
returns-in_err-keep-clause-creates c = no_file c.from_residual.ensures.0 c.keep.ensures.whole c.in_err-keep.ensures.failed
