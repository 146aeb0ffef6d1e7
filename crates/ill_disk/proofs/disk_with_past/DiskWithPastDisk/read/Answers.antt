-- Proves the contract of `DiskWithPast::read` if memory runs out for the past: nothing is read.
use Rattle.ill_disk.proofs.Moments.{no_read}
use Rattle.ill_disk.proofs.disk_with_past.DiskWithPastDisk.read.Goals as goal

pub returns-in_err-keep-clause-reads : goal.returns-in_err-keep-clause-reads
returns-in_err-keep-clause-reads c = no_read c.from_residual.ensures.0 c.keep.ensures.whole c.in_err-keep.ensures.failed
