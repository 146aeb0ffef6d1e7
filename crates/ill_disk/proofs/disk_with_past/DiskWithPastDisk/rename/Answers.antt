-- Proves the contract of `DiskWithPast::rename` if memory runs out for the past: nothing is renamed.
use Rattle.ill_disk.proofs.Moments.{no_change}
use Rattle.ill_disk.proofs.disk_with_past.DiskWithPastDisk.rename.Goals as goal

pub returns-in_err-keep-clause-changes : goal.returns-in_err-keep-clause-changes
returns-in_err-keep-clause-changes c = no_change c.from_residual.ensures.0 c.keep.ensures.whole c.in_err-keep.ensures.failed
