-- Proves the contract of `DiskWithPast::flush_names` if memory runs out for the past: no names are flushed.
use Rattle.ill_disk.proofs.Moments.{no_change}
use Rattle.ill_disk.proofs.disk_with_past.DiskWithPastDisk.flush_names.Goals as goal

pub returns-in_err-keep : goal.returns-in_err-keep
returns-in_err-keep c = no_change c.from_residual.ensures.0 c.keep.ensures.whole c.in_err-keep.ensures.failed
