-- Proves the law `laws::no_crash_is_bad`: no disk that a crash may leave is one of the bad cases.
use Rattle.ill_disk.proofs.BadDisk.{none_bad}
use Rattle.ill_disk.proofs.laws.no_crash_is_bad.Goals as goal

pub returns : goal.returns
returns c before after crash bad = none_bad before after crash bad
