-- Proves that the call of `change` in `rename` may be made: the file that is found on a whole disk was made.
use Rattle.std.proofs.Common.{◌≡◌, rules, Some}
use Rattle.ill_disk.specs.Disk.{IsWhole, found_at}
use Rattle.ill_disk.proofs.Wholes.{found_made}
use Rattle.ill_disk.proofs.memory_disk.MemoryDiskDisk.rename.Goals as goal

pub change-requires : goal.change-requires
change-requires c =
    let whole : IsWhole c.args.self.now = search rules in
    let found : found_at c.args.from.now c.args.self.now.names ≡ Some c.in-Some.file = search rules in
    found_made c.args.self.now c.args.from.now c.in-Some.file whole found
