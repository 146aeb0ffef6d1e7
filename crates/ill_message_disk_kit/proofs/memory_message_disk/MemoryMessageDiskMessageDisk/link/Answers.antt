-- Answers what `change` requires in `link` of a disk in memory (`src/memory_message_disk.rt`).
use Rattle.std.proofs.Common.{◌≡◌, rules, sym, subst, ◌<◌, length, Some}
use Rattle.ill_disk.specs.Disk.{Disk, found_at}
use Rattle.ill_disk.proofs.Wholes.{found_made}
use Rattle.ill_message_disk_kit.proofs.memory_message_disk.MemoryMessageDiskMessageDisk.link.Goals as goal

-- The file that stands at `from` was made, since the disk is whole.
pub change-requires : goal.change-requires
change-requires c =
    let found : found_at c.args.from.now c.args.self.now.names ≡ Some c.in-Some.file = search rules in
    subst (λ (d : Disk). c.in-Some.file < length d.files) (sym c.burn.ensures.same)
    (found_made c.args.self.now c.args.from.now c.in-Some.file c.burn.ensures.whole found)
