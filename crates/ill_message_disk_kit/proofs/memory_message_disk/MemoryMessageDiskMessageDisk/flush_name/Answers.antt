-- Answers the contract of `flush_name` of a disk in memory (`src/memory_message_disk.rt`).
use Rattle.std.proofs.Common.{◌≡◌, rules, subst, sym}
use Rattle.ill_disk.specs.Disk.{Disk, IsWhole}
use Rattle.ill_disk.specs.MemoryDisk.{lists_of}
use Rattle.ill_message_disk.specs.MessageFileCalls.{after_flush_name}
use Rattle.ill_message_disk_kit.proofs.MemoryMessageFiles.{flush_name_whole}
use Rattle.ill_message_disk_kit.proofs.memory_message_disk.MemoryMessageDiskMessageDisk.flush_name.Goals as goal

-- The disk is whole after one of its names is flushed.
pub invariant_of-self : goal.invariant_of-self
invariant_of-self c =
    let whole : IsWhole c.args.self.now = search rules in
    let after : Disk = record {
      files = c.self.inside.files.items;
      names = c.in_ok-names.names.items;
      may_stand = lists_of c.add_changed.new.all.items;
    } in
    let is : after ≡ after_flush_name c.args.path.now c.args.self.now = search rules in
    subst IsWhole (sym is) (flush_name_whole c.args.path.now c.args.self.now whole)
