-- Answers the contract of `MemoryMessageDisk::change` (`src/memory_message_disk.rt`).
use Rattle.std.proofs.Common.{◌≡◌, rules, subst, sym}
use Rattle.ill_disk.specs.Disk.{Disk, IsWhole, after_change}
use Rattle.ill_disk.specs.MemoryDisk.{lists_of}
use Rattle.ill_message_disk_kit.specs.MemoryMessageFiles.{names_after}
use Rattle.ill_message_disk_kit.proofs.MemoryMessageFiles.{change_by_whole}
use Rattle.ill_message_disk_kit.proofs.memory_message_disk.MemoryMessageDisk.change.Goals as goal

-- The disk is whole after a change by a file that was made.
pub invariant_of-self : goal.invariant_of-self
invariant_of-self c =
    let whole : IsWhole c.args.self.now = search rules in
    let after : Disk = record {
      files = c.self.inside.files.items;
      names = c.in_ok-names.names.items;
      may_stand = lists_of c.in_ok-self-inside.field-0.items;
    } in
    let is : after ≡ after_change (names_after c.args.change) c.args.self.now = search rules in
    subst IsWhole (sym is) (change_by_whole c.args.change c.args.self.now c.requires whole)
