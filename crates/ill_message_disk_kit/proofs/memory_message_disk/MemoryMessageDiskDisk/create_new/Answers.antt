-- Answers the contract of `create_new` of a disk in memory (`src/memory_message_disk.rt`).
use Rattle.std.proofs.Common.{◌≡◌, rules, subst, sym}
use Rattle.ill_disk.specs.Disk.{Disk, IsWhole, after_create}
use Rattle.ill_disk.specs.MemoryDisk.{lists_of}
use Rattle.ill_disk.proofs.Wholes.{create_whole}
use Rattle.ill_message_disk_kit.proofs.memory_message_disk.MemoryMessageDiskDisk.create_new.Goals as goal

-- The disk is whole after a new file is made.
pub invariant_of-self-2 : goal.invariant_of-self-2
invariant_of-self-2 c =
    let whole : IsWhole c.args.self.now = search rules in
    let after : Disk = record {
      files = c.push.new.self.items;
      names = c.in_ok-names.names.items;
      may_stand = lists_of c.in_ok-may_stand.may_stand.items;
    } in
    let is : after ≡ after_create c.args.path.now c.args.bytes.now c.args.self.now = search rules in
    subst IsWhole (sym is) (create_whole c.args.path.now c.args.bytes.now c.args.self.now whole)
