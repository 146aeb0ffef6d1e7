-- Answers the contract of `MemoryMessageDisk::after_crash` (`src/memory_message_disk.rt`).
use Rattle.std.proofs.Common.{◌≡◌, [], ◌∷◌, map, rules, slice_get, Some}
use Rattle.ill_disk.specs.Disk.{Disk, IsWhole}
use Rattle.ill_disk.specs.MemoryDisk.{file_after_crash, lists_of}
use Rattle.ill_disk.proofs.Wholes.{crash_whole}
use Rattle.ill_disk.proofs.Memory.{memory_crash}
use Rattle.ill_message_disk_kit.proofs.memory_message_disk.MemoryMessageDisk.after_crash.Goals as goal

-- The disk that a crash leaves of a whole disk is whole.
pub invariant_of-result : goal.invariant_of-result
invariant_of-result c =
    let stands : slice_get c.args.self.now.may_stand c.args.which ≡ Some c.in_ok-names.names.items = search rules in
    let files : c.in_ok-crash_files.field-0.items ≡ map file_after_crash c.args.self.now.files = search rules in
    let only : lists_of c.in_ok-one_list.field-0.items ≡ c.in_ok-names.names.items ∷ [] = search rules in
    let whole : IsWhole c.args.self.now = search rules in
    let after : Disk = record {
      files = c.in_ok-crash_files.field-0.items;
      names = c.in_ok-names.names.items;
      may_stand = lists_of c.in_ok-one_list.field-0.items;
    } in
    crash_whole c.args.self.now after (memory_crash c.args.self.now after c.args.which stands only files) whole

-- The list of names may stand, and the files are as a crash leaves them.
pub returns-clause-crash : goal.returns-clause-crash
returns-clause-crash c =
    let stands : slice_get c.args.self.now.may_stand c.args.which ≡ Some c.in_ok-names.names.items = search rules in
    let files : c.in_ok-crash_files.field-0.items ≡ map file_after_crash c.args.self.now.files = search rules in
    let only : lists_of c.in_ok-one_list.field-0.items ≡ c.in_ok-names.names.items ∷ [] = search rules in
    memory_crash c.args.self.now (record {
      files = c.in_ok-crash_files.field-0.items;
      names = c.in_ok-names.names.items;
      may_stand = lists_of c.in_ok-one_list.field-0.items;
    }) c.args.which stands only files
