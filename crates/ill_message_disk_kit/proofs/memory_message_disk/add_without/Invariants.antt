-- The loop of `add_without` (`src/memory_message_disk.rt`) keeps this invariant.
use Rattle.std.proofs.Common.{◌≡◌, ◌++◌, drop}
use Rattle.ill_disk.specs.Disk.{without}
use Rattle.ill_message_disk_kit.proofs.memory_message_disk.add_without.Given as goal

-- The names that were added and those that are left are together all that are to be added.
abbrev pub invariant-loop-name : goal.invariant-loop-name
invariant-loop-name l = l.all.items ++ without l.path (drop l.name-index l.names) ≡ l.initial.all.items ++ without l.path l.names
