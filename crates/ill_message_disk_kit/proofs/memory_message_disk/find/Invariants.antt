-- The loop of `find` (`src/memory_message_disk.rt`) keeps this invariant.
use Rattle.std.proofs.Common.{◌≡◌, drop}
use Rattle.ill_disk.specs.Disk.{found_at}
use Rattle.ill_message_disk_kit.proofs.memory_message_disk.find.Given as goal

-- No name so far is at the path. So a search of the names that are left finds what a search of all finds.
abbrev pub invariant-loop-name : goal.invariant-loop-name
invariant-loop-name l = found_at l.path (drop l.name-index l.names) ≡ found_at l.path l.names
