-- The loop of `add_names` (`src/memory_message_disk.rt`) keeps this invariant.
use Rattle.std.proofs.Common.{◌≡◌, ◌++◌, take}
use Rattle.ill_message_disk_kit.proofs.memory_message_disk.add_names.Given as goal

-- `all` has the names that it had at first, and then the names so far.
abbrev pub invariant-loop-name : goal.invariant-loop-name
invariant-loop-name l = l.all.items ≡ l.initial.all.items ++ take l.name-index l.names
