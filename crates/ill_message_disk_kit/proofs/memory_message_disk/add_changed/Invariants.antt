-- The loop of `add_changed` (`src/memory_message_disk.rt`) keeps this invariant.
use Rattle.std.proofs.Common.{◌≡◌, ◌++◌, map, take}
use Rattle.ill_disk.specs.MemoryDisk.{lists_of}
use Rattle.ill_message_disk_kit.specs.MemoryMessageFiles.{names_after}
use Rattle.ill_message_disk_kit.proofs.memory_message_disk.add_changed.Given as goal

-- `all` has the lists that it had at first, and then each list so far, with the change.
abbrev pub invariant-loop-names : goal.invariant-loop-names
invariant-loop-names l = lists_of l.all.items
    ≡ lists_of l.initial.all.items ++ map (names_after l.change) (lists_of (take l.names-index l.lists))
