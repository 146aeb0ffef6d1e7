-- The loop of `add_changed` (`src/memory_disk.rt`) keeps this invariant.
use Rattle.std.proofs.Common.{◌≡◌, ◌++◌, map, take}
use Rattle.ill_disk.specs.MemoryDisk.{lists_of, names_after}
use Rattle.ill_disk.proofs.memory_disk.add_changed.Given as goal

-- `all` is the lists that it had, followed by the first `names-index` of `lists`, each after `change`.
abbrev pub invariant-loop-names : goal.invariant-loop-names
invariant-loop-names l = lists_of l.all.items
    ≡ lists_of l.initial.all.items ++ map (names_after l.change) (lists_of (take l.names-index l.lists))
