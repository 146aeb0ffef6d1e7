-- The loop of `add_lists` (`src/memory_disk.rt`) keeps this invariant.
use Rattle.std.proofs.Common.{◌≡◌, ◌++◌, take}
use Rattle.ill_disk.specs.MemoryDisk.{lists_of}
use Rattle.ill_disk.proofs.memory_disk.add_lists.Given as goal

-- `all` is the lists that it had, followed by the first `names-index` of `lists`.
abbrev pub invariant-loop-names : goal.invariant-loop-names
invariant-loop-names l = lists_of l.all.items ≡ lists_of l.initial.all.items ++ lists_of (take l.names-index l.lists)
