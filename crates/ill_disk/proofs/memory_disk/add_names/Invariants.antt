-- The loop of `add_names` (`src/memory_disk.rt`) keeps this invariant.
use Rattle.std.proofs.Common.{◌≡◌, ◌++◌, take}
use Rattle.ill_disk.proofs.memory_disk.add_names.Given as goal

-- `all` is the names that it had, followed by the first `name-index` of `names`.
abbrev pub invariant-loop-name : goal.invariant-loop-name
invariant-loop-name l = l.all.items ≡ l.initial.all.items ++ take l.name-index l.names
