-- The loop of `add_without` (`src/memory_disk.rt`) keeps this invariant.
use Rattle.std.proofs.Common.{◌≡◌, ◌++◌, drop}
use Rattle.ill_disk.specs.Disk.{without}
use Rattle.ill_disk.proofs.memory_disk.add_without.Given as goal

-- `all`, followed by the names from `name-index` on without `path`, is what `all` has to be at the end.
abbrev pub invariant-loop-name : goal.invariant-loop-name
invariant-loop-name l = l.all.items ++ without l.path (drop l.name-index l.names) ≡ l.initial.all.items ++ without l.path l.names
