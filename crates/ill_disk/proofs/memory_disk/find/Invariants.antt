-- The loop of `find` (`src/memory_disk.rt`) keeps this invariant.
use Rattle.std.proofs.Common.{◌≡◌, drop}
use Rattle.ill_disk.specs.Disk.{found_at}
use Rattle.ill_disk.proofs.memory_disk.find.Given as goal

-- The names from `name-index` on give at `path` what all names give, since no name before is at `path`.
abbrev pub invariant-loop-name : goal.invariant-loop-name
invariant-loop-name l = found_at l.path (drop l.name-index l.names) ≡ found_at l.path l.names
