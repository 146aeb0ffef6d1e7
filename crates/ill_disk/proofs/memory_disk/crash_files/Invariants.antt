-- The loop of `crash_files` (`src/memory_disk.rt`) keeps this invariant.
use Rattle.std.proofs.Common.{◌≡◌, map, take}
use Rattle.ill_disk.specs.MemoryDisk.{file_after_crash}
use Rattle.ill_disk.proofs.memory_disk.crash_files.Given as goal

-- `after` is `file_after_crash` of the first `file-index` of `files`.
abbrev pub invariant-loop-file : goal.invariant-loop-file
invariant-loop-file l = l.after.items ≡ map file_after_crash (take l.file-index l.files)
