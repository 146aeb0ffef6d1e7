-- The loop of `copy_files` (`src/memory_disk.rt`) keeps this invariant.
use Rattle.std.proofs.Common.{◌≡◌, take}
use Rattle.ill_disk.proofs.memory_disk.copy_files.Given as goal

-- `copies` is the first `file-index` of `files`.
abbrev pub invariant-loop-file : goal.invariant-loop-file
invariant-loop-file l = l.copies.items ≡ take l.file-index l.files
