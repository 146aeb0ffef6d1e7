-- The loop of `crash_files` (`src/memory_message_disk.rt`) keeps this invariant.
use Rattle.std.proofs.Common.{◌≡◌, map, take}
use Rattle.ill_disk.specs.MemoryDisk.{file_after_crash}
use Rattle.ill_message_disk_kit.proofs.memory_message_disk.crash_files.Given as goal

-- The files so far are as a crash leaves them.
abbrev pub invariant-loop-file : goal.invariant-loop-file
invariant-loop-file l = l.after.items ≡ map file_after_crash (take l.file-index l.files)
