-- Answers the contract of `flush_at` (`src/memory_message_disk.rt`).
use Rattle.ill_disk.proofs.Memory.{flush_sets, flush_past}
use Rattle.ill_message_disk_kit.proofs.memory_message_disk.flush_at.Goals as goal

-- The file was made, and is flushed.
pub returns-then-file-files : goal.returns-then-file-files
returns-then-file-files c =
    flush_sets c.args.files.now c.args.file c.index-files-file.result c.flush.new.self c.if-file-files.true c.flush.ensures

-- The file was not made, and no file changes.
pub returns-else-file-files : goal.returns-else-file-files
returns-else-file-files c = flush_past c.args.files.now c.args.file c.if-file-files.false
