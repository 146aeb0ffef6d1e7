-- Proves the contract of `memory_disk::flush_at`: the files are those of `flush_found`.
use Rattle.ill_disk.proofs.Memory.{flush_sets, flush_past}
use Rattle.ill_disk.proofs.memory_disk.flush_at.Goals as goal

-- If `file` is a place of `files`, the file there is replaced by itself, flushed.
pub returns-then-file-files : goal.returns-then-file-files
returns-then-file-files c =
    flush_sets c.args.files.now c.args.file c.index-files-file.result c.flush.new.self c.if-file-files.true c.flush.ensures

-- If `file` is no place of `files`, nothing changes.
pub returns-else-file-files : goal.returns-else-file-files
returns-else-file-files c = flush_past c.args.files.now c.args.file c.if-file-files.false
