-- Proves the clauses of `load` (`src/lasting.rt`). At whichever call it ends, the record is kept.
use Rattle.ill_store.proofs.DiskSaves.{read_has_kept, flush_has_kept, names_have_kept, load_fails, no_record_loads}
use Rattle.ill_store.proofs.DiskSaves.{record_loads}
use Rattle.ill_store.proofs.lasting.load.Goals as goal

-- The read failed.
pub returns-in_err-read-clause-loads : goal.returns-in_err-read-clause-loads
returns-in_err-read-clause-loads g c = load_fails c.from_residual.ensures.0 (read_has_kept c.read.ensures.reads)

-- The read gave no record, and the flush of the names failed.
pub returns-in_err-flush_names-in-None-clause-loads : goal.returns-in_err-flush_names-in-None-clause-loads
returns-in_err-flush_names-in-None-clause-loads g c = load_fails c.from_residual-in_err-flush_names-in-None.ensures.0
    (names_have_kept (read_has_kept c.read.ensures.reads) c.flush_names.ensures)

-- The read gave a record, and the flush of its file failed.
pub returns-in_err-flush-in-Some-clause-loads : goal.returns-in_err-flush-in-Some-clause-loads
returns-in_err-flush-in-Some-clause-loads g c = load_fails c.from_residual-in_err-flush-in-Some.ensures.0
    (flush_has_kept (read_has_kept c.read.ensures.reads) c.flush.ensures.changes)

-- The read gave a record, its file was flushed, and the flush of the names failed.
pub returns-in_err-flush_names-in-Some-clause-loads : goal.returns-in_err-flush_names-in-Some-clause-loads
returns-in_err-flush_names-in-Some-clause-loads g c = load_fails c.from_residual-in_err-flush_names-in-Some.ensures.0
    (names_have_kept (flush_has_kept (read_has_kept c.read.ensures.reads) c.flush.ensures.changes)
    c.flush_names-in-Some.ensures)

-- The read gave no record, and the names were flushed.
pub returns-in_ok-flush_names-in-None-clause-loads : goal.returns-in_ok-flush_names-in-None-clause-loads
returns-in_ok-flush_names-in-None-clause-loads g c =
    no_record_loads c.in-None.is c.in_ok-read.ensures.reads c.in_ok-flush_names-in-None.ensures

-- The read gave a record, and its file and the names were flushed.
pub returns-in_ok-flush_names-in-Some-clause-loads : goal.returns-in_ok-flush_names-in-Some-clause-loads
returns-in_ok-flush_names-in-Some-clause-loads g c = record_loads c.in-Some.is c.in_ok-read.ensures.reads
    c.in_ok-flush-in-Some.ensures.changes c.in_ok-flush_names-in-Some.ensures
