-- Proves the contract of `a_flushed_message_file_keeps_its_bytes` (`src/laws.rt`) by a lemma of `BadMessageFiles`.
use Rattle.ill_message_disk.proofs.BadMessageFiles.{flushed_lasts}
use Rattle.ill_message_disk.proofs.laws.a_flushed_message_file_keeps_its_bytes.Goals as goal

-- The lemma `flushed_lasts` states the law.
pub returns : goal.returns
returns c paths old moment after file f touches is flushed crash =
    flushed_lasts paths old moment after file f touches is flushed crash
