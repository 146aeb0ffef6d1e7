-- Proves the contract of `no_put_is_bad` (`src/laws.rt`) by a lemma of `BadMessageFiles`.
use Rattle.ill_message_disk.proofs.BadMessageFiles.{no_bad_put}
use Rattle.ill_message_disk.proofs.laws.no_put_is_bad.Goals as goal

-- The lemma `no_bad_put` states the law.
pub returns : goal.returns
returns c quarantined path bytes old new answer puts bad = no_bad_put quarantined path bytes old new answer puts bad
