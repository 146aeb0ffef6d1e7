-- Proves the contract of `no_loss_of_power_loses_a_message_file` (`src/laws.rt`) by a lemma of `BadMessageFiles`.
use Rattle.ill_message_disk.proofs.BadMessageFiles.{none_lost}
use Rattle.ill_message_disk.proofs.laws.no_loss_of_power_loses_a_message_file.Goals as goal

-- The lemma `none_lost` states the law.
pub returns : goal.returns
returns c spot old new survives lost = none_lost spot old new survives lost
