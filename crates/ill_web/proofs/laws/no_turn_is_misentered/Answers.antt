-- Proves the contract of `no_turn_is_misentered` (`src/laws.rt`).
use Rattle.ill_web.proofs.EntryLemmas.{no_turn_misenters}
use Rattle.ill_web.proofs.laws.no_turn_is_misentered.Goals as goal

pub returns : goal.returns
returns c = no_turn_misenters
