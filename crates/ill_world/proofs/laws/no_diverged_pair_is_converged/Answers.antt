-- Answers the contract of `no_diverged_pair_is_converged` (`src/laws.rt`).
use Rattle.ill_world.proofs.HaveDiverged.{none_converged}
use Rattle.ill_world.proofs.laws.no_diverged_pair_is_converged.Goals as goal

pub returns : goal.returns
returns c = none_converged
