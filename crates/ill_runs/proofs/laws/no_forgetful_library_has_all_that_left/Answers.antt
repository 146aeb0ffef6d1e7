-- Proves the contract of `no_forgetful_library_has_all_that_left` (`src/laws.rt`). Each case contradicts
-- `HasAllThatLeft`.
use Rattle.ill_runs.proofs.BadLibraries.{none_forgotten}
use Rattle.ill_runs.proofs.laws.no_forgetful_library_has_all_that_left.Goals as goal

pub returns : goal.returns
returns c = none_forgotten
