-- Proves the contract of `no_unsafe_libraries_are_safe` (`src/laws.rt`). Each case of `AreUnsafe` contradicts
-- `AreSafe`.
use Rattle.ill_runs.proofs.BadLibraries.{not_safe}
use Rattle.ill_runs.proofs.laws.no_unsafe_libraries_are_safe.Goals as goal

pub returns : goal.returns
returns c = not_safe
