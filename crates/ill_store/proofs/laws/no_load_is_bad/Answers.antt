-- Proves the contract of `no_load_is_bad` (`src/laws.rt`).
use Rattle.ill_store.proofs.Moments.{none_bad_load}
use Rattle.ill_store.proofs.laws.no_load_is_bad.Goals as goal

pub returns : goal.returns
returns c path old new answer loads bad = none_bad_load path old new answer loads bad
