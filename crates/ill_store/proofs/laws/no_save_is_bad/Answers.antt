-- Proves the contract of `no_save_is_bad` (`src/laws.rt`).
use Rattle.ill_store.proofs.Moments.{none_bad_save}
use Rattle.ill_store.proofs.laws.no_save_is_bad.Goals as goal

pub returns : goal.returns
returns c path bytes old new answer saves bad = none_bad_save path bytes old new answer saves bad
