-- Proves the contracts of the impl of `Store` for `SqliteStore` (`src/store.rt`). Each call that answers `Failed` is
-- counted. The rest of a store's contract binds a correct store alone, and this store is never correct.
use Rattle.std.proofs.Common.{rules, refl}
use Rattle.sqlite_desk.proofs.CountingLemmas.{counts, not_too_large}
use Rattle.sqlite_desk.proofs.store.SqliteStoreStore.TheImpl.Goals as goal

-- Proves that `load` satisfies the contract of each store. By `counts` an answer `Failed` is counted.
pub load-tells : goal.load-tells
load-tells g c = record {
  loads = record {
    path = refl;
    loaded = λ correct. search rules;
    planned = λ correct. tt;
    committed = λ correct. refl;
    counted = counts c.args.self.now.failures c.new.self.now.failures c.result c.ensures;
    correct = refl;
    plan = refl;
  };
  memory = tt;
  lasts = λ correct. search rules;
}

-- Proves that `save` satisfies the contract of each store. By `counts` an answer `Failed` is counted. By
-- `not_too_large` the answer is not `TooLarge`.
pub save-tells : goal.save-tells
save-tells g c = record {
  saves = record {
    path = refl;
    planned = λ correct. tt;
    committed = λ correct. search rules;
    large = not_too_large c.args.self.now.failures c.new.self.now.failures c.result c.ensures;
    counted = counts c.args.self.now.failures c.new.self.now.failures c.result c.ensures;
    correct = refl;
    plan = refl;
  };
  lasts = λ correct. search rules;
}
