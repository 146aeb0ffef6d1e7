-- Proves the contracts of the impl of `Store` for `FileStore` (`src/file_store.rt`).
-- Each call that fails counts its failure, and no contract states the content of a file.
use Rattle.std.proofs.Common.{rules, refl}
use Rattle.ill_store.proofs.Files.{load_counts, load_keeps_path, save_counts, save_keeps_path}
use Rattle.ill_store.proofs.file_store.FileStoreStore.TheImpl.Goals as goal

-- A load of a store in a file satisfies the contract of each store.
pub load-tells : goal.load-tells
load-tells g c = record {
  loads = record {
    path = load_keeps_path (λ b. b.items) c.args.self.now c.new.self.now c.result c.ensures;
    loaded = λ correct. search rules;
    planned = λ correct. tt;
    committed = λ correct. refl;
    counted = load_counts (λ b. b.items) c.args.self.now c.new.self.now c.result c.ensures;
    correct = refl;
    plan = refl;
  };
  memory = tt;
  lasts = λ correct. search rules;
}

-- A save of a store in a file satisfies the contract of each store.
pub save-tells : goal.save-tells
save-tells g c =
    let told = save_counts c.args.self.now c.new.self.now c.result c.ensures in
    record {
      saves = record {
        path = save_keeps_path c.args.self.now c.new.self.now c.result c.ensures;
        planned = λ correct. tt;
        committed = λ correct. search rules;
        large = told.0;
        counted = told.1;
        correct = refl;
        plan = refl;
      };
      lasts = λ correct. search rules;
    }
