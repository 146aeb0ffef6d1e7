-- Proves the contracts of the impl of `Store` for `DiskStore` (`src/disk_store.rt`). What a crash of the disk leaves is
-- what a loss of power leaves in the store.
use Rattle.ill_store.proofs.DiskSaves.{load_leaves, save_leaves}
use Rattle.ill_store.proofs.disk_store.DiskStoreStore.TheImpl.Goals as goal

-- A load on a disk satisfies the contract of each store.
pub load-tells : goal.load-tells
load-tells g c = record {
  loads = c.ensures.loads;
  memory = tt;
  lasts = load_leaves c.ensures.place c.ensures.lasts;
}

-- A save on a disk satisfies the contract of each store.
pub save-tells : goal.save-tells
save-tells g c = record {
  saves = c.ensures.saves;
  lasts = save_leaves c.ensures.place c.ensures.lasts;
}
