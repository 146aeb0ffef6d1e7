-- Proves the clause `lasts` of `save` (`src/disk_store.rt`): the store answers as its disk did.
use Rattle.std.proofs.Common.{◌≡◌, rules, refl}
use Rattle.ill_store.proofs.DiskSaves.{done_save_at, failed_save_at, no_call_saves}
use Rattle.ill_store.proofs.disk_store.DiskStoreStore.save.Goals as goal

-- The save on the disk is done, and so is the save of the store.
pub returns-in-Ok-clause-lasts : goal.returns-in-Ok-clause-lasts
returns-in-Ok-clause-lasts g c =
    let path : c.deref.result.now ≡ c.args.self.now.path = search rules in
    let old : g.D.Disk.state c.self.inside.disk ≡ g.D.Disk.state c.args.self.now.disk = search rules in
    done_save_at path old refl c.in-Ok.ensures

-- The save of the disk failed, and the store counts a failure, which does not change the disk.
pub returns-in-Err-clause-lasts : goal.returns-in-Err-clause-lasts
returns-in-Err-clause-lasts g c =
    let path : c.deref.result.now ≡ c.args.self.now.path = search rules in
    let old : g.D.Disk.state c.self.inside.disk ≡ g.D.Disk.state c.args.self.now.disk = search rules in
    let new : g.D.Disk.state c.save.new.disk ≡ g.D.Disk.state c.fail-in-Err.new.self.disk = search rules in
    failed_save_at path old new c.in-Err.ensures

-- The path is reserved, so no call reaches the disk.
pub returns-then-is_reserved-clause-lasts : goal.returns-then-is_reserved-clause-lasts
returns-then-is_reserved-clause-lasts g c =
    let same : g.D.Disk.state c.fail.new.self.disk ≡ g.D.Disk.state c.args.self.now.disk = search rules in
    no_call_saves same
