-- Proves the clause `lasts` of `load` (`src/disk_store.rt`): the store answers as its disk did.
use Rattle.std.proofs.Common.{◌≡◌, rules, refl}
use Rattle.ill_store.proofs.DiskSaves.{done_load_at, failed_load_at, no_call_loads}
use Rattle.ill_store.proofs.disk_store.DiskStoreStore.load.Goals as goal

-- The load of the disk is done, and the store gives its record.
pub returns-in-Ok-clause-lasts : goal.returns-in-Ok-clause-lasts
returns-in-Ok-clause-lasts g c =
    let path : c.deref.result.now ≡ c.args.self.now.path = search rules in
    let old : g.D.Disk.state c.self.inside.disk ≡ g.D.Disk.state c.args.self.now.disk = search rules in
    done_load_at path old refl c.in-Ok.ensures.loads

-- The load of the disk ran out of memory, and so the store answers `OutOfMemory`.
pub returns-in-Err-OutOfMemory-clause-lasts : goal.returns-in-Err-OutOfMemory-clause-lasts
returns-in-Err-OutOfMemory-clause-lasts g c =
    let path : c.deref.result.now ≡ c.args.self.now.path = search rules in
    let old : g.D.Disk.state c.self.inside.disk ≡ g.D.Disk.state c.args.self.now.disk = search rules in
    failed_load_at path old refl c.in-Err-OutOfMemory.ensures.loads

-- The load of the disk failed, and the store counts a failure, which does not change the disk.
pub returns-in-Err-Failed-clause-lasts : goal.returns-in-Err-Failed-clause-lasts
returns-in-Err-Failed-clause-lasts g c =
    let path : c.deref.result.now ≡ c.args.self.now.path = search rules in
    let old : g.D.Disk.state c.self.inside.disk ≡ g.D.Disk.state c.args.self.now.disk = search rules in
    let new : g.D.Disk.state c.load.new.disk ≡ g.D.Disk.state c.fail-in-Err-Failed.new.self.disk = search rules in
    failed_load_at path old new c.in-Err-Failed.ensures.loads

-- The path is reserved, so no call reaches the disk.
pub returns-then-is_reserved-clause-lasts : goal.returns-then-is_reserved-clause-lasts
returns-then-is_reserved-clause-lasts g c =
    let same : g.D.Disk.state c.fail.new.self.disk ≡ g.D.Disk.state c.args.self.now.disk = search rules in
    no_call_loads same
