-- Defines the state of a store on a disk, and the records that a crash leaves in it.
use Rattle.std.specs.Prelude.{◌≡◌, ◌⊎◌, ℕ, ◌++◌, true, List, codes, Option, Some, None, option_map, Result, IfOk, OnOk}
use Rattle.ill_disk.specs.Disk.{Disk, IsWhole, Leaves, IsOldOr, content, after_create, after_flush, after_rename}
use Rattle.ill_disk.specs.Calls.{DiskState, Throughout}
use Rattle.ill_store.specs.Store.{StoreState}

-- A store on a disk: its disk, the path of its record, the limit of a record, and its count of failures.
pub record DiskStoreOf (D : Type 0) : Type 0 where
  pub disk : D
  pub path : List ℕ
  pub limit : ℕ
  pub failures : ℕ

-- Returns the path beside a record, at which a save makes its new file.
abbrev pub temporary_of : List ℕ → List ℕ
temporary_of path = path ++ codes ".new"

-- Returns the state of a store on a disk. The record that a read of its path would give is committed. The store is as
-- correct as its disk.
abbrev pub store_state : {D : Type 0} → (D → DiskState) → DiskStoreOf D → StoreState
store_state state store = record {
  path = Some store.path;
  committed = content store.path (state store.disk).now;
  failures = store.failures;
  is_correct = (state store.disk).is_correct;
  plan = None;
}

-- Each crash of the disk leaves this content at the path.
abbrev pub Lasts : List ℕ → Disk → Option (List ℕ) → Type 0
Lasts path d found = (left : Option (List ℕ)) → Leaves d path left → left ≡ found

-- Each crash of the disk `new` leaves at the path what a crash of the disk `old` might have left.
abbrev pub LeavesOld : List ℕ → Disk → Disk → Type 0
LeavesOld path old new = (left : Option (List ℕ)) → Leaves new path left → Leaves old path left

-- Each crash of the disk `new` leaves what a crash of the disk `old` might have left, or these bytes.
abbrev pub LeavesOldOr : List ℕ → List ℕ → Disk → Disk → Type 0
LeavesOldOr path bytes old new = (left : Option (List ℕ)) → Leaves new path left → IsOldOr path old bytes left

-- A read of the path gives what it gave on the disk `old`, or these bytes.
abbrev pub ReadsOldOr : List ℕ → List ℕ → Disk → Disk → Type 0
ReadsOldOr path bytes old new = (content path new ≡ content path old) ⊎ (content path new ≡ Some bytes)

-- A read of the disk `d` gives what it gave on the disk `old`. Each crash of `d` leaves what a crash of `old` might
-- have left.
abbrev pub IsOld : List ℕ → Disk → Disk → Type 0
IsOld path old d = (content path d ≡ content path old) × LeavesOld path old d

-- A read of the disk `d` gives what it gave on the disk `old`, or `bytes`. Each crash of `d` leaves what a crash of
-- `old` might have left, or `bytes`.
abbrev pub IsOldOrNew : List ℕ → List ℕ → Disk → Disk → Type 0
IsOldOrNew path bytes old d = ReadsOldOr path bytes old d × LeavesOldOr path bytes old d

-- Returns the disk after a new file of these bytes is made at `temporary`, flushed, and renamed over a record.
abbrev pub after_placing : List ℕ → List ℕ → List ℕ → Disk → Disk
after_placing temporary path bytes d = after_rename temporary path (after_flush temporary (after_create temporary bytes d))

-- ---- the calls

-- The record at a path is loaded from the disk `old`. If the disk is correct, a load that is done gives what a read of
-- the path would give, and each crash leaves it from then on. At each moment of a load, done or failed, a read and each
-- crash give the old record.
pub record DiskLoads {X E : Type 0} (bytes_of : X → List ℕ) (path : List ℕ) (old : DiskState)
    (answer : Result (Option X) E) (new : DiskState) : Type 0 where
  pub loaded : old.is_correct ≡ true → IfOk answer (λ found. option_map bytes_of found ≡ content path old.now)
  pub lasts : old.is_correct ≡ true → OnOk answer (Lasts path new.now (content path old.now))
  pub moments : old.is_correct ≡ true → Throughout (IsOld path old.now) old new
  pub correct : new.is_correct ≡ old.is_correct

-- A new file of these bytes is made at the path `temporary` of the disk `old`, flushed, and renamed over a record. If
-- the disk is correct, a call that is done has done all three. At each moment of a call, done or failed, a read of the
-- record and each crash give the old record, or these bytes.
pub record DiskPlaces {E : Type 0} (temporary path bytes : List ℕ) (old : DiskState) (answer : Result (Unit {0}) E)
    (new : DiskState) : Type 0 where
  pub placed : old.is_correct ≡ true → OnOk answer (new.now ≡ after_placing temporary path bytes old.now)
  pub moments : old.is_correct ≡ true → Throughout (IsOldOrNew path bytes old.now) old new
  pub whole : old.is_correct ≡ true → IsWhole old.now
  pub correct : new.is_correct ≡ old.is_correct

-- These bytes are saved at a path of the disk `old`. If the disk is correct, a save that is done lets a read give them,
-- and each crash leave them. At each moment of a save, done or failed, a read and each crash give the old record, or
-- these bytes.
pub record DiskSaves {E : Type 0} (path bytes : List ℕ) (old : DiskState) (answer : Result (Unit {0}) E)
    (new : DiskState) : Type 0 where
  pub saved : old.is_correct ≡ true → OnOk answer (content path new.now ≡ Some bytes)
  pub lasts : old.is_correct ≡ true → OnOk answer (Lasts path new.now (Some bytes))
  pub moments : old.is_correct ≡ true → Throughout (IsOldOrNew path bytes old.now) old new
  pub correct : new.is_correct ≡ old.is_correct
