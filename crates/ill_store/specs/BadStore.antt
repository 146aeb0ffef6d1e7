-- These are loads and saves that no store on a correct disk may make. Then come losses of records that no correct store
-- may have. Each case has its own fault. By the laws the definitions of `DiskStore` and of `Store` exclude them all.
use Rattle.std.specs.Prelude.{◌≡◌, ℕ, true, List, Option, Some, Result, Ok, Err}
use Rattle.ill_disk.specs.Disk.{Disk, Leaves, content}
use Rattle.ill_disk.specs.Calls.{DiskState, IsMoment}
use Rattle.ill_store.specs.declared.store.StoreFault.{StoreFault}

-- `answer` and `new` are wrong for a load at `path` from the disk `old`. The load gives another record than a read. Or
-- a crash after it loses the record. Or a crash meanwhile leaves what none might have left before. Or a read meanwhile
-- gives another record. Or the disk becomes correct, or incorrect.
pub data IsBadLoad {E : Type 0} (path : List ℕ) (old : DiskState) (answer : Result (Option (List ℕ)) E) (new : DiskState)
    : Type 0 where
  other_record : (found : Option (List ℕ)) → old.is_correct ≡ true → answer ≡ Ok found →
      (found ≡ content path old.now → ⊥) → IsBadLoad path old answer new
  lost_later : (found left : Option (List ℕ)) → old.is_correct ≡ true → answer ≡ Ok found → Leaves new.now path left →
      (left ≡ content path old.now → ⊥) → IsBadLoad path old answer new
  lost_meanwhile : (d : Disk) (left : Option (List ℕ)) → old.is_correct ≡ true → IsMoment old new d → Leaves d path left →
      (Leaves old.now path left → ⊥) → IsBadLoad path old answer new
  other_meanwhile : (d : Disk) → old.is_correct ≡ true → IsMoment old new d →
      (content path d ≡ content path old.now → ⊥) → IsBadLoad path old answer new
  turned : (new.is_correct ≡ old.is_correct → ⊥) → IsBadLoad path old answer new

-- `answer` and `new` are wrong for a save of `bytes` at `path` of the disk `old`. A read after the save does not give
-- `bytes`. Or a crash after it loses them. Or a crash or a read meanwhile gives a third record. Or the disk
-- becomes correct, or incorrect.
pub data IsBadSave {E : Type 0} (path bytes : List ℕ) (old : DiskState) (answer : Result (Unit {0}) E) (new : DiskState)
    : Type 0 where
  not_saved : (done : Unit {0}) → old.is_correct ≡ true → answer ≡ Ok done → (content path new.now ≡ Some bytes → ⊥) →
      IsBadSave path bytes old answer new
  lost_later : (done : Unit {0}) (left : Option (List ℕ)) → old.is_correct ≡ true → answer ≡ Ok done →
      Leaves new.now path left → (left ≡ Some bytes → ⊥) → IsBadSave path bytes old answer new
  third_left : (d : Disk) (left : Option (List ℕ)) → old.is_correct ≡ true → IsMoment old new d → Leaves d path left →
      (Leaves old.now path left → ⊥) → (left ≡ Some bytes → ⊥) → IsBadSave path bytes old answer new
  third_read : (d : Disk) → old.is_correct ≡ true → IsMoment old new d → (content path d ≡ content path old.now → ⊥) →
      (content path d ≡ Some bytes → ⊥) → IsBadSave path bytes old answer new
  turned : (new.is_correct ≡ old.is_correct → ⊥) → IsBadSave path bytes old answer new

-- ---- what a loss of power leaves

-- A loss of power after a load with this answer may leave a wrong record. `before` and `after` hold of the records that
-- may be left before and after the load. After `Ok` the wrong record is not the committed one. After `Err` it is none
-- that might have been left before.
pub data LosesLoaded {X : Type 0} (committed : Option (List ℕ)) (before : Option (List ℕ) → Type 0)
    (answer : Result X StoreFault) (after : Option (List ℕ) → Type 0) : Type 0 where
  not_the_committed : (found : X) (left : Option (List ℕ)) → answer ≡ Ok found → after left → (left ≡ committed → ⊥) →
      LosesLoaded committed before answer after
  none_of_before : (fault : StoreFault) (left : Option (List ℕ)) → answer ≡ Err fault → after left → (before left → ⊥) →
      LosesLoaded committed before answer after

-- A loss of power after a save of `bytes` with this answer may leave a wrong record. `before` and `after` hold of the
-- records that may be left before and after the save. After `Ok` the wrong record is not `bytes`. After `Err` it is
-- neither `bytes` nor one that might have been left before.
pub data LosesSaved (bytes : List ℕ) (before : Option (List ℕ) → Type 0) (answer : Result (Unit {0}) StoreFault)
    (after : Option (List ℕ) → Type 0) : Type 0 where
  not_the_saved : (done : Unit {0}) (left : Option (List ℕ)) → answer ≡ Ok done → after left → (left ≡ Some bytes → ⊥) →
      LosesSaved bytes before answer after
  neither_old_nor_new : (fault : StoreFault) (left : Option (List ℕ)) → answer ≡ Err fault → after left → (before left → ⊥) →
      (left ≡ Some bytes → ⊥) → LosesSaved bytes before answer after
