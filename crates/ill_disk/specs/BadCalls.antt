-- These are answers that no correct disk may give. By the laws the definitions of `Calls` exclude them all.
use Rattle.std.specs.Prelude.{◌≡◌, ◌≤◌, ℕ, true, List, [], ◌∷◌, ◌++◌, length, Option, Some, None, option_map, Result, Ok, Err}
use Rattle.ill_disk.specs.Disk.{Disk, IsWhole, content, found_at}
use Rattle.ill_disk.specs.Calls.{DiskState}
use Rattle.ill_disk.specs.declared.disk.DiskFault.{DiskFault}
use Rattle.ill_disk.specs.declared.disk.DiskFault.TheVariants.{NotFound, TooLarge}

-- `answer` and `new` are wrong for a call that makes `change` in the state `old`. The cases are: a success without the
-- change, another change, a disk that is not whole, a past without the disk before, and another `is_correct`.
pub data IsBadAnswer {E : Type 0} (change : Disk → Disk) (old : DiskState) (answer : Result (Unit {0}) E) (new : DiskState)
    : Type 0 where
  not_changed : (done : Unit {0}) → old.is_correct ≡ true → answer ≡ Ok done → (new.now ≡ change old.now → ⊥) →
      IsBadAnswer change old answer new
  other_change : old.is_correct ≡ true → (new.now ≡ old.now → ⊥) → (new.now ≡ change old.now → ⊥) →
      IsBadAnswer change old answer new
  broken : old.is_correct ≡ true → (IsWhole old.now → ⊥) → IsBadAnswer change old answer new
  past_lost : (before : List Disk) → old.is_correct ≡ true → old.past ≡ Some before → (new.now ≡ old.now → ⊥) →
      (new.past ≡ Some (before ++ old.now ∷ []) → ⊥) → IsBadAnswer change old answer new
  turned : (new.is_correct ≡ old.is_correct → ⊥) → IsBadAnswer change old answer new

-- `answer` and `new` are wrong for a read of `path` in the state `old`. The cases are: other bytes, and a change.
pub data IsBadRead {X E : Type 0} (bytes_of : X → List ℕ) (path : List ℕ) (old : DiskState) (answer : Result (Option X) E)
    (new : DiskState) : Type 0 where
  other_bytes : (found : Option X) → old.is_correct ≡ true → answer ≡ Ok found →
      (option_map bytes_of found ≡ content path old.now → ⊥) → IsBadRead bytes_of path old answer new
  changed : old.is_correct ≡ true → (new.now ≡ old.now → ⊥) → IsBadRead bytes_of path old answer new

-- `answer` is wrong for a call on the file at `path`. The cases are: a success although no file stands there, and
-- `NotFound` although one does.
pub data IsBadFinding {A : Type 0} (path : List ℕ) (old : DiskState) (answer : Result A DiskFault) : Type 0 where
  done_on_none : (done : A) → old.is_correct ≡ true → answer ≡ Ok done → found_at path old.now.names ≡ None →
      IsBadFinding path old answer
  none_at_a_file : (file : ℕ) → old.is_correct ≡ true → answer ≡ Err NotFound →
      found_at path old.now.names ≡ Some file → IsBadFinding path old answer

-- `answer` is wrong for a read of `path` with `limit`. The cases are: `TooLarge` although no file stands there, and
-- although its bytes are at most `limit`.
pub data IsBadSize {A : Type 0} (limit : ℕ) (path : List ℕ) (old : DiskState) (answer : Result A DiskFault) : Type 0 where
  large_without_file : old.is_correct ≡ true → answer ≡ Err TooLarge → content path old.now ≡ None →
      IsBadSize limit path old answer
  large_within : (bytes : List ℕ) → old.is_correct ≡ true → answer ≡ Err TooLarge → content path old.now ≡ Some bytes →
      length bytes ≤ limit → IsBadSize limit path old answer
