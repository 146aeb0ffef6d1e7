-- The calls of a store in a file count their failures, as the calls of each store must.
use Rattle.std.proofs.Common.{arith, ◌≡◌, ℕ, ◌≤◌, List, Option, Some, None, Result, Ok, Err, ap}
use Rattle.ill_store.specs.declared.store.StoreFault.{StoreFault}
use Rattle.ill_store.specs.declared.store.StoreFault.TheVariants.{Failed, TooLarge, OutOfMemory}
use Rattle.ill_store.specs.Store.{HasRisen, CountsFailure, IsNotTooLarge, FileStoreState, failed_file, one_more, FileLoads}
use Rattle.ill_store.specs.Store.{FileSaves}

-- After one more failure, the count has not fallen, and it has risen or is at its maximum.
counted : (old new : ℕ) → new ≡ one_more old → (old ≤ new) × HasRisen old new
counted old new e = grind arith

-- After a failed call, the count of a store in a file has risen or is at its maximum.
failure_counted : (old new : FileStoreState) → new ≡ failed_file old
    → (old.failures ≤ new.failures) × HasRisen old.failures new.failures
failure_counted old new e = counted old.failures new.failures (ap (λ (f : FileStoreState). f.failures) e)

-- If a store in a file is unchanged, its count has not fallen.
no_failure : (old new : FileStoreState) → new ≡ old → old.failures ≤ new.failures
no_failure old new e = omega (arith, ap (λ (f : FileStoreState). f.failures) e)

-- If a load of a store in a file satisfies its contract, it counts its failure.
pub load_counts : {X : Type 0} (bytes_of : X → List ℕ) (old new : FileStoreState) (answer : Result (Option X) StoreFault)
    → FileLoads bytes_of old answer new → CountsFailure answer old.failures new.failures
load_counts bytes_of old new (Ok (Some found)) loads = (no_failure old new loads.1, tt)
load_counts bytes_of old new (Ok None) loads = (no_failure old new loads, tt)
load_counts bytes_of old new (Err Failed) loads = failure_counted old new loads
load_counts bytes_of old new (Err TooLarge) loads = (no_failure old new loads, tt)
load_counts bytes_of old new (Err OutOfMemory) loads = (no_failure old new loads, tt)

-- If a save of a store in a file satisfies its contract, it never answers `TooLarge`, and it counts its failure.
pub save_counts : (old new : FileStoreState) (answer : Result (Unit {0}) StoreFault) → FileSaves old answer new
    → IsNotTooLarge answer × CountsFailure answer old.failures new.failures
save_counts old new (Ok done) saves = (tt, (no_failure old new saves, tt))
save_counts old new (Err Failed) saves = (tt, failure_counted old new saves)
save_counts old new (Err TooLarge) saves = absurd saves
save_counts old new (Err OutOfMemory) saves = absurd saves

-- Returns the path of a store in a file, as the state of each store has it.
abbrev path_in : FileStoreState → Option (List ℕ)
path_in store = Some store.path

-- If a load of a store in a file satisfies its contract, it keeps the path.
pub load_keeps_path : {X : Type 0} (bytes_of : X → List ℕ) (old new : FileStoreState)
    (answer : Result (Option X) StoreFault) → FileLoads bytes_of old answer new → Some new.path ≡ Some old.path
load_keeps_path bytes_of old new (Ok (Some found)) loads = ap path_in loads.1
load_keeps_path bytes_of old new (Ok None) loads = ap path_in loads
load_keeps_path bytes_of old new (Err Failed) loads = ap path_in loads
load_keeps_path bytes_of old new (Err TooLarge) loads = ap path_in loads
load_keeps_path bytes_of old new (Err OutOfMemory) loads = ap path_in loads

-- If a save of a store in a file satisfies its contract, it keeps the path.
pub save_keeps_path : (old new : FileStoreState) (answer : Result (Unit {0}) StoreFault) → FileSaves old answer new
    → Some new.path ≡ Some old.path
save_keeps_path old new (Ok done) saves = ap path_in saves
save_keeps_path old new (Err Failed) saves = ap path_in saves
save_keeps_path old new (Err TooLarge) saves = absurd saves
save_keeps_path old new (Err OutOfMemory) saves = absurd saves
