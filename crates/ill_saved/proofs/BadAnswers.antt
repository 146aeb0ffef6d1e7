-- The definitions of a desk's calls exclude each case of `BadAnswers`. In most cases the last premise `is` is false by
-- definition.
use Rattle.std.proofs.Common.{◌≡◌, ◌⊎◌, inl, inr, ℕ, Bool, List, Option, Some, None, Result, Err, sym, ◌∙◌}
use Rattle.std.proofs.lemmas.Bool.{true≢false}
use Rattle.ill_store.specs.declared.store.NextCall.{NextCall}
use Rattle.ill_store.specs.declared.store.NextCall.TheVariants.{Works, FailsOld, FailsNew}
use Rattle.ill_saved.specs.declared.fault.DeskFault.{DeskFault}
use Rattle.ill_saved.specs.declared.fault.DeskFault.TheVariants.{OutOfMemory}
use Rattle.ill_saved.specs.Holdings.{IsReadFault}
use Rattle.ill_store.specs.Store.{CommitsAtFailure}
use Rattle.ill_saved.specs.Desk.{IsSaveFault, IsCreateAnswer, IsLoadFault, LeavesBeforeOr, LeavesCommitted, SaveCommits}
use Rattle.ill_saved.specs.Desk.{PlanAfter}
use Rattle.ill_saved.specs.BadAnswers.{IsOfNoRecord, core, bytes, trailing, no_such_message, not_saved, no_such_transaction}
use Rattle.ill_saved.specs.BadAnswers.{desk_full, store_memory, CannotSave, save_other, save_exists, save_no_record, save_record}
use Rattle.ill_saved.specs.BadAnswers.{save_too_large, CannotCreate, create_other, create_no_record, create_record, CannotLoad}
use Rattle.ill_saved.specs.BadAnswers.{load_other, load_exists, load_no_record, load_memory, load_digest, CannotRead}
use Rattle.ill_saved.specs.BadAnswers.{read_other, read_store, CommitsWrong, done, failed, memory, PlansWrong, plan_other}

-- ---- faults

-- A fault of `IsOfNoRecord`, such as one of an action or a message, is no fault of a save.
not_saving : (fault : DeskFault) → IsOfNoRecord fault → IsSaveFault (Err fault) → ⊥
not_saving _ (core refusal) is = is
not_saving _ (bytes fault) is = is
not_saving _ trailing is = is
not_saving _ no_such_message is = is
not_saving _ not_saved is = is
not_saving _ no_such_transaction is = is
not_saving _ desk_full is = is
not_saving _ store_memory is = is

-- A save has no fault of `CannotSave`.
pub none_saves : (fault : DeskFault) → CannotSave fault → IsSaveFault (Err fault) → ⊥
none_saves _ (save_other fault other) is = not_saving fault other is
none_saves _ save_exists is = is
none_saves _ save_no_record is = is
none_saves _ (save_record fault) is = is
none_saves _ save_too_large is = is

-- A fault of `IsOfNoRecord` is no answer of creating a desk.
not_creating : (fault : DeskFault) → IsOfNoRecord fault → IsCreateAnswer (Err fault) → ⊥
not_creating _ (core refusal) is = is
not_creating _ (bytes fault) is = is
not_creating _ trailing is = is
not_creating _ no_such_message is = is
not_creating _ not_saved is = is
not_creating _ no_such_transaction is = is
not_creating _ desk_full is = is
not_creating _ store_memory is = is

-- Creating a desk has no fault of `CannotCreate`.
pub none_creates : (fault : DeskFault) → CannotCreate fault → IsCreateAnswer (Err fault) → ⊥
none_creates _ (create_other fault other) is = not_creating fault other is
none_creates _ create_no_record is = is
none_creates _ (create_record fault) is = is

-- A fault of `IsOfNoRecord` is no fault of loading.
not_loading : (has_digest : Bool) (fault : DeskFault) → IsOfNoRecord fault → IsLoadFault has_digest fault → ⊥
not_loading has_digest _ (core refusal) is = is
not_loading has_digest _ (bytes fault) is = is
not_loading has_digest _ trailing is = is
not_loading has_digest _ no_such_message is = is
not_loading has_digest _ not_saved is = is
not_loading has_digest _ no_such_transaction is = is
not_loading has_digest _ desk_full is = is
not_loading has_digest _ store_memory is = is

-- Loading has no fault of `CannotLoad`.
pub none_loads : (has_digest : Bool) (fault : DeskFault) → CannotLoad has_digest fault → IsLoadFault has_digest fault → ⊥
none_loads has_digest _ (load_other fault other) is = not_loading has_digest fault other is
none_loads has_digest _ load_exists is = is
none_loads has_digest _ load_no_record is = is
none_loads has_digest _ load_memory is = is
none_loads has_digest _ (load_digest without) is = true≢false (sym is ∙ without)

-- A fault of `IsOfNoRecord` is no fault of reading a record.
not_reading : (has_digest : Bool) (fault : DeskFault) → IsOfNoRecord fault → IsReadFault has_digest fault → ⊥
not_reading has_digest _ (core refusal) is = is
not_reading has_digest _ (bytes fault) is = is
not_reading has_digest _ trailing is = is
not_reading has_digest _ no_such_message is = is
not_reading has_digest _ not_saved is = is
not_reading has_digest _ no_such_transaction is = is
not_reading has_digest _ desk_full is = is
not_reading has_digest _ store_memory is = is

-- If loading cannot have a fault, reading a record cannot have it.
not_loaded : (has_digest : Bool) (fault : DeskFault) → CannotLoad has_digest fault → IsReadFault has_digest fault → ⊥
not_loaded has_digest _ (load_other fault other) is = not_reading has_digest fault other is
not_loaded has_digest _ load_exists is = is
not_loaded has_digest _ load_no_record is = is
not_loaded has_digest _ load_memory is = is
not_loaded has_digest _ (load_digest without) is = true≢false (sym is ∙ without)

-- Reading a record has no fault of `CannotRead`.
pub none_reads : (has_digest : Bool) (fault : DeskFault) → CannotRead has_digest fault → IsReadFault has_digest fault → ⊥
none_reads has_digest _ (read_other fault other) is = not_loaded has_digest fault other is
none_reads has_digest _ (read_store fault) is = is

-- ---- changes

-- A save that failed leaves the old bytes or commits the new ones.
old_or_new : (plan : Option NextCall) (record_bytes : List ℕ) (old new : Option (List ℕ))
    → CommitsAtFailure plan record_bytes old new → (new ≡ old) ⊎ (new ≡ Some record_bytes)
old_or_new None record_bytes old new is = is
old_or_new (Some Works) record_bytes old new is = is
old_or_new (Some FailsOld) record_bytes old new is = inl is
old_or_new (Some FailsNew) record_bytes old new is = inr is

-- If neither `A` nor `B` holds, `A ⊎ B` does not hold.
neither : {A B : Type 0} → (A → ⊥) → (B → ⊥) → A ⊎ B → ⊥
neither not_a not_b (inl a) = not_a a
neither not_a not_b (inr b) = not_b b

-- If a save may commit `new`, as `SaveCommits` says, `CommitsWrong` does not exclude it.
pub none_commits : (plan : Option NextCall) (record_bytes : List ℕ) (answer : Result (Unit {0}) DeskFault)
    (old new : Option (List ℕ)) → CommitsWrong record_bytes old new answer → SaveCommits plan record_bytes answer old new → ⊥
none_commits plan record_bytes _ old new (done other) is = other is.0
none_commits plan record_bytes _ old new (failed not_old not_new) is =
    neither not_old not_new (old_or_new plan record_bytes old new is.0)
none_commits plan record_bytes _ old new (memory other) is = other is

-- If memory ran out and a save may leave the plan `new`, `PlansWrong` does not exclude it.
pub none_plans : (old new : Option NextCall) → PlansWrong old new → PlanAfter (Err OutOfMemory) old new → ⊥
none_plans old new (plan_other not_spent not_old) is = neither not_spent not_old is

-- ---- what a loss of power leaves

-- If the committed record alone may be left, no other record is left.
pub none_outlasts : (committed : Option (List ℕ)) (leaves : Option (List ℕ) → Type 0) (left : Option (List ℕ))
    → LeavesCommitted committed leaves → leaves left → (left ≡ committed → ⊥) → ⊥
none_outlasts committed leaves left lasts is differ = differ (lasts left is)

-- If only `other` and the records of `before` may be left after a call, no third record is left.
pub none_outlasts_either : (other : Option (List ℕ)) (before after : Option (List ℕ) → Type 0) (left : Option (List ℕ))
    → LeavesBeforeOr other before after → after left → (before left → ⊥) → (left ≡ other → ⊥) → ⊥
none_outlasts_either other before after left lasts is not_before not_other = neither not_before not_other (lasts left is)
