-- The promises of a store of one record (this profile's own).
use Rattle.std.specs.Prelude.{◌≡◌, ◌⊎◌, ℕ, ◌+◌, ◌<◌, ◌≤◌, min, nat_lt, if◌then◌else◌, Bool, true, List, length, Option}
use Rattle.std.specs.Prelude.{false, Some, None, is_some, option_map, Result, Ok, Err, IfOk}
use Rattle.ill_store.specs.declared.store.StoreFault.{StoreFault}
use Rattle.ill_store.specs.declared.store.StoreFault.TheVariants.{Failed, TooLarge, OutOfMemory}
use Rattle.ill_store.specs.declared.store.NextCall.{NextCall}
use Rattle.ill_store.specs.declared.store.NextCall.TheVariants.{Works, FailsOld, FailsNew}

-- The plan of a store allows this answer to its next call.
-- If the plan is to work, the call fails only if memory runs out.
-- If the plan is to fail, the call answers `Failed` or `OutOfMemory`.
abbrev pub Allows : {X : Type 0} → Option NextCall → Result X StoreFault → Type 0
Allows (Some Works) (Err Failed) = ⊥
Allows (Some Works) (Err TooLarge) = ⊥
Allows (Some FailsOld) (Ok value) = ⊥
Allows (Some FailsOld) (Err TooLarge) = ⊥
Allows (Some FailsNew) (Ok value) = ⊥
Allows (Some FailsNew) (Err TooLarge) = ⊥
Allows plan answer = Unit {0}

-- After a save of `bytes` that failed, the committed bytes `new` are `old` or `bytes`. A plan to fail says which.
abbrev pub CommitsAtFailure : Option NextCall → List ℕ → Option (List ℕ) → Option (List ℕ) → Type 0
CommitsAtFailure (Some FailsOld) bytes old new = new ≡ old
CommitsAtFailure (Some FailsNew) bytes old new = new ≡ Some bytes
CommitsAtFailure plan bytes old new = (new ≡ old) ⊎ (new ≡ Some bytes)

-- `new` are the committed bytes after a save of `bytes`.
-- If the save is done, `bytes` are committed. If memory ran out, nothing has changed.
abbrev pub CommitsAtSave : Option NextCall → List ℕ → Result (Unit {0}) StoreFault → Option (List ℕ) →
    Option (List ℕ) → Type 0
CommitsAtSave plan bytes (Ok done) old new = new ≡ Some bytes
CommitsAtSave plan bytes (Err Failed) old new = CommitsAtFailure plan bytes old new
CommitsAtSave plan bytes (Err TooLarge) old new = ⊥
CommitsAtSave plan bytes (Err OutOfMemory) old new = new ≡ old

-- Returns the plan after a call. A store with a plan works at its next call. A store without a plan gets none.
abbrev pub plan_after_call : Option NextCall → Option NextCall
plan_after_call None = None
plan_after_call (Some plan) = Some Works

-- The maximum of a count of failures: 2^64 - 1.
abbrev pub most_failures : ℕ
most_failures = 18446744073709551615

-- Returns the count of failures after one more, up to the maximum.
abbrev pub one_more : ℕ → ℕ
one_more count = if nat_lt count most_failures then count + 1 else count

-- Returns the count of failures after a call with this answer: one more after `Failed`.
abbrev pub failures_after : {X : Type 0} → Result X StoreFault → ℕ → ℕ
failures_after (Err Failed) count = one_more count
failures_after answer count = count

-- The count of failures has risen or is at its maximum.
abbrev pub HasRisen : ℕ → ℕ → Type 0
HasRisen old new = (old < new) ⊎ (most_failures ≤ new)

-- If the call answers `Failed`, the count of failures has risen or is at its maximum.
abbrev pub FailsCounted : {X : Type 0} → Result X StoreFault → ℕ → ℕ → Type 0
FailsCounted (Err Failed) old new = HasRisen old new
FailsCounted answer old new = Unit {0}

-- The count of failures has not fallen. If the call answers `Failed`, it has risen or is at its maximum.
abbrev pub CountsFailure : {X : Type 0} → Result X StoreFault → ℕ → ℕ → Type 0
CountsFailure answer old new = (old ≤ new) × FailsCounted answer old new

-- If the call answers `OutOfMemory`, it may take memory: the first argument is true.
abbrev pub RunsOutOnlyIf : {X : Type 0} → Bool → Result X StoreFault → Type 0
RunsOutOnlyIf true answer = Unit {0}
RunsOutOnlyIf false (Err OutOfMemory) = ⊥
RunsOutOnlyIf false answer = Unit {0}

-- The answer is not `TooLarge`.
abbrev pub IsNotTooLarge : Result (Unit {0}) StoreFault → Type 0
IsNotTooLarge (Err TooLarge) = ⊥
IsNotTooLarge answer = Unit {0}

-- ---- the calls

-- The state of a store: the path of its file, if it has one, its committed bytes, the number of failed calls, and the
-- plan of its next call. `is_correct` is true if the store does as it answers.
pub record StoreState : Type 0 where
  pub path : Option (List ℕ)
  pub committed : Option (List ℕ)
  pub failures : ℕ
  pub is_correct : Bool
  pub plan : Option NextCall

-- The store answers a load, and is in the state `new` after it. Its path stays. A correct store gives the committed
-- bytes, does not change them, and follows its plan. Each store counts a failure, stays as correct as it was, and
-- spends its plan.
pub record StoreLoads {X : Type 0} (bytes_of : X → List ℕ) (old : StoreState) (answer : Result (Option X) StoreFault)
    (new : StoreState) : Type 0 where
  pub path : new.path ≡ old.path
  pub loaded : old.is_correct ≡ true → IfOk answer (λ found. option_map bytes_of found ≡ old.committed)
  pub planned : old.is_correct ≡ true → Allows old.plan answer
  pub committed : old.is_correct ≡ true → new.committed ≡ old.committed
  pub counted : CountsFailure answer old.failures new.failures
  pub correct : new.is_correct ≡ old.is_correct
  pub plan : new.plan ≡ plan_after_call old.plan

-- The store answers a save of `bytes`, and is in the state `new` after it. Its path stays. In a correct store the bytes
-- are committed as it answers, and it follows its plan. Each store counts a failure, stays as correct as it was, and
-- spends its plan.
pub record StoreSaves (bytes : List ℕ) (old : StoreState) (answer : Result (Unit {0}) StoreFault) (new : StoreState)
    : Type 0 where
  pub path : new.path ≡ old.path
  pub planned : old.is_correct ≡ true → Allows old.plan answer
  pub committed : old.is_correct ≡ true → CommitsAtSave old.plan bytes answer old.committed new.committed
  pub large : IsNotTooLarge answer
  pub counted : CountsFailure answer old.failures new.failures
  pub correct : new.is_correct ≡ old.is_correct
  pub plan : new.plan ≡ plan_after_call old.plan

-- ---- a loss of power

-- `before` and `after` hold of the records that a loss of power may leave before and after a load. If the load is done,
-- each record of `after` is the committed one. If it failed, each record of `after` is one of `before`.
abbrev pub LoadLasts : {X : Type 0} → Option (List ℕ) → (Option (List ℕ) → Type 0) → Result X StoreFault →
    (Option (List ℕ) → Type 0) → Type 0
LoadLasts committed before (Ok found) after = (left : Option (List ℕ)) → after left → left ≡ committed
LoadLasts committed before (Err fault) after = (left : Option (List ℕ)) → after left → before left

-- `before` and `after` hold of the records that a loss of power may leave before and after a save. If the save is done,
-- each record of `after` is `bytes`. If it failed, each record of `after` is `bytes` or one of `before`.
abbrev pub SaveLasts : List ℕ → (Option (List ℕ) → Type 0) → Result (Unit {0}) StoreFault → (Option (List ℕ) → Type 0)
    → Type 0
SaveLasts bytes before (Ok done) after = (left : Option (List ℕ)) → after left → left ≡ Some bytes
SaveLasts bytes before (Err fault) after = (left : Option (List ℕ)) → after left → before left ⊎ (left ≡ Some bytes)

-- ---- a store that fails from a call on

-- A fuse: its inner store, the number of calls that it still passes on to it, and its own count of failures.
pub record FuseOf (S : Type 0) : Type 0 where
  pub inner : S
  pub calls : ℕ
  pub failures : ℕ

-- Returns the sum of the failures of the fuse and of its inner store, up to the maximum.
abbrev pub failures_together : ℕ → ℕ → ℕ
failures_together here there = min most_failures (here + there)

-- Returns the state of a fuse: the state of its inner store, with the failures of both, and without a plan.
abbrev pub fuse_state : {S : Type 0} → (S → StoreState) → FuseOf S → StoreState
fuse_state state fuse = record (state fuse.inner) {
  failures = failures_together fuse.failures (state fuse.inner).failures;
  plan = None;
}

-- Returns the fuse after a call that the fuse itself failed and counted.
abbrev pub fuse_after_failure : {S : Type 0} → FuseOf S → FuseOf S
fuse_after_failure fuse = record fuse { failures = one_more fuse.failures }

-- If the fuse has calls left, the inner store answers as `calls` says, and the fuse spends one.
-- If it has none left, the call answers `Failed`, and the inner store is unchanged.
abbrev pub FuseCalls : {S A : Type 0} → (S → StoreState) → (StoreState → Result A StoreFault → StoreState → Type 0) →
    FuseOf S → Result A StoreFault → FuseOf S → Type 0
FuseCalls state calls old answer new =
    ((old.calls ≡ 0) × (answer ≡ Err Failed) × (new ≡ fuse_after_failure old))
    ⊎ ((old.calls ≡ new.calls + 1) × (new.failures ≡ old.failures) × calls (state old.inner) answer (state new.inner))

-- ---- a store in memory

-- The state of a store in memory: the committed bytes, the count of failures, and the plan.
pub record MemoryStoreState : Type 0 where
  pub committed : Option (List ℕ)
  pub failures : ℕ
  pub next : NextCall

-- Returns the store after a call that spent its plan.
abbrev pub store_after_call : MemoryStoreState → MemoryStoreState
store_after_call store = record store { next = Works }

-- Returns the store after a call that failed as planned and was counted.
abbrev pub failed : MemoryStoreState → MemoryStoreState
failed store = record store { failures = one_more store.failures; next = Works }

-- The store answers a load as planned, and is in the state `new` after it.
-- Memory can run out only if the load is planned to work and bytes are committed.
abbrev pub MemoryLoads : {X : Type 0} → (X → List ℕ) → NextCall → MemoryStoreState →
    Result (Option X) StoreFault →
    MemoryStoreState → Type 0
MemoryLoads bytes_of Works old (Ok found) new =
    (option_map bytes_of found ≡ old.committed) × (new ≡ store_after_call old)
MemoryLoads bytes_of Works old (Err OutOfMemory) new = (is_some old.committed ≡ true) × (new ≡ store_after_call old)
MemoryLoads bytes_of Works old (Err other) new = ⊥
MemoryLoads bytes_of FailsOld old answer new = (answer ≡ Err Failed) × (new ≡ failed old)
MemoryLoads bytes_of FailsNew old answer new = (answer ≡ Err Failed) × (new ≡ failed old)

-- The store answers a save of `bytes` as planned, and is in the state `new` after it.
-- A save that is planned to fail and to leave the old bytes takes no memory.
abbrev pub MemorySaves : NextCall → List ℕ → MemoryStoreState → Result (Unit {0}) StoreFault → MemoryStoreState → Type 0
MemorySaves Works bytes old (Ok done) new = new ≡ store_after_call (record old { committed = Some bytes })
MemorySaves Works bytes old (Err OutOfMemory) new = new ≡ store_after_call old
MemorySaves Works bytes old (Err other) new = ⊥
MemorySaves FailsOld bytes old answer new = (answer ≡ Err Failed) × (new ≡ failed old)
MemorySaves FailsNew bytes old (Err Failed) new = new ≡ failed (record old { committed = Some bytes })
MemorySaves FailsNew bytes old (Err OutOfMemory) new = new ≡ store_after_call old
MemorySaves FailsNew bytes old answer new = ⊥

-- ---- a store in a file

-- The state of a store in a file: its path, the limit of a record, and the count of failures.
pub record FileStoreState : Type 0 where
  pub path : List ℕ
  pub limit : ℕ
  pub failures : ℕ

-- Returns the store after a call that failed and was counted.
abbrev pub failed_file : FileStoreState → FileStoreState
failed_file store = record store { failures = one_more store.failures }

-- The store answers a load, and is in the state `new` after it. A loaded record has at most `limit` bytes.
-- Each failure is counted.
abbrev pub FileLoads : {X : Type 0} → (X → List ℕ) → FileStoreState → Result (Option X) StoreFault → FileStoreState →
    Type 0
FileLoads bytes_of old (Ok (Some found)) new = (length (bytes_of found) ≤ old.limit) × (new ≡ old)
FileLoads bytes_of old (Err Failed) new = new ≡ failed_file old
FileLoads bytes_of old answer new = new ≡ old

-- The store answers a save, and is in the state `new` after it. The save is done, or it fails and is counted.
abbrev pub FileSaves : FileStoreState → Result (Unit {0}) StoreFault → FileStoreState → Type 0
FileSaves old (Ok done) new = new ≡ old
FileSaves old (Err Failed) new = new ≡ failed_file old
FileSaves old (Err other) new = ⊥
