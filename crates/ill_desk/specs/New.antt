-- The command `new`: it begins a desk that holds no side yet.
use Rattle.std.specs.Prelude.{◌≡◌, ◌⊎◌, ℕ, true, List, [], take, Option, None, Some, Result, Ok, Err}
use Rattle.std.specs.Io.KnownBytes.{Appends}
use Rattle.ill_saved.specs.declared.fault.DeskFault.TheVariants.{Exists, Store}
use Rattle.ill_store.specs.declared.store.StoreFault.TheVariants.{Failed}
use Rattle.ill_store.specs.declared.store.NextCall.{NextCall}
use Rattle.ill_text.specs.Fault.{CountsToolFailure}
use Rattle.ill_store.specs.Store.{Allows, CommitsAtFailure, StoreState, plan_after_call}
use Rattle.ill_text.specs.declared.fault.ToolFault.{ToolFault}
use Rattle.ill_text.specs.declared.fault.ToolFault.TheVariants.{Desk, Write, OutOfMemory}

-- The output grew from `before` to `after` by `line`, once the record was saved. After the fault `Write` it grew by a
-- prefix of `line`. If the store has a record, or the store failed, or memory ran out, it did not grow. No other
-- fault is possible.
abbrev pub RunsNew : List ℕ → Option (List ℕ) → Option (List ℕ) → Result (Unit {0}) ToolFault → Type 0
RunsNew line before after (Ok done) = Appends before after line
RunsNew line before after (Err Write) = (size : ℕ) × Appends before after (take size line)
RunsNew line before after (Err (Desk Exists)) = Appends before after []
RunsNew line before after (Err (Desk (Store fault))) = Appends before after []
RunsNew line before after (Err OutOfMemory) = Appends before after []
RunsNew line before after (Err other) = ⊥

-- The first save of `bytes` leads a correct store with this plan from the content `old` to `new`. Without a failure of
-- the store the new content is `bytes`. If the store failed, it is as `CommitsAtFailure` says. If memory ran out, it is
-- `old` or `bytes`. No other fault is possible.
abbrev pub CommitsFirst : Option NextCall → List ℕ → Result (Unit {0}) ToolFault → Option (List ℕ) →
    Option (List ℕ) → Type 0
CommitsFirst plan bytes (Ok done) old new = new ≡ Some bytes
CommitsFirst plan bytes (Err Write) old new = new ≡ Some bytes
CommitsFirst plan bytes (Err (Desk (Store Failed))) old new =
    CommitsAtFailure plan bytes old new × Allows {X = Unit {0}} plan (Err Failed)
CommitsFirst plan bytes (Err OutOfMemory) old new = (new ≡ old) ⊎ (new ≡ Some bytes)
CommitsFirst plan bytes (Err other) old new = ⊥

-- The store has no content, or the first record `bytes`.
abbrev pub MayBeCommitted : List ℕ → Option (List ℕ) → Type 0
MayBeCommitted bytes committed = (committed ≡ None) ⊎ (committed ≡ Some bytes)

-- The beginning of a desk leads a correct store with this plan from its content to `new`, with this answer. If the
-- store has a record, that stays, and the answer is `Exists` or another fault. If it has none, `bytes` are committed;
-- after a fault they may be committed. No other answer is possible.
abbrev pub BeginsOver : List ℕ → Option NextCall → Option (List ℕ) → Result (Unit {0}) ToolFault →
    Option (List ℕ) → Type 0
BeginsOver bytes plan None (Ok done) new = (new ≡ Some bytes) × Allows {X = Unit {0}} plan (Ok tt)
BeginsOver bytes plan None (Err Write) new = (new ≡ Some bytes) × Allows {X = Unit {0}} plan (Ok tt)
BeginsOver bytes plan None (Err (Desk (Store Failed))) new =
    MayBeCommitted bytes new × Allows {X = Unit {0}} plan (Err Failed)
BeginsOver bytes plan None (Err OutOfMemory) new = MayBeCommitted bytes new
BeginsOver bytes plan (Some there) (Err (Desk Exists)) new =
    (new ≡ Some there) × Allows {X = Unit {0}} plan (Ok tt)
BeginsOver bytes plan (Some there) (Err OutOfMemory) new = new ≡ Some there
BeginsOver bytes plan committed (Err (Desk (Store fault))) new =
    (new ≡ committed) × Allows {X = Unit {0}} plan (Err fault)
BeginsOver bytes plan committed answer new = ⊥

-- ---- the store of a beginning

-- The save of the first record `bytes` leads from the store `old` to `new`, with this answer. Memory may run
-- out before the store is called.
pub record SavesFirst (bytes : List ℕ) (old : StoreState) (answer : Result (Unit {0}) ToolFault) (new : StoreState)
    : Type 0 where
  -- A correct store has the content that `CommitsFirst` allows.
  pub committed : old.is_correct ≡ true → CommitsFirst old.plan bytes answer old.committed new.committed
  -- A failure of the store is counted.
  pub counted : CountsToolFailure answer old.failures new.failures
  -- The store is as correct as before.
  pub correct : new.is_correct ≡ old.is_correct
  -- The plan is the old one if the store was not called. Else the save has spent it.
  pub plan : (new.plan ≡ old.plan) ⊎ (new.plan ≡ plan_after_call old.plan)

-- The beginning of a desk with the first record `bytes` leads from the store `old` to `new`, with this
-- answer. Its first call of the store, the load, spends the plan.
pub record BeginsIn (bytes : List ℕ) (old : StoreState) (answer : Result (Unit {0}) ToolFault) (new : StoreState)
    : Type 0 where
  -- A correct store has the content that `BeginsOver` allows.
  pub committed : old.is_correct ≡ true → BeginsOver bytes old.plan old.committed answer new.committed
  -- A failure of the store is counted.
  pub counted : CountsToolFailure answer old.failures new.failures
  -- The store is as correct as before.
  pub correct : new.is_correct ≡ old.is_correct
  -- The load has spent the plan.
  pub plan : new.plan ≡ plan_after_call old.plan
