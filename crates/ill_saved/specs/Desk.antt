-- A desk: the sides that it holds in memory, and their store (this profile's own).
use Rattle.std.specs.Prelude.{◌≡◌, ◌⊎◌, ℕ, ◌≤◌, List, [], ◌∷◌, Bool, Option, Some, None, Result, Ok, Err, false, true}
use Rattle.ill_values.specs.declared.apdu.Apdu.{Apdu}
use Rattle.ill_der.specs.declared.fault.DerFault.{DerFault}
use Rattle.ill_core.specs.declared.taking.Taking.{Taking}
use Rattle.ill_record.specs.declared.fault.RecordFault.{RecordFault}
use Rattle.ill_store.specs.declared.store.StoreFault.TheVariants as stores
use Rattle.ill_store.specs.declared.store.NextCall.{NextCall}
use Rattle.ill_saved.specs.declared.fault.DeskFault.{DeskFault}
use Rattle.ill_saved.specs.declared.fault.DeskFault.TheVariants.{Bytes, Trailing, Exists, NoRecord, Store, Saved, OutOfMemory}
use Rattle.ill_saved.specs.Holdings.{Effects, DeskTakesApdu, IsReadFault}
use Rattle.ill_record.specs.Records.{Decodes}
use Rattle.ill_store.specs.Store.{Allows, CommitsAtFailure, HasRisen, StoreState, plan_after_call}

-- A desk: the sides that it holds in memory, and their store.
pub record DeskOf (L S : Type 0) : Type 0 where
  pub live : L
  pub store : S

-- ---- answers

-- The desk with the sides `old` answers bytes, and has the sides `new` after it. Reading gave an APDU and the bytes
-- after it, or a fault. If no bytes follow the APDU, the desk takes it. If bytes follow it, the answer is `Trailing`.
-- After a fault of the bytes, `Trailing` or `OutOfMemory`, nothing changes.
abbrev pub DeskTakes : {L K : Type 0} → Effects L K → L → Result (Apdu × List ℕ) DerFault → Result Taking DeskFault → L →
    Type 0
DeskTakes effects old (Err fault) answer new = (answer ≡ Err (Bytes fault)) × (new ≡ old)
DeskTakes effects old (Ok found) (Err OutOfMemory) new = new ≡ old
DeskTakes effects old (Ok (a, [])) answer new = DeskTakesApdu effects old a answer new
DeskTakes effects old (Ok (a, byte ∷ rest)) answer new = (answer ≡ Err Trailing) × (new ≡ old)

-- The answer is the APDU that is all of the bytes, or the fault of the bytes. If bytes follow the APDU, the answer is
-- `Trailing`. Memory can run out for each APDU that is read.
abbrev pub IsOneApdu : Result (Apdu × List ℕ) DerFault → Result Apdu DeskFault → Type 0
IsOneApdu (Err fault) answer = answer ≡ Err (Bytes fault)
IsOneApdu (Ok found) (Err OutOfMemory) = Unit {0}
IsOneApdu (Ok (a, [])) (Ok found) = found ≡ a
IsOneApdu (Ok (a, byte ∷ rest)) (Err Trailing) = Unit {0}
IsOneApdu (Ok found) answer = ⊥

-- A desk with a correct store has saved `bytes`, and `new` are the committed bytes. If the save is done, `bytes` are
-- committed. If memory ran out, nothing has changed. After `Failed`, the old or the new bytes are committed. Unless
-- memory ran out, `plan` allows the store's answer.
abbrev pub SaveCommits : Option NextCall → List ℕ → Result (Unit {0}) DeskFault → Option (List ℕ) →
    Option (List ℕ) → Type 0
SaveCommits plan bytes (Ok done) old new = (new ≡ Some bytes) × Allows {X = Unit {0}} plan (Ok tt)
SaveCommits plan bytes (Err (Store stores.Failed)) old new =
    CommitsAtFailure plan bytes old new × Allows {X = Unit {0}} plan (Err stores.Failed)
SaveCommits plan bytes (Err OutOfMemory) old new = new ≡ old
SaveCommits plan bytes (Err other) old new = ⊥

-- If the answer to a save is not `OutOfMemory`, the live sides were encoded, and `Holds` holds of them.
abbrev pub IfEncoded : {L : Type 0} → (L → Type 0) → Result (Unit {0}) DeskFault → L → Type 0
IfEncoded Holds (Err OutOfMemory) live = Unit {0}
IfEncoded Holds answer live = Holds live

-- A call of the store spends its plan. If memory ran out before the call, the plan is unchanged.
abbrev pub PlanAfter : Result (Unit {0}) DeskFault → Option NextCall → Option NextCall → Type 0
PlanAfter (Err OutOfMemory) old new = (new ≡ plan_after_call old) ⊎ (new ≡ old)
PlanAfter answer old new = new ≡ plan_after_call old

-- The answer to a save is that it is done, that the store failed, or that memory ran out.
abbrev pub IsSaveFault : Result (Unit {0}) DeskFault → Type 0
IsSaveFault (Ok done) = Unit {0}
IsSaveFault (Err (Store stores.Failed)) = Unit {0}
IsSaveFault (Err OutOfMemory) = Unit {0}
IsSaveFault (Err other) = ⊥

-- ---- loading

-- The answer of a load from a correct store is the committed value, `None` if nothing is committed, or a fault. The
-- fault comes from the store as planned, from reading the bytes, or from a lack of memory. `read` decodes bytes.
-- `begins` is true of bytes if decoding them may take memory.
abbrev pub Loads : {V : Type 0} → (List ℕ → Result V RecordFault) → (List ℕ → Bool) → Option (List ℕ) →
    Option NextCall → Result (Option V) DeskFault → Type 0
Loads read begins None plan (Ok None) = Allows {X = Unit {0}} plan (Ok tt)
Loads read begins (Some bytes) plan (Ok (Some value)) =
    (read bytes ≡ Ok value) × Allows {X = Unit {0}} plan (Ok tt)
Loads read begins committed plan (Err (Store fault)) = Allows {X = Unit {0}} plan (Err fault)
Loads read begins (Some bytes) plan (Err (Saved fault)) =
    Decodes (read bytes) (begins bytes) (Err fault) × Allows {X = Unit {0}} plan (Ok tt)
Loads read begins committed plan (Err OutOfMemory) = Unit {0}
Loads read begins committed plan answer = ⊥

-- `leaves` holds of each record that a loss of power may leave. Each of these records is `committed`.
abbrev pub LeavesCommitted : Option (List ℕ) → (Option (List ℕ) → Type 0) → Type 0
LeavesCommitted committed leaves = (left : Option (List ℕ)) → leaves left → left ≡ committed

-- `before` holds of each record that a loss of power might have left before a call. `after` holds of each that it may
-- leave after the call. Each record of `after` is `other`, or one of `before`.
abbrev pub LeavesBeforeOr : Option (List ℕ) → (Option (List ℕ) → Type 0) → (Option (List ℕ) → Type 0) → Type 0
LeavesBeforeOr other before after = (left : Option (List ℕ)) → after left → before left ⊎ (left ≡ other)

-- The fault is one that loading can have: of the store, of the record, or a lack of memory. `has_digest` is true if a
-- record ends with a digest.
abbrev pub IsLoadFault : Bool → DeskFault → Type 0
IsLoadFault has_digest (Store stores.Failed) = Unit {0}
IsLoadFault has_digest (Store stores.TooLarge) = Unit {0}
IsLoadFault has_digest fault = IsReadFault has_digest fault

-- A desk restarts from a correct store. If the restart is done, the live value is the committed one. It can fail as the
-- store plans, or if memory runs out.
abbrev pub Restarts : {V : Type 0} → Result V RecordFault → Option NextCall → Result (Unit {0}) DeskFault →
    V → Type 0
Restarts committed plan (Ok done) new = (committed ≡ Ok new) × Allows {X = Unit {0}} plan (Ok tt)
Restarts committed plan (Err (Store fault)) new = Allows {X = Unit {0}} plan (Err fault)
Restarts committed plan (Err OutOfMemory) new = Unit {0}
Restarts committed plan (Err other) new = ⊥

-- If memory ran out, the load of the store takes memory: `takes_memory` is true.
abbrev pub RunsOutInLoad : {X : Type 0} → Bool → Result X DeskFault → Type 0
RunsOutInLoad true answer = Unit {0}
RunsOutInLoad false (Err OutOfMemory) = ⊥
RunsOutInLoad false answer = Unit {0}

-- If nothing is committed in a correct store, memory runs out only in its load.
abbrev pub NothingTakesMemory : {X : Type 0} → StoreState → Bool → Result X DeskFault → Type 0
NothingTakesMemory old takes_memory answer =
    old.is_correct ≡ true → old.committed ≡ None → RunsOutInLoad takes_memory answer

-- All messages that the live sides have issued are released.
abbrev pub AreAllReleased : {L K : Type 0} → Effects L K → L → Type 0
AreAllReleased effects live = live ≡ effects.saves live

-- After a restart that is done, all messages are released. After a fault, the sides are unchanged, and the fault is one
-- of loading.
abbrev pub RestartLeaves : {L K : Type 0} → Effects L K → Result (Unit {0}) DeskFault → L → L → Type 0
RestartLeaves effects (Ok done) old new = AreAllReleased effects new
RestartLeaves effects (Err fault) old new = (new ≡ old) × IsLoadFault effects.has_digest fault

-- If the desk answers that its store failed, the count of failures has risen or is at its maximum.
abbrev pub DeskFailsCounted : {X : Type 0} → Result X DeskFault → ℕ → ℕ → Type 0
DeskFailsCounted (Err (Store stores.Failed)) old new = HasRisen old new
DeskFailsCounted answer old new = Unit {0}

-- The store's count of failures has not fallen. If the desk answers `Failed`, it has risen or is at its maximum.
abbrev pub CountsDeskFailure : {X : Type 0} → Result X DeskFault → ℕ → ℕ → Type 0
CountsDeskFailure answer old new = (old ≤ new) × DeskFailsCounted answer old new

-- ---- the store of a desk

-- The store of a desk is in state `new` after a call that only loads. It has the same path, is as
-- correct as before, counts its failures, and has spent its plan. If it is correct, its committed bytes are unchanged.
pub record DeskLoads {X : Type 0} (old : StoreState) (answer : Result X DeskFault) (new : StoreState) : Type 0 where
  pub path : new.path ≡ old.path
  pub committed : old.is_correct ≡ true → new.committed ≡ old.committed
  pub counted : CountsDeskFailure answer old.failures new.failures
  pub correct : new.is_correct ≡ old.is_correct
  pub plan : new.plan ≡ plan_after_call old.plan

-- The store of a desk is in state `new` after a save of `bytes`. It has the same path, is as
-- correct as before, and counts its failures. Its plan is as `PlanAfter` says. If it is correct, `SaveCommits` gives
-- its committed bytes.
pub record DeskSaves (bytes : List ℕ) (old : StoreState) (answer : Result (Unit {0}) DeskFault) (new : StoreState)
    : Type 0 where
  pub path : new.path ≡ old.path
  pub committed : old.is_correct ≡ true → SaveCommits old.plan bytes answer old.committed new.committed
  pub counted : CountsDeskFailure answer old.failures new.failures
  pub correct : new.is_correct ≡ old.is_correct
  pub plan : PlanAfter answer old.plan new.plan

-- ---- beginning

-- Returns the answer alone of a call that returns the store together with a fault.
abbrev pub answer_of : {D S F : Type 0} → Result D (F × S) → Result (Unit {0}) F
answer_of (Ok desk) = Ok tt
answer_of (Err fault) = Err fault.0

-- Returns the store after a call that returns the store together with a fault. `store` gives the store of a desk.
abbrev pub store_after : {D S F : Type 0} → (D → S) → Result D (F × S) → S
store_after store (Ok desk) = store desk
store_after store (Err fault) = fault.1

-- Returns the store of the desk, or the store that came with the fault.
abbrev pub store_of : {L S F : Type 0} → Result (DeskOf L S) (F × S) → S
store_of answer = store_after (λ desk. desk.store) answer

-- The answer of creating a desk over a correct store: done if nothing is committed, and otherwise `Exists`. The store
-- may also fail as planned, and memory can run out.
abbrev pub Creates : Option (List ℕ) → Option NextCall → Result (Unit {0}) DeskFault → Type 0
Creates None plan (Ok done) = Allows {X = Unit {0}} plan (Ok tt)
Creates (Some bytes) plan (Err Exists) = Allows {X = Unit {0}} plan (Ok tt)
Creates committed plan (Err (Store fault)) = Allows {X = Unit {0}} plan (Err fault)
Creates committed plan (Err OutOfMemory) = Unit {0}
Creates committed plan answer = ⊥

-- The answer of creating a desk is that it is done, `Exists`, a fault of the store, or that memory ran out.
abbrev pub IsCreateAnswer : Result (Unit {0}) DeskFault → Type 0
IsCreateAnswer (Ok done) = Unit {0}
IsCreateAnswer (Err Exists) = Unit {0}
IsCreateAnswer (Err (Store stores.Failed)) = Unit {0}
IsCreateAnswer (Err (Store stores.TooLarge)) = Unit {0}
IsCreateAnswer (Err OutOfMemory) = Unit {0}
IsCreateAnswer (Err other) = ⊥

-- A desk that starts over a correct store has the live value that is read from the committed bytes. If nothing is
-- committed, the answer is `NoRecord`. Other faults come from the store, the bytes or a lack of memory. `read` decodes
-- bytes, `begins` says if that may take memory, and `live` gives the live value of a desk.
abbrev pub Begins : {V D S : Type 0} → (List ℕ → Result V RecordFault) → (List ℕ → Bool) → (D → V) →
    Option (List ℕ) → Option NextCall → Result D (DeskFault × S) → Type 0
Begins read begins live (Some bytes) plan (Ok desk) =
    (read bytes ≡ Ok (live desk)) × Allows {X = Unit {0}} plan (Ok tt)
Begins read begins live None plan (Err (NoRecord, store)) = Allows {X = Unit {0}} plan (Ok tt)
Begins read begins live committed plan (Err (Store fault, store)) = Allows {X = Unit {0}} plan (Err fault)
Begins read begins live (Some bytes) plan (Err (Saved fault, store)) =
    Decodes (read bytes) (begins bytes) (Err fault) × Allows {X = Unit {0}} plan (Ok tt)
Begins read begins live committed plan (Err (OutOfMemory, store)) = Unit {0}
Begins read begins live committed plan answer = ⊥

-- The answer of starting a desk is that it is done, `NoRecord`, or a fault of loading. `has_digest` is true if a record
-- ends with a digest.
abbrev pub IsStartAnswer : Bool → Result (Unit {0}) DeskFault → Type 0
IsStartAnswer has_digest (Ok done) = Unit {0}
IsStartAnswer has_digest (Err NoRecord) = Unit {0}
IsStartAnswer has_digest (Err fault) = IsLoadFault has_digest fault
