-- These are answers that a call of a desk or of its store may not give, and changes that it may not make. By the laws
-- the definitions of the calls exclude them all.
use Rattle.std.specs.Prelude.{◌≡◌, ℕ, Bool, false, List, Option, Some, Result, Ok, Err}
use Rattle.ill_der.specs.declared.fault.DerFault.{DerFault}
use Rattle.ill_core.specs.declared.refusal.Refusal.{Refusal}
use Rattle.ill_record.specs.declared.fault.RecordFault.{RecordFault}
use Rattle.ill_record.specs.declared.fault.RecordFault.TheVariants as records
use Rattle.ill_store.specs.declared.store.StoreFault.{StoreFault}
use Rattle.ill_store.specs.declared.store.StoreFault.TheVariants as stores
use Rattle.ill_store.specs.declared.store.NextCall.{NextCall}
use Rattle.ill_saved.specs.declared.fault.DeskFault.{DeskFault}
use Rattle.ill_saved.specs.declared.fault.DeskFault.TheVariants.{Core, Bytes, Trailing, Exists, NoRecord, Store, Saved}
use Rattle.ill_saved.specs.declared.fault.DeskFault.TheVariants.{NoSuchMessage, NotSaved, NoSuchTransaction, DeskFull}
use Rattle.ill_saved.specs.declared.fault.DeskFault.TheVariants.{OutOfMemory}
use Rattle.ill_store.specs.Store.{plan_after_call}

-- ---- faults

-- The fault is of an action, of an APDU or of a message. Or it is a store's own lack of memory. No call that loads or
-- saves a record has it.
pub data IsOfNoRecord : DeskFault → Type 0 where
  core : (refusal : Refusal) → IsOfNoRecord (Core refusal)
  bytes : (fault : DerFault) → IsOfNoRecord (Bytes fault)
  trailing : IsOfNoRecord Trailing
  no_such_message : IsOfNoRecord NoSuchMessage
  not_saved : IsOfNoRecord NotSaved
  no_such_transaction : IsOfNoRecord NoSuchTransaction
  desk_full : IsOfNoRecord DeskFull
  store_memory : IsOfNoRecord (Store stores.OutOfMemory)

-- A save may not have this fault.
pub data CannotSave : DeskFault → Type 0 where
  save_other : (fault : DeskFault) → IsOfNoRecord fault → CannotSave fault
  save_exists : CannotSave Exists
  save_no_record : CannotSave NoRecord
  save_record : (fault : RecordFault) → CannotSave (Saved fault)
  save_too_large : CannotSave (Store stores.TooLarge)

-- Creating a desk may not have this fault.
pub data CannotCreate : DeskFault → Type 0 where
  create_other : (fault : DeskFault) → IsOfNoRecord fault → CannotCreate fault
  create_no_record : CannotCreate NoRecord
  create_record : (fault : RecordFault) → CannotCreate (Saved fault)

-- Loading may not have this fault. `has_digest` is true if a record ends with a digest.
pub data CannotLoad (has_digest : Bool) : DeskFault → Type 0 where
  load_other : (fault : DeskFault) → IsOfNoRecord fault → CannotLoad has_digest fault
  load_exists : CannotLoad has_digest Exists
  load_no_record : CannotLoad has_digest NoRecord
  load_memory : CannotLoad has_digest (Saved records.OutOfMemory)
  load_digest : has_digest ≡ false → CannotLoad has_digest (Saved records.Digest)

-- Reading a record may not have this fault: loading may not have it, or it is a fault of the store. `has_digest` is
-- true if a record ends with a digest.
pub data CannotRead (has_digest : Bool) : DeskFault → Type 0 where
  read_other : (fault : DeskFault) → CannotLoad has_digest fault → CannotRead has_digest fault
  read_store : (fault : StoreFault) → CannotRead has_digest (Store fault)

-- ---- changes

-- A save of `bytes` over the committed `old` may not commit `new`. Each case gives the answer, and why `new` is wrong.
pub data CommitsWrong (bytes : List ℕ) (old new : Option (List ℕ)) : Result (Unit {0}) DeskFault → Type 0 where
  done : (new ≡ Some bytes → ⊥) → CommitsWrong bytes old new (Ok tt)
  failed : (new ≡ old → ⊥) → (new ≡ Some bytes → ⊥) → CommitsWrong bytes old new (Err (Store stores.Failed))
  memory : (new ≡ old → ⊥) → CommitsWrong bytes old new (Err OutOfMemory)

-- A save may not leave the plan `new`: it is neither the plan `old` nor the plan after a call.
pub data PlansWrong (old new : Option NextCall) : Type 0 where
  plan_other : (new ≡ plan_after_call old → ⊥) → (new ≡ old → ⊥) → PlansWrong old new
