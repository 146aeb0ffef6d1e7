-- The fault of a desk for each fault of a lower layer (this profile's own).
use Rattle.ill_der.specs.declared.fault.DerFault.{DerFault}
use Rattle.ill_der.specs.declared.fault.DerFault.TheVariants as ders
use Rattle.ill_core.specs.declared.refusal.Refusal.{Refusal}
use Rattle.ill_core.specs.declared.refusal.Refusal.TheVariants as refusals
use Rattle.ill_store.specs.declared.store.StoreFault.{StoreFault}
use Rattle.ill_store.specs.declared.store.StoreFault.TheVariants as stores
use Rattle.ill_saved.specs.declared.file_lock.LockFault.{LockFault}
use Rattle.ill_saved.specs.declared.file_lock.LockFault.TheVariants as locks
use Rattle.ill_record.specs.declared.fault.RecordFault.{RecordFault}
use Rattle.ill_record.specs.declared.fault.RecordFault.TheVariants as records
use Rattle.ill_saved.specs.declared.fault.DeskFault.{DeskFault}
use Rattle.ill_saved.specs.declared.fault.DeskFault.TheVariants.{Core, Bytes, Store, Saved, OutOfMemory}

-- Returns the fault of a desk for a fault of DER. A lack of memory becomes the desk's own `OutOfMemory`.
abbrev pub of_bytes : DerFault → DeskFault
of_bytes ders.OutOfMemory = OutOfMemory
of_bytes other = Bytes other

-- Returns the fault of a desk for a refusal of a side. A lack of memory becomes the desk's own `OutOfMemory`.
abbrev pub of_core : Refusal → DeskFault
of_core refusals.OutOfMemory = OutOfMemory
of_core other = Core other

-- Returns the fault of a desk for a fault of its store. A lack of memory becomes the desk's own `OutOfMemory`.
abbrev pub of_store : StoreFault → DeskFault
of_store stores.OutOfMemory = OutOfMemory
of_store other = Store other

-- Returns the fault of a store whose lock was not taken.
abbrev pub of_lock : LockFault → StoreFault
of_lock locks.OutOfMemory = stores.OutOfMemory
of_lock other = stores.Failed

-- Returns the fault of a desk for a fault of its record. A lack of memory becomes the desk's own `OutOfMemory`.
abbrev pub of_record : RecordFault → DeskFault
of_record records.OutOfMemory = OutOfMemory
of_record other = Saved other
