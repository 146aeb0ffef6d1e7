-- The faults of commands, made of the faults of a desk and its store.
use Rattle.std.specs.Prelude.{◌≡◌, ◌⊎◌, ℕ, ◌≤◌, Result, Err}
use Rattle.ill_saved.specs.declared.fault.DeskFault.{DeskFault}
use Rattle.ill_saved.specs.declared.fault.DeskFault.TheVariants as desks
use Rattle.ill_store.specs.declared.store.StoreFault.TheVariants.{Failed}
use Rattle.ill_store.specs.Store.{HasRisen}
use Rattle.ill_text.specs.declared.fault.ToolFault.{ToolFault}
use Rattle.ill_text.specs.declared.fault.ToolFault.TheVariants.{Desk, OutOfMemory}

-- Returns the fault of a command whose desk had `fault`.
abbrev pub desk_fault : DeskFault → ToolFault
desk_fault desks.OutOfMemory = OutOfMemory
desk_fault other = Desk other

-- The fault is a failure of a file, a folder or a stream, or a lack of memory.
abbrev pub IsFileFault : ToolFault → Type 0
IsFileFault fault = (fault ≡ Desk (desks.Store Failed)) ⊎ (fault ≡ OutOfMemory)

-- The fault is one of a desk (`Desk`), or a lack of memory. If a file is not opened or its lock not taken, it is no
-- other.
abbrev pub IsOpenFault : ToolFault → Type 0
IsOpenFault (Desk fault) = Unit {0}
IsOpenFault OutOfMemory = Unit {0}
IsOpenFault other = ⊥

-- If the answer is a failure of the store, the count of such failures has risen from `old` to `new`, or is at its
-- maximum.
abbrev pub ToolFailsCounted : {X : Type 0} → Result X ToolFault → ℕ → ℕ → Type 0
ToolFailsCounted (Err (Desk (desks.Store Failed))) old new = HasRisen old new
ToolFailsCounted answer old new = Unit {0}

-- The count of the store's failures never falls. If the answer is a failure of the store, the count has
-- risen, or is at its maximum.
abbrev pub CountsToolFailure : {X : Type 0} → Result X ToolFault → ℕ → ℕ → Type 0
CountsToolFailure answer old new = (old ≤ new) × ToolFailsCounted answer old new
