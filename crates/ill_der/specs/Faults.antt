-- The offsets of faults in bytes.
use Rattle.std.specs.Prelude.{ℕ, Option, Some, None}
use Rattle.ill_der.specs.declared.fault.DerFault.{DerFault}
use Rattle.ill_der.specs.declared.fault.DerFault.TheVariants.{Short, Tag, Length, Field, OutOfMemory}

-- Returns the offset of a fault, if it has one. The offset of Short is the end of the bytes.
abbrev pub place_of : DerFault → Option ℕ
place_of (Short at) = Some at
place_of (Tag at) = Some at
place_of (Length at) = Some at
place_of (Field at) = Some at
place_of OutOfMemory = None
