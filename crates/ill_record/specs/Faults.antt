-- The offset of a fault of a record (this profile's own).
use Rattle.std.specs.Prelude.{ℕ, Option, Some, None}
use Rattle.ill_record.specs.declared.fault.RecordFault.{RecordFault}
use Rattle.ill_record.specs.declared.fault.RecordFault.TheVariants as records

-- Returns the offset of the fault, if it has one.
abbrev pub place_of : RecordFault → Option ℕ
place_of (records.Bad at) = Some at
place_of other = None
