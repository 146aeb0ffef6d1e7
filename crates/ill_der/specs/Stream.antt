-- Reading one APDU from a stream, and writing one.
use Rattle.std.specs.Prelude.{◌≡◌, ℕ, ◌-◌, ◌<◌, List, [], length, take, Option, Some, None, Result, Ok, Err}
use Rattle.std.specs.Io.KnownBytes.{Consumes, Appends, IsAtEnd}
use Rattle.ill_values.specs.declared.apdu.Apdu.{Apdu}
use Rattle.ill_der.specs.declared.fault.DerFault.{DerFault}
use Rattle.ill_der.specs.declared.fault.DerFault.TheVariants.{Short, Tag, Length, Field, OutOfMemory}
use Rattle.ill_der.specs.declared.fault.ReadFault.{ReadFault}
use Rattle.ill_der.specs.declared.fault.ReadFault.TheVariants as faults
use Rattle.ill_der.specs.declared.fault.WriteFault.{WriteFault}
use Rattle.ill_der.specs.declared.fault.WriteFault.TheVariants as writing
use Rattle.ill_values.specs.Apdu.{IsApdu}
use Rattle.ill_der.specs.declared.header.Header.{Header}
use Rattle.ill_der.specs.ShortForm.{encoding, header_at, apdu_at}

-- `bytes` is less than an APDU, and further bytes may complete one.
abbrev pub IsUnfinished : List ℕ → Type 0
IsUnfinished bytes = apdu_at bytes ≡ Err (Short (length bytes))

-- Each proper prefix of `bytes` is unfinished.
abbrev pub AreUnfinished : List ℕ → Type 0
AreUnfinished bytes = (size : ℕ) → size < length bytes → IsUnfinished (take size bytes)

-- `bytes` is the encoding of one APDU in range.
abbrev pub EncodesOne : List ℕ → Type 0
EncodesOne bytes = (apdu : Apdu) × IsApdu apdu × (bytes ≡ encoding apdu)

-- If the fault is Short, `P` holds.
abbrev pub IfShort : DerFault → Type 0 → Type 0
IfShort (Short at) P = P
IfShort (Tag at) P = Unit {0}
IfShort (Length at) P = Unit {0}
IfShort (Field at) P = Unit {0}
IfShort OutOfMemory P = Unit {0}

-- The result is right if `bytes` were taken from the reader, and `left` are the bytes after them.
-- It is the APDU of `bytes`, none at the end of the input, or the fault of `bytes`. Short comes only at the end.
-- If `bytes` has a fault, each proper prefix of `bytes` is unfinished.
-- If a read failed, `bytes` is unfinished. If memory ran out, `bytes` is the encoding of one APDU.
abbrev pub IsAnswer : List ℕ → Option (List ℕ) → Result (Option Apdu) ReadFault → Type 0
IsAnswer bytes left (Ok (Some apdu)) = IsApdu apdu × (bytes ≡ encoding apdu)
IsAnswer bytes left (Ok None) = (bytes ≡ []) × IsAtEnd left
IsAnswer bytes left (Err (faults.Bytes fault)) =
    (apdu_at bytes ≡ Err fault) × AreUnfinished bytes × IfShort fault (IsAtEnd left)
IsAnswer bytes left (Err faults.Read) = IsUnfinished bytes
IsAnswer bytes left (Err faults.OutOfMemory) = EncodesOne bytes

-- A reader that had the bytes `old` has `new` left, and `result` is the answer for the bytes between.
abbrev pub ReadsApdu : Option (List ℕ) → Option (List ℕ) → Result (Option Apdu) ReadFault → Type 0
ReadsApdu old new result = (bytes : List ℕ) × Consumes old new bytes × IsAnswer bytes new result

-- Returns the fault of a read for a fault of bytes. OutOfMemory becomes the read's own OutOfMemory.
abbrev pub read_fault : DerFault → ReadFault
read_fault OutOfMemory = faults.OutOfMemory
read_fault other = faults.Bytes other

-- The result is the APDU of `bytes`, a fault of `bytes` other than Short, or OutOfMemory for its APDU.
abbrev pub IsJudged : List ℕ → Result (Option Apdu) ReadFault → Type 0
IsJudged bytes (Ok (Some apdu)) = IsApdu apdu × (bytes ≡ encoding apdu)
IsJudged bytes (Ok None) = ⊥
IsJudged bytes (Err (faults.Bytes fault)) = (apdu_at bytes ≡ Err fault) × IfShort fault ⊥
IsJudged bytes (Err faults.Read) = ⊥
IsJudged bytes (Err faults.OutOfMemory) = EncodesOne bytes

-- Let `size` bytes have this header, or this fault of their header. Returns the least number of bytes that they lack to
-- be an APDU.
abbrev pub missing_by : Result Header DerFault → ℕ → ℕ
missing_by (Ok header) size = header.size - size
missing_by (Err (Short at)) size = 1
missing_by (Err other) size = 0

-- Returns the least number of bytes that `bytes` lacks to be an APDU. It is 0 if the APDU has its whole size, or if its
-- header is invalid.
unfoldable pub missing_of : List ℕ → ℕ
missing_of bytes = missing_by (header_at bytes) (length bytes)

-- A writer that held `before` holds `after`: `before` with all of `bytes` appended.
-- If the writer failed, a prefix of `bytes` was appended. If memory ran out, nothing was appended.
abbrev pub Writes : Option (List ℕ) → Option (List ℕ) → List ℕ → Result (Unit {0}) WriteFault → Type 0
Writes before after bytes (Ok done) = Appends before after bytes
Writes before after bytes (Err writing.Write) = (size : ℕ) × Appends before after (take size bytes)
Writes before after bytes (Err writing.OutOfMemory) = after ≡ before
