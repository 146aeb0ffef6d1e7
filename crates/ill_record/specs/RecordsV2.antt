-- The bytes of the saved record of many sides, version 2 (this profile's own).
-- A record ends with a digest, the SHA-256 of FIPS 180-4.
use Rattle.std.specs.Prelude.{◌≡◌, ℕ, ◌≤◌, ◌-◌, Bool, true, false, not, nat_eq, nat_lt, nat_le, if◌then◌else◌, List, [], ◌∷◌}
use Rattle.std.specs.Prelude.{◌++◌, length, take, drop, Option, Some, None, Result, Ok, Err}
use Rattle.std.specs.Int.{w16, to_be_bytes, from_be_bytes}
use Rattle.std.specs.List.{starts_with}
use Rattle.std.specs.Str.{bytes_eq}
use Rattle.std.specs.Result.{result_ok}
use Rattle.sha2.specs.Sha256.{sha256}
use Rattle.ill_der.specs.Contents.{Contents}
use Rattle.ill_der.specs.Format.{◌>>=◌, Cursor, cursor_at, followed_by}
use Rattle.ill_record.specs.declared.role.Role.{Role}
use Rattle.ill_record.specs.declared.side.Side.{Side}
use Rattle.ill_record.specs.declared.fault.LayoutFault.{LayoutFault}
use Rattle.ill_record.specs.declared.fault.LayoutFault.TheVariants.{Bad}
use Rattle.ill_record.specs.declared.fault.RecordFault.{RecordFault}
use Rattle.ill_record.specs.declared.fault.RecordFault.TheVariants as faults
use Rattle.ill_record.specs.Side.{role_of, is_idle}
use Rattle.ill_record.specs.Sides.{SidesOf, most_sides, may_be_held, put_refusal, put_last}
use Rattle.ill_record.specs.Ranges.{Each, IsSide}
use Rattle.ill_record.specs.Layout.{Field, sized, counted_by, record_fault}
use Rattle.ill_record.specs.Records.{role, all_of, record_at, record_encoding, begins_as_record}

-- The four octets `ILL1`.
abbrev pub version_1 : List ℕ
version_1 = 73 ∷ 76 ∷ 76 ∷ 49 ∷ []

-- The four octets `ILL2`.
abbrev pub version_2 : List ℕ
version_2 = 73 ∷ 76 ∷ 76 ∷ 50 ∷ []

-- The field of a number in two octets, the high one first.
abbrev pub two_octets : Field ℕ
two_octets = sized 2 (record { encode = to_be_bytes w16; read = λ bytes. Some (from_be_bytes w16 bytes) })

-- Returns `n` if a desk may hold `n` sides: at most 1,000. Returns `None` otherwise.
abbrev pub few_sides : ℕ → Option ℕ
few_sides n = if nat_le n most_sides then Some n else None

-- The field of the number of sides, in two octets. A number over the limit is a fault.
abbrev pub side_count : Field ℕ
side_count =
    sized 2 (record { encode = to_be_bytes w16; read = λ bytes. few_sides (from_be_bytes w16 bytes) })

-- Returns the result with its fault replaced by one at the offset `at`.
abbrev pub bad_at : {X : Type 0} → ℕ → Result X LayoutFault → Result X LayoutFault
bad_at at (Ok value) = Ok value
bad_at at (Err fault) = Err (Bad at)

-- The contents of a part: the record of one side in version 1.
abbrev pub one_record : Contents Side
one_record = record { encode = record_encoding; read = λ bytes. result_ok (record_at bytes) }

-- The field of a side: the length of its record, and the record. A fault in the record is at its first byte.
abbrev pub part : Field Side
part = record {
  encode = λ side. two_octets.encode (length (record_encoding side)) ++ record_encoding side;
  read = λ left. bad_at left.at (two_octets.read left) >>= λ size.
      bad_at size.1.at ((sized size.0 one_record).read size.1);
}

-- The field of the role, the number of sides, and each side.
abbrev pub role_and_sides : Field (Role × List Side)
role_and_sides = followed_by role (counted_by side_count part)

-- Returns the encoding of the sides, without the digest.
abbrev pub body_of : SidesOf → List ℕ
body_of held = version_2 ++ role_and_sides.encode (held.role, held.sides)

-- Returns the encoding of the sides, followed by its digest. The sides have no other encoding.
unfoldable pub sides_encoding : SidesOf → List ℕ
sides_encoding held = body_of held ++ sha256 (body_of held)

-- Returns all bytes but the last 32, which are the digest.
abbrev pub body : List ℕ → List ℕ
body bytes = take (length bytes - 32) bytes

-- Returns the bytes between the version and the digest. Fewer than 39 bytes are `Short`, bytes without `ILL2` first
-- are `Bad 0`, and a wrong digest is `Digest`.
unfoldable pub unsealed : List ℕ → Result (List ℕ) RecordFault
unsealed bytes =
    if nat_lt (length bytes) 39 then Err faults.Short else
    (if not (starts_with nat_eq bytes version_2) then Err (faults.Bad 0) else
    (if bytes_eq (drop (length bytes - 32) bytes) (sha256 (body bytes)) then Ok (drop 4 (body bytes))
    else Err faults.Digest))

-- Returns the sides if one desk may hold them together, and otherwise `Inconsistent`.
abbrev pub together : SidesOf → Result SidesOf RecordFault
together held = if may_be_held held then Ok held else Err faults.Inconsistent

-- Returns the role and the sides that were read, if one desk may hold them together, or the first fault.
abbrev pub consistent_sides : Result (Role × List Side) LayoutFault → Result SidesOf RecordFault
consistent_sides (Ok found) = together (record { role = found.0; sides = found.1 })
consistent_sides (Err fault) = Err (record_fault fault)

-- Returns the sides that all of `octets` encode, or the first fault. `octets` are the bytes after the version.
abbrev pub sides_at : List ℕ → Result SidesOf RecordFault
sides_at octets = consistent_sides (all_of (role_and_sides.read (cursor_at 4 octets)))

-- Returns the sides of a desk with only this side, or with none if this side is idle.
abbrev pub alone : Side → SidesOf
alone side = record { role = role_of side; sides = if is_idle side then [] else side ∷ [] }

-- Returns the sides of a desk with only the side that was read, or the fault.
abbrev pub read_alone : Result Side RecordFault → Result SidesOf RecordFault
read_alone (Ok side) = Ok (alone side)
read_alone (Err fault) = Err fault

-- Returns true if the bytes begin with the four octets `ILL1`.
abbrev pub is_version_1 : List ℕ → Bool
is_version_1 bytes = starts_with nat_eq bytes version_1

-- Returns the sides that all of the bytes encode, or the first fault. A record of version 1 is read as one side.
unfoldable pub records_at : List ℕ → Result SidesOf RecordFault
records_at bytes =
    if is_version_1 bytes then read_alone (record_at bytes) else (unsealed bytes >>= sides_at)

-- Returns true if a role and a number of sides above 0 were read.
abbrev pub counts_any : Result ((Role × ℕ) × Cursor) LayoutFault → Bool
counts_any (Ok found) = nat_lt 0 found.0.1
counts_any (Err fault) = false

-- Returns true if `octets` begin with a role and a number of sides above 0.
abbrev pub has_sides : List ℕ → Bool
has_sides octets = counts_any ((followed_by role side_count).read (cursor_at 4 octets))

-- Returns true if `unsealed` gave octets that begin with a role and a number of sides above 0. A fault gives false.
abbrev pub has_sides_after : Result (List ℕ) RecordFault → Bool
has_sides_after (Ok octets) = has_sides octets
has_sides_after (Err fault) = false

-- Returns true if decoding may take memory. In version 1, the bytes begin as a record up to its qualifiers.
-- In version 2, length, version and digest are right. Then a role and a number of sides above 0 follow the version.
unfoldable pub begins_as_records : List ℕ → Bool
begins_as_records bytes =
    if is_version_1 bytes then begins_as_record bytes else has_sides_after (unsealed bytes)

-- One desk may hold the sides together. Each is consistent and in range, and they are at most 1,000.
pub record AreSides (all : SidesOf) : Type 0 where
  pub held : may_be_held all ≡ true
  pub each : Each IsSide all.sides
  pub few : length all.sides ≤ most_sides

-- A side that was read is put after the sides `old`, which gives `new`, or putting it fails.
-- It fails if the desk may not hold it with the others, or if memory runs out.
abbrev pub PutsRead : SidesOf → Side → Result (Unit {0}) RecordFault → SidesOf → Type 0
PutsRead old side (Ok done) new = (put_refusal old side ≡ None) × (new ≡ put_last old side)
PutsRead old side (Err faults.Inconsistent) new = put_refusal old side ≡ None → ⊥
PutsRead old side (Err faults.OutOfMemory) new = Unit {0}
PutsRead old side (Err other) new = ⊥
