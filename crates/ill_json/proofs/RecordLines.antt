-- Proves that the line of `verify` is an object of JSON: each of its fields is read (`FieldReads`).
use Rattle.std.proofs.Common.{◌≡◌, ℕ, suc, ◌≤◌, ◌<◌, ◌^◌, ◌*◌, ◌-◌, Bool, true, false, List, [], ◌∷◌, length, Option, Some, None}
use Rattle.std.proofs.Common.{refl, sym}
use Rattle.std.proofs.Common.{subst, arith, decimal, IfSome}
use Rattle.std.specs.Prelude.{if◌then◌else◌}
use Rattle.std.proofs.lemmas.List.Sums.{sum_by-cons}
use Rattle.ill_record.specs.declared.side.Side.{Side}
use Rattle.ill_record.specs.declared.fault.RecordFault.{RecordFault}
use Rattle.ill_record.specs.declared.fault.RecordFault.TheVariants as records
use Rattle.ill_record.specs.Faults.{place_of}
use Rattle.ill_record.specs.Ranges.{Each, IsSide}
use Rattle.ill_record.specs.RecordsV2.{AreSides, is_version_1}
use Rattle.ill_record.specs.Side.{issued_of}
use Rattle.ill_record.specs.Sides.{SidesOf, most_sides}
use Rattle.ill_text.specs.declared.form.Form.TheVariants as forms
use Rattle.ill_text.specs.ApduObject.{object_line}
use Rattle.ill_text.specs.Json.{optional}
use Rattle.ill_show.specs.Verify.{fault_fields, fault_word, issued_by_all, record_fields, record_text, version_of}
use Rattle.ill_json.specs.Objects.{IsObjectLine}
use Rattle.ill_json.proofs.Fields.{field_reads, number_value, optional_value}
use Rattle.ill_json.proofs.LineLemmas.{line_is}
use Rattle.ill_json.proofs.Names.{role_printable}
use Rattle.ill_json.proofs.Shown.{are_printable}
use Rattle.ill_json.proofs.Sides.{name_value}
use Rattle.ill_json.proofs.Values.{FieldReads, HasValue}

-- The version of a record has 64 bits.
version_small : (is_first : Bool) → (if is_first then 1 else 2) < 2 ^ 64
version_small true = omega arith
version_small false = omega arith

-- If a desk may hold each of the sides, all together have issued at most 255 messages for each side.
issued_few : (sides : List Side) → Each IsSide sides → issued_by_all sides ≤ length sides * 255
unfolding Each
issued_few [] each = omega arith
issued_few (side ∷ sides) each =
    subst (λ n. n ≤ suc (length sides) * 255) (sym (sum_by-cons (λ (side : Side). length (issued_of side)) side sides))
    (omega (arith, each.0.1.few, issued_few sides each.1))

-- The fields of a record are read.
record_reads : (bytes : List ℕ) (all : SidesOf) → AreSides all → Each (FieldReads 2) (record_fields bytes all)
unfolding Each
record_reads bytes all are = (
  field_reads 2 _ _ refl (name_value 2 _ refl),
  (
    field_reads 2 _ _ refl (number_value 2 (version_of bytes) (version_small (is_version_1 bytes))),
    (
      field_reads 2 _ _ refl (name_value 2 _ (role_printable all.role)),
      (
        field_reads 2 _ _ refl (number_value 2 (length all.sides) (omega (arith, are.few))),
        (
          field_reads 2 _ _ refl (number_value 2 (issued_by_all all.sides)
              (omega (arith, are.few, issued_few all.sides are.each))),
          (field_reads 2 _ _ refl (number_value 2 (most_sides - length all.sides) (omega arith)), tt),
        ),
      ),
    ),
  ),
)

-- The word of a fault is printable.
fault_printable : (fault : RecordFault) → are_printable (fault_word fault) ≡ true
fault_printable records.Short = refl
fault_printable (records.Bad at) = refl
fault_printable records.Inconsistent = refl
fault_printable records.Digest = refl
fault_printable records.OutOfMemory = refl

-- A place of 32 bits that may be missing has a value.
place_value : (place : Option ℕ) → IfSome place (λ at. at < 2 ^ 32) → HasValue 2 (optional decimal place)
place_value None small = optional_value 2 decimal None tt
place_value (Some at) small = number_value 2 at (omega (arith, small))

-- The fields of a fault are read.
fault_reads : (fault : RecordFault) → IfSome (place_of fault) (λ at. at < 2 ^ 32) → Each (FieldReads 2) (fault_fields fault)
unfolding Each
fault_reads fault small = (
  field_reads 2 _ _ refl (name_value 2 _ refl),
  (
    field_reads 2 _ _ refl (name_value 2 _ (fault_printable fault)),
    (field_reads 2 _ _ refl (place_value (place_of fault) small), tt),
  ),
)

-- The line of a record is an object line.
pub record_is : (bytes : List ℕ) (all : SidesOf) → AreSides all
    → IsObjectLine (record_text forms.Json bytes all) (record_fields bytes all)
record_is bytes all are = line_is (record_fields bytes all) (record_reads bytes all are) refl

-- The line of a fault is an object line.
pub fault_is : (fault : RecordFault) → IfSome (place_of fault) (λ at. at < 2 ^ 32)
    → IsObjectLine (object_line (fault_fields fault)) (fault_fields fault)
fault_is fault small = line_is (fault_fields fault) (fault_reads fault small) refl
