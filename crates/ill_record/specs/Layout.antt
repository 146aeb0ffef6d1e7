-- Fields of a saved record, one after another. One description states both the encoding and the reading of a field
-- (this profile's own).
use Rattle.std.specs.Prelude.{◌≡◌, ℕ, zero, suc, ◌+◌, ◌-◌, Bool, true, false, ◌==◌, nat_lt, nat_le, ◌&&◌, if◌then◌else◌, List, []}
use Rattle.std.specs.Prelude.{◌∷◌, ◌++◌, length, take, drop, Option, Some, None, Result, Ok, Err}
use Rattle.ill_values.specs.declared.apdu.Apdu.{Apdu}
use Rattle.ill_der.specs.declared.fault.DerFault.{DerFault}
use Rattle.ill_der.specs.declared.fault.DerFault.TheVariants as der
use Rattle.ill_der.specs.Contents.{Contents, qualifier}
use Rattle.ill_der.specs.Format.{◌>>=◌, Codec, Cursor, cursor_at, where_yes}
use Rattle.ill_der.specs.ShortForm.{encoding, apdu_at}
use Rattle.ill_values.specs.Bodies.{is_ill_request}
use Rattle.ill_record.specs.declared.fault.LayoutFault.{LayoutFault}
use Rattle.ill_record.specs.declared.fault.LayoutFault.TheVariants.{Short, Bad}
use Rattle.ill_record.specs.declared.fault.RecordFault.{RecordFault}
use Rattle.ill_record.specs.declared.fault.RecordFault.TheVariants as faults

-- A field of a saved record with values of type `V`: the encoding of a value, and its reading from a cursor.
abbrev pub Field : Type 0 → Type 0
Field V = Codec LayoutFault V

-- Returns the next `n` bytes and the cursor after them, or `Short` if fewer are left.
abbrev pub bytes_at : ℕ → Cursor → Result (List ℕ × Cursor) LayoutFault
bytes_at n left =
    if nat_lt (length left.bytes) n then Err Short
    else Ok (take n left.bytes, cursor_at (left.at + n) (drop n left.bytes))

-- Returns the value, or a fault at offset `at` if there is none.
abbrev pub value_at : {V : Type 0} → ℕ → Option V → Result V LayoutFault
value_at at (Some value) = Ok value
value_at at None = Err (Bad at)

-- Returns the field of `n` bytes with these contents. Invalid contents are a fault at their first byte.
abbrev pub sized : {V : Type 0} → ℕ → Contents V → Field V
sized n contents = record {
  encode = contents.encode;
  read = λ left. bytes_at n left >>= λ part.
      value_at left.at (contents.read part.0) >>= λ value. Ok (value, part.1);
}

-- Returns the value of the only octet in the list. A list of another length has no value.
abbrev pub one_octet : {V : Type 0} → (ℕ → Option V) → List ℕ → Option V
one_octet value_of [] = None
one_octet value_of (n ∷ []) = value_of n
one_octet value_of (n ∷ more ∷ rest) = None

-- Returns the field of one octet, which `code` encodes and `value_of` reads.
abbrev pub octet : {V : Type 0} → (V → ℕ) → (ℕ → Option V) → Field V
octet code value_of = sized 1 (record { encode = λ value. code value ∷ []; read = one_octet value_of })

-- Returns the field of the octet `n`. Any other octet is a fault.
abbrev pub constant : ℕ → Field (Unit {0})
constant n = octet (λ _. n) (λ m. if m == n then Some tt else None)

-- The field of a count, from 0 to 255, in one octet.
abbrev pub count : Field ℕ
count = octet (λ n. n) Some

-- Returns the octet of the number of a message: 0 if there is none.
abbrev pub number_octet : Option ℕ → ℕ
number_octet None = 0
number_octet (Some n) = n

-- The field of an optional number of a message, in one octet.
abbrev pub optional_number : Field (Option ℕ)
optional_number = octet number_octet (λ n. Some (if n == 0 then None else Some n))

-- The field of a truth value in one octet: 1 for true, and 0 for false.
abbrev pub mark : Field Bool
mark =
    octet (λ is. if is then 1 else 0) (λ n. if n == 0 then Some false else
    (if n == 1 then Some true else None))

-- The field of the length of a qualifier, from 1 to 64, in one octet.
abbrev pub text_size : Field ℕ
text_size = octet (λ n. n) (λ n. if nat_le 1 n && nat_le n 64 then Some n else None)

-- The field of a qualifier, preceded by its length.
abbrev pub counted_text : Field (List ℕ)
counted_text = record {
  encode = λ text. text_size.encode (length text) ++ text;
  read = λ left. text_size.read left >>= λ size. (sized size.0 qualifier).read size.1;
}

-- Returns the APDU that was read and the cursor after it, or a fault at the cursor.
-- An APDU that ends too early is `Short`; any other fault is `Bad`.
abbrev pub apdu_by : Cursor → Result (Apdu × List ℕ) DerFault → Result (Apdu × Cursor) LayoutFault
apdu_by left (Ok found) =
    Ok (found.0, cursor_at (left.at + (length left.bytes - length found.1)) found.1)
apdu_by left (Err (der.Short n)) = Err Short
apdu_by left (Err other) = Err (Bad left.at)

-- The field of an APDU in its short form.
abbrev pub apdu : Field Apdu
apdu = record { encode = encoding; read = λ left. apdu_by left (apdu_at left.bytes) }

-- The field of an ILL-Request. Any other APDU is a fault at its first byte.
abbrev pub ill_request : Field Apdu
ill_request = record {
  encode = encoding;
  read = λ left. apdu.read left >>= λ found.
      if is_ill_request found.0.body then Ok found else Err (Bad left.at);
}

-- Returns the field of an optional value: a mark, followed by the field of the value if the mark is true.
abbrev pub marked : {V : Type 0} → Field V → Field (Option V)
marked field = where_yes mark field

-- Returns the encodings of the values, one after another.
unfoldable pub encode_all : {V : Type 0} → (V → List ℕ) → List V → List ℕ
encode_all encode [] = []
encode_all encode (v ∷ values) = encode v ++ encode_all encode values

-- Returns the next `n` values and the cursor after them, or the first fault.
unfoldable pub read_all : {V : Type 0} → Field V → ℕ → Cursor → Result (List V × Cursor) LayoutFault
read_all field zero left = Ok ([], left)
read_all field (suc n) left =
    field.read left >>= λ first. read_all field n first.1 >>= λ others.
    Ok (first.0 ∷ others.0, others.1)

-- Returns the field of a list: its length in the field `size`, followed by each value.
abbrev pub counted_by : {V : Type 0} → Field ℕ → Field V → Field (List V)
counted_by size field = record {
  encode = λ values. size.encode (length values) ++ encode_all field.encode values;
  read = λ left. size.read left >>= λ n. read_all field n.0 n.1;
}

-- Returns the field of a list of at most 255 values: its length in one octet, followed by each value.
abbrev pub counted : {V : Type 0} → Field V → Field (List V)
counted = counted_by count

-- Checks that no byte is left. Otherwise the fault is `Bad` at the cursor.
abbrev pub ended : Cursor → Result (Unit {0}) LayoutFault
ended left = if length left.bytes == 0 then Ok tt else Err (Bad left.at)

-- Returns the fault of a record for a fault of a field.
abbrev pub record_fault : LayoutFault → RecordFault
record_fault Short = faults.Short
record_fault (Bad at) = faults.Bad at

-- `read` is the result of a field. The code gives the fault of `read`, or a value whose `view` is the value of `read`.
-- Then `left` is the cursor after the value. The code may also answer that memory ran out.
abbrev pub ReadsInMemory : {X V : Type 0} → (X → V) → Result X RecordFault → Cursor →
    Result (V × Cursor) LayoutFault → Type 0
ReadsInMemory view (Ok value) left read = read ≡ Ok (view value, left)
ReadsInMemory view (Err faults.Short) left read = read ≡ Err Short
ReadsInMemory view (Err (faults.Bad at)) left read = read ≡ Err (Bad at)
ReadsInMemory view (Err faults.Inconsistent) left read = ⊥
ReadsInMemory view (Err faults.Digest) left read = ⊥
ReadsInMemory view (Err faults.OutOfMemory) left read = Unit {0}
