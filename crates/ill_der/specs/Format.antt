-- Elements of DER, and fields one after another: one description for their encoding and their reading.
use Rattle.std.specs.Prelude.{◌≡◌, ℕ, ◌+◌, ◌*◌, ◌/◌, ◌%◌, ◌≤◌, Bool, false, ◌==◌, nat_lt, if◌then◌else◌, List, [], ◌∷◌, ◌++◌}
use Rattle.std.specs.Prelude.{length, take, drop, Option, Some, None, is_some, Result, Ok, Err}
use Rattle.ill_der.specs.declared.fault.DerFault.{DerFault}
use Rattle.ill_der.specs.declared.fault.DerFault.TheVariants.{Tag, Length, Field}
use Rattle.ill_der.specs.declared.length.LengthForm.{LengthForm}
use Rattle.ill_der.specs.declared.length.LengthForm.TheVariants.{Truncated, Invalid, Definite}
use Rattle.ill_der.specs.Contents.{Contents}

-- Passes the value of a result to the function on the right. A fault is returned as it is.
infixl 10 ◌>>=◌
abbrev pub ◌>>=◌ : {E A B : Type 0} → Result A E → (A → Result B E) → Result B E
(Ok value) >>= next = next value
(Err fault) >>= next = Err fault

-- ---- lengths

-- Returns the length octets of `n` contents octets, in the shortest form (X.690 8.1.3, 10.1).
unfoldable pub length_octets : ℕ → List ℕ
length_octets n =
    if nat_lt n 128 then n ∷ []
    else (if nat_lt n 256 then 0x81 ∷ n ∷ [] else 0x82 ∷ n / 256 ∷ n % 256 ∷ [])

-- Returns the length that 81 and then the octets give. After 81 comes one octet, whose value is at least 128.
abbrev pub one_octet_length : List ℕ → LengthForm
one_octet_length [] = Truncated
one_octet_length (n ∷ rest) = if nat_lt n 128 then Invalid else Definite n 2

-- Returns the length that 82 and then the octets give. After 82 come two octets, whose value is at least 256.
abbrev pub two_octet_length : List ℕ → LengthForm
two_octet_length [] = Truncated
two_octet_length (high ∷ []) = Truncated
two_octet_length (high ∷ low ∷ rest) = if high == 0 then Invalid else Definite (256 * high + low) 3

-- Returns the length with which the octets begin, and the number of its octets.
-- It is Invalid if it is not in its shortest form, and Truncated if the octets end within it.
unfoldable pub length_of : List ℕ → LengthForm
length_of [] = Truncated
length_of (first ∷ rest) =
    if nat_lt first 128 then Definite first 1
    else (if first == 0x81 then one_octet_length rest
    else (if first == 0x82 then two_octet_length rest else Invalid))

-- Let a list of `bytes` bytes begin with this length. If the length is truncated, the list has at most two bytes.
-- If it is definite, it has at most three octets.
abbrev pub IsFew : LengthForm → ℕ → Type 0
IsFew Truncated bytes = bytes ≤ 2
IsFew Invalid bytes = Unit {0}
IsFew (Definite n octets) bytes = octets ≤ 3

-- ---- elements

-- Returns an element: its identifier octet, its length octets and its contents (X.690 8.1.1).
unfoldable pub element : ℕ → List ℕ → List ℕ
element identifier contents = identifier ∷ (length_octets (length contents) ++ contents)

-- The bytes of an element that are left to read, and the offset of the first in the APDU.
pub record Cursor : Type 0 where
  pub at : ℕ
  pub bytes : List ℕ

-- Returns the cursor over `bytes`. The first of them has the offset `at`.
abbrev pub cursor_at : ℕ → List ℕ → Cursor
cursor_at at bytes = record { at = at; bytes = bytes }

-- Splits the bytes `left` after an identifier into the contents of its element and the bytes after the element.
-- If the length is not definite, or contents are missing, the fault is Length.
abbrev pub contents_by : LengthForm → Cursor → Result (Cursor × Cursor) DerFault
contents_by (Definite n octets) left =
    if nat_lt (length left.bytes) (octets + n) then Err (Length left.at)
    else Ok (
      cursor_at (left.at + octets) (take n (drop octets left.bytes)),
      cursor_at (left.at + (octets + n)) (drop (octets + n) left.bytes),
    )
contents_by Truncated left = Err (Length left.at)
contents_by Invalid left = Err (Length left.at)

-- Returns true if the bytes begin with `identifier`.
abbrev pub begins_with : ℕ → List ℕ → Bool
begins_with identifier [] = false
begins_with identifier (first ∷ rest) = first == identifier

-- Splits off the next element, which must have `identifier`. Returns its contents and the bytes after it.
unfoldable pub element_at : ℕ → Cursor → Result (Cursor × Cursor) DerFault
element_at identifier left =
    if begins_with identifier left.bytes
    then contents_by (length_of (drop 1 left.bytes)) (cursor_at (left.at + 1) (drop 1 left.bytes))
    else Err (Tag left.at)

-- Checks that no bytes are left. Otherwise the fault is Tag at the first of them.
abbrev pub ended : Cursor → Result (Unit {0}) DerFault
ended left = if length left.bytes == 0 then Ok tt else Err (Tag left.at)

-- ---- descriptions of fields

-- Describes fields: `encode` encodes a value. `read` reads a value and returns the bytes after it, or a fault.
pub record Codec (E V : Type 0) : Type 0 where
  pub encode : V → List ℕ
  pub read : Cursor → Result (V × Cursor) E

-- Describes fields of an APDU.
abbrev pub Format : Type 0 → Type 0
Format V = Codec DerFault V

-- Returns the value of contents, or, if they have none, the fault Field at their offset `at`.
abbrev pub value_of : {V : Type 0} → Option V → ℕ → Result V DerFault
value_of (Some value) at = Ok value
value_of None at = Err (Field at)

-- Describes a primitive field that must be present.
abbrev pub required : {V : Type 0} → ℕ → Contents V → Format V
required identifier kind = record {
  encode = λ value. element identifier (kind.encode value);
  read = λ left. element_at identifier left >>= λ part.
      value_of (kind.read part.0.bytes) part.0.at >>= λ value. Ok (value, part.1);
}

-- Returns the encoding of a value, or no bytes if there is none.
abbrev pub encode_some : {V : Type 0} → (V → List ℕ) → Option V → List ℕ
encode_some encode None = []
encode_some encode (Some value) = encode value

-- Describes a primitive field that may be absent.
abbrev pub optional : {V : Type 0} → ℕ → Contents V → Format (Option V)
optional identifier kind = record {
  encode = encode_some (required identifier kind).encode;
  read = λ left. if begins_with identifier left.bytes
      then ((required identifier kind).read left >>= λ field. Ok (Some field.0, field.1))
      else Ok (None, left);
}

-- Describes the fields of `first`, and after them those of `second`.
abbrev pub followed_by : {E V W : Type 0} → Codec E V → Codec E W → Codec E (V × W)
followed_by first second = record {
  encode = λ value. first.encode value.0 ++ second.encode value.1;
  read = λ left. first.read left >>= λ a. second.read a.1 >>= λ b. Ok ((a.0, b.0), b.1);
}

-- Describes a yes or no, followed by a further field if it is yes.
abbrev pub where_yes : {E V : Type 0} → Codec E Bool → Codec E V → Codec E (Option V)
where_yes yes_no field = record {
  encode = λ o. yes_no.encode (is_some o) ++ encode_some field.encode o;
  read = λ left. yes_no.read left >>= λ is_yes. if is_yes.0
      then (field.read is_yes.1 >>= λ found. Ok (Some found.0, found.1))
      else Ok (None, is_yes.1);
}

-- Describes no field.
abbrev pub nothing : Format (Unit {0})
nothing = record { encode = λ _. []; read = λ left. Ok (tt, left) }

-- Describes a constructed field that must be present. It contains exactly the fields of `inside`.
abbrev pub constructed : {V : Type 0} → ℕ → Format V → Format V
constructed identifier inside = record {
  encode = λ value. element identifier (inside.encode value);
  read = λ left. element_at identifier left >>= λ part. inside.read part.0 >>= λ found.
      ended found.1 >>= λ _. Ok (found.0, part.1);
}

-- ---- the results of the code

-- A reader of the code gives the fault of `read`, or its value through `view` and the cursor `left` after it.
abbrev pub Reads : {E X V : Type 0} → (X → V) → Result X E → Cursor → Result (V × Cursor) E → Type 0
Reads view (Ok value) left read = read ≡ Ok (view value, left)
Reads view (Err fault) left read = read ≡ Err fault
