-- The text of a key: 17 groups of four hexadecimal digits, the last of which checks the others.
use Rattle.std.specs.Prelude.{ℕ, ◌+◌, ◌%◌, ◌==◌, ◌||◌, ◌&&◌, Bool, not, if◌then◌else◌, List, [], ◌∷◌, ◌++◌}
use Rattle.std.specs.Prelude.{length, take, drop, filter, Result, Ok, Err}
use Rattle.std.specs.Str.{bytes_eq}
use Rattle.sha2.specs.Sha256.{sha256}
use Rattle.hex.specs.Hex.{encode_lower, decode_sized}
use Rattle.hex.specs.declared.error.FromHexError.{FromHexError}
use Rattle.ill_seal.specs.declared.fault.KeyFault.{KeyFault}
use Rattle.ill_seal.specs.declared.fault.KeyFault.TheVariants as faults

-- Returns the two bytes that check a key: the first ones of its SHA-256.
abbrev pub check_of : List ℕ → List ℕ
check_of key = take 2 (sha256 key)

-- Returns true if a group of four, but not the first one, begins at `place`.
abbrev pub begins_group : ℕ → Bool
begins_group place = (place % 4 == 0) && not (place == 0)

-- Returns the digits, the first of them at `place`, with a space before each group but the first one.
unfoldable pub grouped : ℕ → List ℕ → List ℕ
grouped place [] = []
grouped place (digit ∷ rest) =
    (if begins_group place then 32 ∷ digit ∷ [] else digit ∷ []) ++ grouped (place + 1) rest

-- Returns the text of a key.
abbrev pub key_text : List ℕ → List ℕ
key_text key = grouped 0 (encode_lower (key ++ check_of key))

-- Returns true for a space, a tab, a line feed and a carriage return.
abbrev pub is_white : ℕ → Bool
is_white byte = (byte == 32) || (byte == 9) || (byte == 10) || (byte == 13)

-- Returns all bytes of a text that are not white space.
abbrev pub digits_of : List ℕ → List ℕ
digits_of text = filter (λ byte. not (is_white byte)) text

-- The parameters are the key and its check, as decoded from their digits. Returns the key if the check fits it.
-- If one of them has a fault, the fault is Digits. If the check does not fit, it is Check.
abbrev pub checked : Result (List ℕ) FromHexError → Result (List ℕ) FromHexError → Result (List ℕ) KeyFault
checked (Ok key) (Ok check) = if bytes_eq check (check_of key) then Ok key else Err faults.Check
checked (Ok key) (Err fault) = Err faults.Digits
checked (Err fault) check = Err faults.Digits

-- Returns the key that 68 digits give, or the first fault. They are 64 digits of the key and 4 of its check.
abbrev pub key_of : List ℕ → Result (List ℕ) KeyFault
key_of digits =
    if length digits == 68 then checked (decode_sized (take 64 digits) 32) (decode_sized (drop 64 digits) 2)
    else Err faults.Digits

-- Returns the key that a text gives, or the first fault. Small and large letters are digits alike.
abbrev pub key_in : List ℕ → Result (List ℕ) KeyFault
key_in text = key_of (digits_of text)
