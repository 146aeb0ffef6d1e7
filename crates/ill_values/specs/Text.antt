-- Defines the texts of an APDU: the qualifiers of a transaction id, and items.
use Rattle.std.specs.Prelude.{◌≡◌, ℕ, Bool, not, ◌&&◌, ◌==◌, nat_lt, nat_le, if◌then◌else◌, List, length, Result, Ok, Err}
use Rattle.std.specs.Prelude.{MatchResult}
use Rattle.std.specs.List.{list_all}
use Rattle.std.specs.Str.{is_utf8}
use Rattle.ill_values.specs.declared.fault.TextFault.{TextFault}
use Rattle.ill_values.specs.declared.fault.TextFault.TheVariants.{Empty, TooLong, BadByte, OutOfMemory}

-- Returns true if `byte` is a printing character of ASCII or a space.
abbrev pub is_printable : ℕ → Bool
is_printable byte = nat_le 0x20 byte && nat_le byte 0x7E

-- Returns true if `byte` is not a control character of ASCII.
abbrev pub is_no_control : ℕ → Bool
is_no_control byte = nat_le 0x20 byte && not (byte == 0x7F)

-- Returns true if `text` is UTF-8 without the control characters of ASCII.
abbrev pub is_item_text : List ℕ → Bool
is_item_text text = list_all is_no_control text && is_utf8 text

-- If the first result is a value, returns `next` of it. Otherwise returns the fault of the first result.
infixl 10 ◌>>=◌
abbrev pub ◌>>=◌ : {A B : Type 0} → Result A TextFault → (A → Result B TextFault) → Result B TextFault
(Ok value) >>= next = next value
(Err fault) >>= next = Err fault

-- Returns `Ok` if `text` has 1 to `most` bytes and passes the test `passes`, and else its first fault.
abbrev pub text_check : ℕ → (List ℕ → Bool) → List ℕ → Result (Unit {0}) TextFault
text_check most passes text =
    if length text == 0 then Err Empty
    else (if nat_lt most (length text) then Err TooLong
    else (if passes text then Ok tt else Err BadByte))

-- Returns `Ok` if `text` is a qualifier of a transaction id (this profile's own), and else its first fault.
abbrev pub qualifier_check : List ℕ → Result (Unit {0}) TextFault
qualifier_check text = text_check 64 (list_all is_printable) text

-- `text` is a qualifier of a transaction id.
abbrev pub IsQualifier : List ℕ → Type 0
IsQualifier text = qualifier_check text ≡ Ok tt

-- Returns `Ok` if `text` is an item, for which a request asks (this profile's own), and else its first fault.
abbrev pub item_check : List ℕ → Result (Unit {0}) TextFault
item_check text = text_check 200 is_item_text text

-- `text` is an item.
abbrev pub IsItem : List ℕ → Type 0
IsItem text = item_check text ≡ Ok tt

-- Returns the item with bytes `text`, or the first fault of `text`.
abbrev pub item_of : List ℕ → Result (List ℕ) TextFault
item_of text = item_check text >>= λ _. Ok text

-- The first parameter is the expected result. If it is a fault, `result` is that fault. If it is a value, `result` is
-- that value or `OutOfMemory`.
abbrev pub ReturnsText : {V : Type 0} → Result V TextFault → Result V TextFault → Type 0
ReturnsText (Err fault) result = result ≡ Err fault
ReturnsText (Ok value) result = MatchResult result (λ made. made ≡ value) (λ fault. fault ≡ OutOfMemory)
