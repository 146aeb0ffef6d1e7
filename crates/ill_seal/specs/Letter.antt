-- A sealed letter: the mark ILLS, the octet of its sender, a text, and the seal over all of these.
use Rattle.std.specs.Prelude.{ℕ, ◌-◌, ◌==◌, not, nat_eq, nat_lt, if◌then◌else◌, List, [], ◌∷◌, ◌++◌, length, take, drop}
use Rattle.std.specs.Prelude.{slice_index, bit_or, bit_xor, Result, Ok, Err}
use Rattle.std.specs.List.{starts_with}
use Rattle.std.specs.Str.{bytes_eq}
use Rattle.ill_seal.specs.declared.sender.Sender.{Sender}
use Rattle.ill_seal.specs.declared.fault.SealFault.{SealFault}
use Rattle.ill_seal.specs.declared.fault.SealFault.TheVariants as faults
use Rattle.ill_seal.specs.Hmac.{hmac}
use Rattle.ill_seal.specs.Sender.{octet_of}

-- The four octets `ILLS`, with which each sealed letter begins.
abbrev pub mark : List ℕ
mark = 73 ∷ 76 ∷ 76 ∷ 83 ∷ []

-- Returns all of a letter but its seal.
abbrev pub unsealed : Sender → List ℕ → List ℕ
unsealed sender text = mark ++ octet_of sender ∷ text

-- Returns the letter in which `sender` has sealed `text` with `key`.
unfoldable pub sealed : List ℕ → Sender → List ℕ → List ℕ
sealed key sender text = unsealed sender text ++ hmac key (unsealed sender text)

-- Returns all bytes of a letter but the last 32, which are the seal.
abbrev pub body_of : List ℕ → List ℕ
body_of letter = take (length letter - 32) letter

-- Returns the text of a letter of `sender` that is sealed with `key`, or the first fault of other bytes.
unfoldable pub opened : List ℕ → Sender → List ℕ → Result (List ℕ) SealFault
opened key sender letter =
    if nat_lt (length letter) 37 then Err faults.Short else
    (if not (starts_with nat_eq letter mark) then Err faults.Mark else
    (if not (slice_index letter 4 == octet_of sender) then Err faults.Sender else
    (if bytes_eq (drop (length letter - 32) letter) (hmac key (body_of letter)) then Ok (drop 5 (body_of letter))
    else Err faults.Seal)))

-- Returns the bits in which two lists of bytes differ at any place, together with the bits `so_far`.
unfoldable pub difference : ℕ → List ℕ → List ℕ → ℕ
difference so_far (x ∷ xs) (y ∷ ys) = difference (bit_or so_far (bit_xor x y)) xs ys
difference so_far [] ys = so_far
difference so_far (x ∷ xs) [] = so_far
