-- Statements on all bytes.
use Rattle.std.specs.Prelude.{◌≡◌, ℕ, ◌<◌, ◌++◌, List, get_or, Result, Ok, Err}
use Rattle.ill_values.specs.declared.apdu.Apdu.{Apdu}
use Rattle.ill_values.specs.Apdu.{IsApdu}
use Rattle.ill_der.specs.declared.fault.DerFault.{DerFault}
use Rattle.ill_der.specs.declared.fault.DerFault.TheVariants.{OutOfMemory}
use Rattle.ill_der.specs.ShortForm.{encoding}

-- Each element of `bytes` is an octet, that is, below 256.
abbrev pub IsBytes : List ℕ → Type 0
IsBytes bytes = (i : ℕ) → get_or bytes i 0 < 256

-- `apdu` is in range, and `bytes` is its encoding followed by `rest`.
abbrev pub BeginsWith : List ℕ → Apdu → List ℕ → Type 0
BeginsWith bytes apdu rest = IsApdu apdu × (bytes ≡ encoding apdu ++ rest)

-- `bytes` begins with the APDU that was found and with no other.
-- If there is a fault, `bytes` begins with no APDU, and the fault is not OutOfMemory.
abbrev pub BeginsWithOne : List ℕ → Result (Apdu × List ℕ) DerFault → Type 0
BeginsWithOne bytes (Ok found) =
    BeginsWith bytes found.0 found.1 × ((apdu : Apdu) (rest : List ℕ) → BeginsWith bytes apdu rest →
    (apdu, rest) ≡ found)
BeginsWithOne bytes (Err fault) =
    (fault ≡ OutOfMemory → ⊥) × ((apdu : Apdu) (rest : List ℕ) → BeginsWith bytes apdu rest → ⊥)
