-- Proves how the message of a message file is read.
use Rattle.std.proofs.Common.{◌≡◌, ℕ, ◌+◌, ◌≤◌, List, [], ◌∷◌, Result, Ok, Err, length, drop, refl, ap, sym}
use Rattle.std.proofs.Common.{arith, ◌∙◌}
use Rattle.std.proofs.lemmas.List.{length-drop}
use Rattle.ill_values.specs.declared.apdu.Apdu.{Apdu}
use Rattle.ill_der.specs.declared.fault.DerFault.{DerFault}
use Rattle.ill_der.specs.ShortForm.{Views}
use Rattle.ill_night.specs.declared.verdict.Unfit.TheVariants.{Trailing}
use Rattle.ill_night.specs.MessageFiles.{one_message}

-- If bytes follow the APDU `a`, both together are no message: the fault is `Trailing`.
trailing_is_no_message : (a : Apdu) (rest : List ℕ) → 1 ≤ length rest → one_message (Ok (a, rest)) ≡ Err Trailing
trailing_is_no_message a [] some = absurd (omega (arith, some))
trailing_is_no_message a (byte ∷ rest) some = refl

-- If the APDU at the start of `bytes` is shorter than `bytes`, they are no message: the fault is `Trailing`.
pub trailing_unfit : (bytes : List ℕ) (read : Result (Apdu × List ℕ) DerFault) (found : Apdu × ℕ)
    → found.1 + 1 ≤ length bytes → Views bytes read (Ok found) → Err Trailing ≡ one_message read
trailing_unfit bytes read found less viewed =
    sym (ap one_message viewed.1 ∙ trailing_is_no_message found.0 (drop found.1 bytes)
    (omega (arith, length-drop found.1 bytes, less)))
