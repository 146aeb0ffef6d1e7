-- A sent message has bytes that are exactly one APDU.
use Rattle.std.proofs.Common.{rules, arith, ◌≡◌, ◌≤◌, List, [], ◌∷◌, ◌++◌, length, drop, ℕ, Result, Ok, Err, false, refl, sym, ap}
use Rattle.std.proofs.Common.{◌∙◌, append-nil}
use Rattle.std.proofs.lemmas.List.{length-drop}
use Rattle.ill_values.specs.TxnId.{Qualifiers}
use Rattle.ill_core.specs.Issued.{is_same_txn}
use Rattle.ill_values.specs.declared.apdu.Apdu.{Apdu}
use Rattle.ill_values.specs.Apdu.{IsApdu}
use Rattle.ill_der.specs.declared.fault.DerFault.{DerFault}
use Rattle.ill_der.specs.ShortForm.{encoding, apdu_at, Decodes}
use Rattle.ill_world.specs.PartyRefinement.{apdu_of, is_of}

-- An APDU is read from its encoding, and all bytes after the encoding are left.
abbrev pub ReadAgain : Type 0
ReadAgain = (a : Apdu) (rest : List ℕ) → IsApdu a → apdu_at (encoding a ++ rest) ≡ Ok (a, rest)

-- Bytes that encode an APDU are read as this APDU, and no byte is left.
pub encoded_whole : ReadAgain → (bytes : List ℕ) (a : Apdu) → IsApdu a → bytes ≡ encoding a → apdu_at bytes ≡ Ok (a, [])
encoded_whole again bytes a is encoded = ap apdu_at (encoded ∙ sym (append-nil (encoding a))) ∙ again a [] is

-- The APDU of bytes is the APDU that they encode.
pub apdu_is : ReadAgain → (bytes : List ℕ) (a : Apdu) → IsApdu a → bytes ≡ encoding a → apdu_of (apdu_at bytes) ≡ a
apdu_is again bytes a is encoded = ap apdu_of (encoded_whole again bytes a is encoded)

-- Bytes that encode an APDU are read as the APDU that `apdu_of` gives, and no byte is left.
pub is_whole : ReadAgain → (bytes : List ℕ) (a : Apdu) → IsApdu a → bytes ≡ encoding a
    → apdu_at bytes ≡ Ok (apdu_of (apdu_at bytes), [])
is_whole again bytes a is encoded =
    encoded_whole again bytes a is encoded ∙ ap (λ x. Ok (x, [])) (sym (apdu_is again bytes a is encoded))

-- ---- bytes that are exactly one APDU

-- A list of length 0 is empty.
none_left : (rest : List ℕ) → length rest ≡ 0 → rest ≡ []
none_left [] none = refl
none_left (byte ∷ rest) none = absurd (omega (arith, none))

-- A list of length 1 or more has a first byte.
some_left : (rest : List ℕ) → 1 ≤ length rest → (byte : ℕ) × (more : List ℕ) × (rest ≡ byte ∷ more)
some_left [] some = absurd (omega (arith, some))
some_left (byte ∷ rest) some = (byte, rest, refl)

-- If bytes decode to an APDU of their whole length, they are read as it, and no byte is left.
pub whole_reads : (bytes : List ℕ) (read : Result (Apdu × List ℕ) DerFault) (a : Apdu) (size : ℕ)
    → Decodes bytes read (Ok (a, size)) → size ≡ length bytes → read ≡ Ok (a, [])
whole_reads bytes (Ok found) a size decodes whole =
    ap Ok decodes.1 ∙ ap (λ rest. Ok (a, rest)) (none_left (drop size bytes) (omega (arith, length-drop size bytes, whole)))
whole_reads bytes (Err fault) a size decodes whole = search rules

-- If bytes decode to a shorter APDU, they are read as it, and some bytes are left.
pub part_reads : (bytes : List ℕ) (read : Result (Apdu × List ℕ) DerFault) (a : Apdu) (size : ℕ)
    → Decodes bytes read (Ok (a, size)) → (size ≡ length bytes → ⊥)
    → (byte : ℕ) × (more : List ℕ) × (read ≡ Ok (a, byte ∷ more))
part_reads bytes (Ok found) a size decodes part =
    let left = some_left (drop size bytes) (omega (arith, length-drop size bytes, decodes.0, part)) in
    (left.0, left.1, ap Ok decodes.1 ∙ ap (λ rest. Ok (a, rest)) left.2)
part_reads bytes (Err fault) a size decodes part = search rules

-- If bytes are exactly one APDU, they are of `txn` exactly if the APDU is.
pub whole_is_of : (txn : Qualifiers) (bytes : List ℕ) (read : Result (Apdu × List ℕ) DerFault) (a : Apdu) (size : ℕ)
    → Decodes bytes read (Ok (a, size)) → size ≡ length bytes
    → is_of txn read ≡ is_same_txn a.txn txn
whole_is_of txn bytes read a size decodes whole = ap (is_of txn) (whole_reads bytes read a size decodes whole)

-- If bytes go on after an APDU, they are of no transaction.
pub part_is_of : (txn : Qualifiers) (bytes : List ℕ) (read : Result (Apdu × List ℕ) DerFault) (a : Apdu) (size : ℕ)
    → Decodes bytes read (Ok (a, size)) → (size ≡ length bytes → ⊥)
    → is_of txn read ≡ false
part_is_of txn bytes read a size decodes part = ap (is_of txn) (part_reads bytes read a size decodes part).2
