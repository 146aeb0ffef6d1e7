-- The results of decoding, and reads that follow one another.
use Rattle.std.proofs.Common.{◌≡◌, ℕ, ◌<◌, List, [], ◌∷◌, length, take, drop, Option, Result, Ok, Err, ◌⊎◌, inl, inr, refl, sym}
use Rattle.std.proofs.Common.{ap, subst, ◌∙◌, arith}
use Rattle.std.specs.Io.KnownBytes.{Consumes}
use Rattle.std.proofs.KnownBytes.{Consumes-trans}
use Rattle.std.proofs.lemmas.List.{append-nil, take_at, length-append}
use Rattle.ill_values.specs.declared.apdu.Apdu.{Apdu}
use Rattle.ill_der.specs.declared.fault.DerFault.{DerFault}
use Rattle.ill_der.specs.declared.fault.DerFault.TheVariants.{Short, OutOfMemory}
use Rattle.ill_values.specs.Apdu.{IsApdu}
use Rattle.ill_der.specs.ShortForm.{encoding, apdu_at, Decodes}
use Rattle.ill_der.specs.Stream.{AreUnfinished, EncodesOne}
use Rattle.ill_der.proofs.Chains.{no_value}
use Rattle.ill_der.specs.Laws.{IsBytes}
use Rattle.ill_der.proofs.ContentsLaws.{Values}
use Rattle.ill_der.proofs.ShortFormLaws.{apdu_takes, apdu_again, apdu_memory}

-- ---- the consequences of decoding

-- If decoding gives `found`, `read` is its APDU and the bytes after the first `found.1`.
decodes_ok : (bytes : List ℕ) (read : Result (Apdu × List ℕ) DerFault) (found : Apdu × ℕ)
    → Decodes bytes read (Ok found) → read ≡ Ok (found.0, drop found.1 bytes)
decodes_ok bytes (Ok x) found h = ap Ok h.1
decodes_ok bytes (Err fault) found h = absurd cc

-- If decoding has `fault`, either `read` has it, or memory ran out for the APDU of `read`.
pub decodes_err : (bytes : List ℕ) (read : Result (Apdu × List ℕ) DerFault) (fault : DerFault) → Decodes bytes read (Err fault)
    → (read ≡ Err fault) ⊎ ((fault ≡ OutOfMemory) × ((x : Apdu × List ℕ) × (read ≡ Ok x)))
decodes_err bytes (Ok x) fault h = inr (h, (x, refl))
decodes_err bytes (Err f) fault h = inl (let e : f ≡ fault = cc in ap Err e)

-- If the proper prefixes of `bytes` are unfinished, and `apdu_at` reads `apdu`, all of `bytes` is its encoding.
-- If bytes came after the encoding, it would be a proper prefix of `bytes`, and it is not unfinished.
exact : Values → (bytes rest : List ℕ) (apdu : Apdu) → IsBytes bytes → AreUnfinished bytes
    → apdu_at bytes ≡ Ok (apdu, rest) → IsApdu apdu × (bytes ≡ encoding apdu)
exact values bytes [] apdu fits prefixes e =
    let taken = apdu_takes values bytes apdu [] fits e in
    (taken.0, taken.1 ∙ append-nil (encoding apdu))
exact values bytes (x ∷ rest) apdu fits prefixes e =
    let taken = apdu_takes values bytes apdu (x ∷ rest) fits e in
    let text = encoding apdu in
    let longer : length text < length bytes = omega (arith, ap length taken.1, length-append text (x ∷ rest)) in
    let prefix : take (length text) bytes ≡ text = ap (take (length text)) taken.1 ∙ take_at text (x ∷ rest) (length text) refl in
    let again : apdu_at text ≡ Ok (apdu, []) = ap apdu_at (sym (append-nil text)) ∙ apdu_again values apdu [] taken.0 in
    absurd (no_value (Short (length (take (length text) bytes))) (apdu, [])
    (sym again ∙ ap apdu_at (sym prefix) ∙ prefixes (length text) longer))

-- If the proper prefixes of `bytes` are unfinished, and decoding gives an APDU, all of `bytes` is its encoding.
pub encoded_exactly : Values → (bytes : List ℕ) (found : Apdu × ℕ) → IsBytes bytes → AreUnfinished bytes
    → Decodes bytes (apdu_at bytes) (Ok found) → IsApdu found.0 × (bytes ≡ encoding found.0)
encoded_exactly values bytes found fits prefixes h =
    exact values bytes (drop found.1 bytes) found.0 fits prefixes (decodes_ok bytes (apdu_at bytes) found h)

-- If the proper prefixes of `bytes` are unfinished, and memory ran out, `bytes` is the encoding of one APDU.
pub encoded_without_memory : Values → (bytes : List ℕ) → IsBytes bytes → AreUnfinished bytes
    → Decodes bytes (apdu_at bytes) (Err OutOfMemory) → EncodesOne bytes
encoded_without_memory values bytes fits prefixes h =
    elim (decodes_err bytes (apdu_at bytes) OutOfMemory h) [
      | inl e ↦ absurd (apdu_memory values bytes e)
      | inr e ↦ let found = e.1 in
          let read = found.0 in
          let is = exact values bytes read.1 read.0 fits prefixes found.1 in
          (read.0, is.0, is.1)
    ]

-- ---- reads one after another

-- If a reader gives `prefix` and then no bytes, it gives exactly `prefix`.
pub consumes_nothing : (old middle new : Option (List ℕ)) (prefix : List ℕ) → Consumes old middle prefix
    → Consumes middle new [] → Consumes old new prefix
consumes_nothing old middle new prefix first second =
    subst (Consumes old new) (append-nil prefix) (Consumes-trans old middle new prefix [] first second)
