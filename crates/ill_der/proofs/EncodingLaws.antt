-- The laws of encodings, which follow from those of reading.
use Rattle.std.proofs.Common.{◌≡◌, ℕ, zero, suc, ◌<◌, ◌≤◌, get_or, true, List, [], ◌++◌, length, Some, Result, Ok, Err, refl, sym}
use Rattle.std.proofs.Common.{ap, ◌∙◌, arith}
use Rattle.std.proofs.Math.ListN.{replicate}
use Rattle.std.proofs.lemmas.List.{append-nil}
use Rattle.std.proofs.lemmas.Str.{IsUtf8-from_ascii, is_utf8-from_IsUtf8}
use Rattle.std.specs.Str.{is_utf8}
use Rattle.ill_values.specs.Text.{IsItem}
use Rattle.ill_values.specs.declared.apdu.Apdu.{Apdu}
use Rattle.ill_values.specs.declared.apdu.BodyWith.TheVariants as bodies
use Rattle.ill_values.specs.Day.{Date, IsDate}
use Rattle.ill_values.specs.TxnId.{Qualifiers}
use Rattle.ill_values.specs.Apdu.{IsApdu}
use Rattle.ill_der.specs.declared.fault.DerFault.{DerFault}
use Rattle.ill_values.specs.declared.apdu_type.ApduType.TheVariants.{IllRequest}
use Rattle.ill_der.specs.Format.{element, length_octets}
use Rattle.ill_values.specs.Types.{type_of}
use Rattle.ill_der.specs.Types.{identifier_of}
use Rattle.ill_der.specs.ShortForm.{contents_of, encoding, apdu_at}
use Rattle.ill_der.specs.Laws.{IsBytes, BeginsWithOne}
use Rattle.ill_der.proofs.Chains.{ok_is, no_value}
use Rattle.ill_der.proofs.Lengths.{few_octets}
use Rattle.ill_der.proofs.Sizes.{element_length}
use Rattle.ill_der.proofs.ContentsLaws.{Values}
use Rattle.ill_der.proofs.ShortFormLaws.{apdu_takes, apdu_again, apdu_memory, contents_bound, short_contents}

-- The law of reading again: `apdu_at` reads each APDU in range from its encoding, whatever follows.
abbrev pub ReadsAgain : Type 0
ReadsAgain = (apdu : Apdu) (rest : List ℕ) → IsApdu apdu → apdu_at (encoding apdu ++ rest) ≡ Ok (apdu, rest)

-- `apdu_at` reads each APDU in range from its encoding alone, and leaves no bytes.
read_alone : ReadsAgain → (apdu : Apdu) → IsApdu apdu → apdu_at (encoding apdu) ≡ Ok (apdu, [])
read_alone again apdu is = ap apdu_at (sym (append-nil (encoding apdu))) ∙ again apdu [] is

-- If two APDUs in range have equal encodings, they are equal.
pub one_apdu : ReadsAgain → (a b : Apdu) → IsApdu a → IsApdu b → encoding a ≡ encoding b → a ≡ b
one_apdu again a b first second e =
    let both : (a, []) ≡ (b, []) = ok_is (a, []) (b, [])
    (sym (read_alone again a first) ∙ ap apdu_at e ∙ read_alone again b second) in
    ap (λ (x : Apdu × List ℕ). x.0) both

-- If the encoding of `b` is the encoding of `a` followed by `rest`, `rest` is empty.
pub no_prefix : ReadsAgain → (a b : Apdu) (rest : List ℕ) → IsApdu a → IsApdu b → encoding b ≡ encoding a ++ rest → rest ≡ []
no_prefix again a b rest first second e =
    let both : (a, rest) ≡ (b, []) =
    ok_is (a, rest) (b, []) (sym (again a rest first) ∙ ap apdu_at (sym e) ∙ read_alone again b second) in
    ap (λ (x : Apdu × List ℕ). x.1) both

-- The encoding of an APDU in range has at most 359 bytes.
pub encoded_most : Values → (apdu : Apdu) → IsApdu apdu → length (encoding apdu) ≤ 359
unfolding encoding
encoded_most values apdu is =
    let contents = contents_of apdu in
    let bound = contents_bound values apdu is in
    omega (arith, element_length (identifier_of (type_of apdu.body)) contents, few_octets (length contents) 355 bound, bound)

-- The encoding of an APDU in range that is no ILL-Request has at most 162 bytes.
pub encoded_shorter : Values → (apdu : Apdu) → IsApdu apdu → (type_of apdu.body ≡ IllRequest → ⊥) → length (encoding apdu) ≤ 162
unfolding encoding
encoded_shorter values apdu is other =
    let contents = contents_of apdu in
    let bound = short_contents values apdu is other in
    omega (arith, element_length (identifier_of (type_of apdu.body)) contents, few_octets (length contents) 159 bound, bound)

-- ---- bytes of any kind

-- If `apdu_at bytes` is `read`, `bytes` begins with exactly the APDU of `read`, or with none if `read` is a fault.
-- By `apdu_takes` the APDU that is read begins `bytes`. By `apdu_again` each APDU that begins `bytes` is read.
begins_with_one : Values → (bytes : List ℕ) (read : Result (Apdu × List ℕ) DerFault) → IsBytes bytes
    → apdu_at bytes ≡ read → BeginsWithOne bytes read
begins_with_one values bytes (Ok found) fits e =
    let takes = apdu_takes values bytes found.0 found.1 fits e in (
      takes,
      λ apdu rest begins. ok_is (apdu, rest) found
          (sym (apdu_again values apdu rest begins.0) ∙ ap apdu_at (sym begins.1) ∙ e),
    )
begins_with_one values bytes (Err fault) fits e = (
  λ is. apdu_memory values bytes (e ∙ ap Err is),
  λ apdu rest begins. no_value fault (apdu, rest) (sym (apdu_again values apdu rest begins.0) ∙ ap apdu_at (sym begins.1) ∙ e),
)

-- `bytes` begins with exactly the APDU that `apdu_at` reads, or with none if `apdu_at` returns a fault.
pub prefix_or_fault : Values → (bytes : List ℕ) → IsBytes bytes → BeginsWithOne bytes (apdu_at bytes)
prefix_or_fault values bytes fits = begins_with_one values bytes (apdu_at bytes) fits refl

-- ---- a longest APDU, and a longest APDU that is no ILL-Request

-- An item of 200 bytes, the maximum of an item.
longest_item : List ℕ
longest_item = replicate 200 0x4D

-- Each element of a list of copies of 4D is below 128.
same_ascii : (n i : ℕ) → get_or (replicate n 0x4D) i 0 < 128
same_ascii zero i = omega arith
same_ascii (suc n) zero = omega arith
same_ascii (suc n) (suc i) = same_ascii n i

-- `longest_item` is an item.
longest_item_is : IsItem longest_item
unfolding longest_item
longest_item_is = let text : is_utf8 (replicate 200 0x4D) ≡ true =
    is_utf8-from_IsUtf8 (replicate 200 0x4D) (IsUtf8-from_ascii (replicate 200 0x4D) (same_ascii 200)) in rw text refl

-- A transaction id with two qualifiers of 64 bytes, the maximum of a qualifier.
abbrev longest_txn : Qualifiers
longest_txn = record { group = replicate 64 0x47; transaction = replicate 64 0x54 }

-- 31 December 9999, the last day in range.
abbrev last_day : Date
last_day = record { year = 9999; month = 12; day = 31 }

-- `last_day` is in range.
last_day_is : IsDate last_day
last_day_is = record {
  from_1900 = omega arith;
  to_9999 = omega arith;
  from_january = omega arith;
  to_december = omega arith;
  from_first = omega arith;
  to_last = omega arith;
}

-- An ILL-Request whose fields all have their maximum size.
longest_apdu : Apdu
longest_apdu = record { txn = longest_txn; number = 255; body = bodies.IllRequest (Some last_day) longest_item }

-- `longest_apdu` is in range.
longest_is : IsApdu longest_apdu
unfolding longest_apdu
longest_is = record {
  txn = record { group = refl; transaction = refl };
  number = (omega arith, omega arith);
  body = (last_day_is, longest_item_is);
}

-- The encoding of some APDU in range has 359 bytes.
pub longest_reached : (apdu : Apdu) × IsApdu apdu × (length (encoding apdu) ≡ 359)
unfolding longest_apdu longest_item encoding element length_octets
longest_reached = (longest_apdu, longest_is, refl)

-- A Renew-Answer whose fields all have their maximum size.
longest_other : Apdu
longest_other = record { txn = longest_txn; number = 255; body = bodies.RenewAnswer 255 (Some last_day) }

-- `longest_other` is in range.
longest_other_is : IsApdu longest_other
unfolding longest_other
longest_other_is = record {
  txn = record { group = refl; transaction = refl };
  number = (omega arith, omega arith);
  body = ((omega arith, omega arith), last_day_is);
}

-- The encoding of some APDU in range that is no ILL-Request has 162 bytes.
pub shorter_reached : (apdu : Apdu) × IsApdu apdu × (type_of apdu.body ≡ IllRequest → ⊥) × (length (encoding apdu) ≡ 162)
unfolding longest_other encoding element length_octets
shorter_reached = (longest_other, longest_other_is, λ e. cc, refl)
