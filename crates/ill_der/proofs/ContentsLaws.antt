-- The laws of each kind of contents: it reads exactly the encodings of its values (`IsContents`).
use Rattle.std.proofs.Common.{◌≡◌, ℕ, ◌<◌, ◌≤◌, Bool, true, false, cond, ◌&&◌, eqb, leb, ltb, List, [], ◌∷◌, length, Some, None}
use Rattle.std.proofs.Common.{Result, Ok, Err, refl, sym, ap, subst, ◌∙◌, inl, inr, arith, Option}
use Rattle.std.specs.Prelude.{is_ok, find, ◌⊎◌}
use Rattle.std.specs.Str.{bytes_eq}
use Rattle.std.specs.Result.{result_ok}
use Rattle.std.proofs.lemmas.Bool.{cases_lt, lt-ltb, le-ltb, le-leb, ltb-true, leb-true, eqb-true, and_parts}
use Rattle.std.proofs.lemmas.Slice.Eq.{bytes_eq-Decides}
use Rattle.std.proofs.lemmas.Option.{same_Some, cond_some}
use Rattle.ill_values.specs.declared.fault.TextFault.{TextFault}
use Rattle.ill_values.specs.declared.fault.DayFault.{DayFault}
use Rattle.ill_values.specs.Apdu.{IsNumber}
use Rattle.ill_values.specs.Day.{Date, IsDate, date_text, read_date}
use Rattle.ill_values.specs.Text.{qualifier_check, IsQualifier, item_check, IsItem}
use Rattle.ill_values.specs.declared.apdu.AnswerResult.{AnswerResult}
use Rattle.ill_values.specs.declared.apdu.AnswerResult.TheVariants.{Conditional, Retry, Unfilled, LocationsProvided, WillSupply}
use Rattle.ill_values.specs.declared.apdu.AnswerResult.TheVariants.{HoldPlaced, Estimate}
use Rattle.ill_values.specs.Results.{all_results}
use Rattle.ill_der.specs.Contents.{code_of, result_from, answer_result, yes_no_from, yes_no, number_octets, number_from, number}
use Rattle.ill_der.specs.Contents.{version, version_from, qualifier, qualifier_from, item, item_from, date}
use Rattle.ill_der.proofs.Chains.{chosen}
use Rattle.ill_der.specs.Laws.{IsBytes}
use Rattle.ill_der.proofs.Formats.{IsContents}

-- The laws of `ill_values` that the proofs use: a date is read only from its text, and texts have these sizes.
pub record Values : Type 0 where
  pub day_encoded : (d : Date) → IsDate d → read_date (date_text d) ≡ Ok d
  pub day_read : (text : List ℕ) (d : Date) → read_date text ≡ Ok d → IsDate d × (text ≡ date_text d)
  pub qualifier_size : (text : List ℕ) → IsQualifier text → (1 ≤ length text) × (length text ≤ 64)
  pub item_size : (text : List ℕ) → IsItem text → (1 ≤ length text) × (length text ≤ 200)

-- `v` is any result.
abbrev pub IsAnyResult : AnswerResult → Type 0
IsAnyResult v = Unit {0}

-- `v` is yes or no.
abbrev pub IsYesOrNo : Bool → Type 0
IsYesOrNo v = Unit {0}

-- If `cond b (Some a) o` is `Some x`, then `b` is true and `a` is `x`, or `o` is `Some x`.
found_first : {A : Type 0} (b : Bool) (a : A) (o : Option A) (x : A) → cond b (Some a) o ≡ Some x
    → ((b ≡ true) × (a ≡ x)) ⊎ (o ≡ Some x)
found_first true a o x e = inl (refl, same_Some a x e)
found_first false a o x e = inr e

-- ---- numbers

-- A number `n` below 128 is encoded as one octet, `n`.
one_octet : (n : ℕ) → n < 128 → number_octets n ≡ n ∷ []
one_octet n lt = rw (lt-ltb n 128 lt) refl

-- A number `n` from 128 on is encoded as 0 and `n`.
two_octets : (n : ℕ) → 128 ≤ n → number_octets n ≡ 0 ∷ n ∷ []
two_octets n le = rw (le-ltb n 128 le) refl

-- If `number_from` reads `v` from `bytes`, they are the encoding of `v`, which is 1 to 255.
-- One octet is a number below 128, and two are 0 and a number from 128 on. No other octets are read.
number_takes : (bytes : List ℕ) (v : ℕ) → IsBytes bytes → number_from bytes ≡ Some v → (bytes ≡ number_octets v) × IsNumber v
number_takes [] v fits e = absurd cc
number_takes (n ∷ []) v fits e =
    let is = cond_some (leb 1 n && ltb n 128) n v e in
    let range = and_parts (leb 1 n) (ltb n 128) is.0 in
    let from = leb-true 1 n range.0 in
    let to = ltb-true n 128 range.1 in
    subst (λ (x : ℕ). (n ∷ [] ≡ number_octets x) × IsNumber x) is.1 (sym (one_octet n to), (from, omega arith))
number_takes (high ∷ n ∷ []) v fits e =
    let is = cond_some (eqb high 0 && leb 128 n) n v e in
    let range = and_parts (eqb high 0) (leb 128 n) is.0 in
    let none = eqb-true high 0 range.0 in
    let from = leb-true 128 n range.1 in
    let small : n < 256 = fits 1 in
    subst (λ (x : ℕ). (high ∷ n ∷ [] ≡ number_octets x) × IsNumber x) is.1
    (ap (λ (x : ℕ). x ∷ n ∷ []) none ∙ sym (two_octets n from), (omega arith, omega arith))
number_takes (high ∷ n ∷ more ∷ rest) v fits e = absurd cc

-- `number_from` reads each number from 1 to 255 from its encoding.
number_again : (v : ℕ) → IsNumber v → number_from (number_octets v) ≡ Some v
number_again v is =
    elim (cases_lt v 128) [
      | inl lt ↦ rw (one_octet v lt) (rw (le-leb 1 v is.0, lt-ltb v 128 lt) refl)
      | inr le ↦ rw (two_octets v le) (rw (le-leb 128 v le) refl)
    ]

-- The encoding of a number has at most 2 octets.
number_bound : (v : ℕ) → IsNumber v → length (number_octets v) ≤ 2
number_bound v is =
    elim (cases_lt v 128) [
      | inl lt ↦ rw (one_octet v lt) (omega arith)
      | inr le ↦ rw (two_octets v le) (omega arith)
    ]

-- `number` reads exactly the encodings of the numbers 1 to 255, of at most 2 octets.
pub number_is : IsContents IsNumber 2 number
number_is = record { takes = number_takes; again = number_again; bound = number_bound }

-- ---- the version

-- `v` is the version, which has one value.
abbrev pub Always : Unit {0} → Type 0
Always v = Unit {0}

-- If `version_from` reads a version from `bytes`, they are the one octet 01.
version_takes : (bytes : List ℕ) (v : Unit {0}) → IsBytes bytes → version_from bytes ≡ Some v → (bytes ≡ 1 ∷ []) × Always v
version_takes bytes v fits e = ((bytes_eq-Decides bytes (1 ∷ [])).0 (cond_some (bytes_eq bytes (1 ∷ [])) tt v e).0, tt)

-- `version` reads exactly the encoding of the version, of 1 octet.
pub version_is : IsContents Always 1 version
version_is = record { takes = version_takes; again = λ v p. refl; bound = λ v p. omega arith }

-- ---- texts

-- If a check `r` succeeds, it is `Ok tt`.
checked : (r : Result (Unit {0}) TextFault) → is_ok r ≡ true → r ≡ Ok tt
checked (Ok x) e = refl
checked (Err f) e = absurd cc

-- If `qualifier_from` reads `v` from `bytes`, `bytes` is `v`, which is a qualifier.
qualifier_takes : (bytes v : List ℕ) → IsBytes bytes → qualifier_from bytes ≡ Some v → (bytes ≡ v) × IsQualifier v
qualifier_takes bytes v fits e =
    let is = cond_some (is_ok (qualifier_check bytes)) bytes v e in
    (is.1, subst IsQualifier is.1 (checked (qualifier_check bytes) is.0))

-- `qualifier` reads exactly the encodings of qualifiers, of at most 64 octets.
pub qualifier_is : Values → IsContents IsQualifier 64 qualifier
qualifier_is values = record {
  takes = qualifier_takes;
  again = λ v p. rw p refl;
  bound = λ v p. (values.qualifier_size v p).1;
}

-- If `item_from` reads `v` from `bytes`, `bytes` is `v`, which is an item.
item_takes : (bytes v : List ℕ) → IsBytes bytes → item_from bytes ≡ Some v → (bytes ≡ v) × IsItem v
item_takes bytes v fits e =
    let is = cond_some (is_ok (item_check bytes)) bytes v e in
    (is.1, subst IsItem is.1 (checked (item_check bytes) is.0))

-- `item` reads exactly the encodings of items, of at most 200 octets.
pub item_is : Values → IsContents IsItem 200 item
item_is values = record {
  takes = item_takes;
  again = λ v p. rw p refl;
  bound = λ v p. (values.item_size v p).1;
}

-- ---- days

-- If `result_ok r` is `Some d`, `r` is `Ok d`.
day_found : (r : Result Date DayFault) (d : Date) → result_ok r ≡ Some d → r ≡ Ok d
day_found (Ok x) d e = ap Ok (same_Some x d e)
day_found (Err f) d e = absurd cc

-- If `bytes` are read as the day `d`, they are its date text, and `d` is in range.
date_takes : Values → (bytes : List ℕ) (d : Date) → IsBytes bytes → result_ok (read_date bytes) ≡ Some d
    → (bytes ≡ date_text d) × IsDate d
date_takes values bytes d fits e = let is = values.day_read bytes d (day_found (read_date bytes) d e) in (is.1, is.0)

-- `date` reads exactly the encodings of days in range, of at most 8 octets.
pub date_is : Values → IsContents IsDate 8 date
date_is values = record {
  takes = date_takes values;
  again = λ d p. rw (values.day_encoded d p) refl;
  bound = λ d p. omega arith;
}

-- ---- results

-- If a search for the code `wanted` finds `x`, `wanted` is the code of `x`.
pub found_with : {A : Type 0} (code : A → ℕ) (wanted : ℕ) (all : List A) (x : A)
    → find (λ a. eqb wanted (code a)) all ≡ Some x → wanted ≡ code x
found_with code wanted [] x e = absurd cc
found_with {A} code wanted (a ∷ all) x e =
    elim (found_first (eqb wanted (code a)) a (find (λ b. eqb wanted (code b)) all) x e) [
      | inl h ↦ eqb-true wanted (code a) h.0 ∙ ap code h.1
      | inr h ↦ found_with code wanted all x h
    ]

-- If `result_from` reads `v` from `bytes`, they are the one octet of `v`.
result_takes : (bytes : List ℕ) (v : AnswerResult) → IsBytes bytes → result_from bytes ≡ Some v
    → (bytes ≡ code_of v ∷ []) × IsAnyResult v
result_takes [] v fits e = absurd cc
result_takes (code ∷ []) v fits e = (ap (λ (x : ℕ). x ∷ []) (found_with code_of code all_results v e), tt)
result_takes (code ∷ more ∷ rest) v fits e = absurd cc

-- `result_from` reads each result from its octet.
result_again : (v : AnswerResult) → IsAnyResult v → result_from (code_of v ∷ []) ≡ Some v
result_again Conditional p = refl
result_again Retry p = refl
result_again Unfilled p = refl
result_again LocationsProvided p = refl
result_again WillSupply p = refl
result_again HoldPlaced p = refl
result_again Estimate p = refl

-- `answer_result` reads exactly the encodings of results, of 1 octet.
pub result_is : IsContents IsAnyResult 1 answer_result
result_is = record { takes = result_takes; again = result_again; bound = λ v p. omega arith }

-- ---- yes and no

-- If `yes_no_from` reads `v` from `bytes`, they are the one octet of `v`.
yes_no_takes : (bytes : List ℕ) (v : Bool) → IsBytes bytes → yes_no_from bytes ≡ Some v → (bytes ≡ yes_no.encode v) × IsYesOrNo v
yes_no_takes [] v fits e = absurd cc
yes_no_takes (octet ∷ []) v fits e =
    elim (chosen (eqb octet 0) (Some false) (cond (eqb octet 0xFF) (Some true) None) (Some v) e) [
      | inl h ↦ subst (λ (x : Bool). (octet ∷ [] ≡ yes_no.encode x) × IsYesOrNo x) (same_Some false v h.1)
          (ap (λ (x : ℕ). x ∷ []) (eqb-true octet 0 h.0), tt)
      | inr h ↦
          let is = cond_some (eqb octet 0xFF) true v h.1 in
          subst (λ (x : Bool). (octet ∷ [] ≡ yes_no.encode x) × IsYesOrNo x) is.1
          (ap (λ (x : ℕ). x ∷ []) (eqb-true octet 0xFF is.0), tt)
    ]
yes_no_takes (octet ∷ more ∷ rest) v fits e = absurd cc

-- `yes_no_from` reads yes and no from their octets.
yes_no_again : (v : Bool) → IsYesOrNo v → yes_no_from (yes_no.encode v) ≡ Some v
yes_no_again true p = refl
yes_no_again false p = refl

-- `yes_no` reads exactly the encodings of yes and no, of 1 octet.
pub yes_no_is : IsContents IsYesOrNo 1 yes_no
yes_no_is = record { takes = yes_no_takes; again = yes_no_again; bound = λ v p. omega arith }
