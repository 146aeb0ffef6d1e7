-- The least number of bytes that an APDU lacks. With fewer bytes added it is short. If it lacks none, it is not short.
use Rattle.std.proofs.Common.{◌≡◌, ℕ, ◌+◌, ◌-◌, ◌<◌, ◌≤◌, Bool, true, false, cond, ltb, List, [], ◌∷◌, ◌++◌, length, take, drop}
use Rattle.std.proofs.Common.{Option, Some, None, is_some, Result, Ok, Err, inl, inr, refl, sym, ap, subst, ◌∙◌, arith}
use Rattle.std.proofs.lemmas.Bool.{cases_lt, ltb-true, ltb-false, lt-ltb}
use Rattle.std.proofs.lemmas.List.{append-nil, length-append, length-take-le, length-drop, take-append-le, take-append-drop}
use Rattle.std.proofs.lemmas.Slice.{take-put_mid, drop-put_mid}
use Rattle.std.proofs.Math.Seq.{take-append-add}
use borrow.Rule.Slice.PartMut.{put_mid}
use Rattle.ill_der.specs.declared.fault.DerFault.{DerFault}
use Rattle.ill_der.specs.declared.fault.DerFault.TheVariants.{Short, Length, Tag, Field, OutOfMemory}
use Rattle.ill_der.specs.declared.fault.ReadFault.{ReadFault}
use Rattle.ill_values.specs.declared.apdu.Apdu.{Apdu}
use Rattle.ill_der.specs.Laws.{IsBytes}
use Rattle.std.specs.Prelude.{IsErrAnd}
use Rattle.ill_values.specs.declared.apdu_type.ApduType.{ApduType}
use Rattle.ill_der.specs.declared.length.LengthForm.{LengthForm}
use Rattle.ill_der.specs.declared.length.LengthForm.TheVariants.{Truncated, Invalid, Definite}
use Rattle.ill_der.specs.Format.{◌>>=◌, length_of, IsFew}
use Rattle.ill_der.specs.Types.{type_with}
use Rattle.ill_der.specs.ShortForm.{header_by, header_of, header_at, outer_at, inside_of, apdu_at, Decodes}
use Rattle.ill_der.specs.Stream.{IsUnfinished, AreUnfinished, IfShort, IsJudged, read_fault, missing_by, missing_of}
use Rattle.ill_der.proofs.Chains.{bind_err, chosen, no_value, tag_inside, length_inside}
use Rattle.ill_der.proofs.Lengths.{length_few}
use Rattle.ill_der.proofs.StreamLemmas.{decodes_err, encoded_without_memory}
use Rattle.ill_der.proofs.ContentsLaws.{Values}
use Rattle.ill_der.proofs.ShortFormLaws.{IsFinal, length_more, outer_with, outer_after, outer_of, outer_is, outer_none}
use Rattle.ill_der.proofs.ShortFormLaws.{inside_faults}

-- ---- bytes that are missing after an identifier

-- Returns the least number of bytes that a length and its contents lack, if `size` bytes follow the identifier.
abbrev missing_after : LengthForm → ℕ → ℕ
missing_after Truncated size = 1
missing_after Invalid size = 0
missing_after (Definite n octets) size = cond (ltb 355 n) 0 (octets + n - size)

-- For a definite length, `missing_by` is the number of bytes up to the end of the contents, or 0 if `large`.
missing_in : (apdu_type : ApduType) (n octets size : ℕ) (large : Bool)
    → missing_by (cond large (Err (Length 1))
    (Ok (record { apdu_type = apdu_type; start = 1 + octets; size = 1 + (octets + n) }))) (size + 1)
    ≡ cond large 0 (octets + n - size)
missing_in apdu_type n octets size true = refl
missing_in apdu_type n octets size false = omega arith

-- For an APDU of a known type, `missing_by` of its header is `missing_after` of its length.
missing_cases : (apdu_type : ApduType) (form : LengthForm) (size : ℕ)
    → missing_by (header_by apdu_type form (size + 1)) (size + 1) ≡ missing_after form size
missing_cases apdu_type Truncated size = refl
missing_cases apdu_type Invalid size = refl
missing_cases apdu_type (Definite n octets) size = missing_in apdu_type n octets size (ltb 355 n)

-- `missing_by` of the header is `missing_after` of the length, or 0 if the identifier has no type.
missing_from : (o : Option ApduType) (bytes : List ℕ)
    → missing_by (header_of o bytes) (length bytes + 1) ≡ cond (is_some o) (missing_after (length_of bytes) (length bytes)) 0
missing_from None bytes = refl
missing_from (Some apdu_type) bytes = missing_cases apdu_type (length_of bytes) (length bytes)

-- `missing_of (first ∷ bytes)` is `missing_after` of the length in `bytes`, or 0 if `first` has no type.
missing_is : (first : ℕ) (bytes : List ℕ)
    → missing_of (first ∷ bytes) ≡ cond (is_some (type_with first)) (missing_after (length_of bytes) (length bytes)) 0
unfolding missing_of header_at
missing_is first bytes =
    ap (λ (size : ℕ). missing_by (header_of (type_with first) bytes) size)
    (let e : length (first ∷ bytes) ≡ length bytes + 1 = omega arith in e) ∙ missing_from (type_with first) bytes

-- The empty list of bytes lacks at least one byte.
missing_none : missing_of [] ≡ 1
unfolding missing_of header_at
missing_none = refl

-- ---- bytes that lack some, followed by too few

-- If `more` has fewer bytes than `bytes` lacks by a definite length, `bytes ++ more` is short.
wanted_is : (apdu_type : ApduType) (n octets : ℕ) (large : Bool) (bytes more : List ℕ) → ltb 355 n ≡ large
    → length_of bytes ≡ Definite n octets
    → length more < cond large 0 (octets + n - length bytes)
    → outer_after apdu_type (length_of (bytes ++ more)) (bytes ++ more) ≡ Err (Short (length (bytes ++ more) + 1))
wanted_is apdu_type n octets true bytes more large e lt = absurd (omega (arith, lt))
wanted_is apdu_type n octets false bytes more large e lt =
    let same : length_of (bytes ++ more) ≡ Definite n octets = length_more bytes more (subst IsFinal (sym e) tt) ∙ e in
    let few : ltb (length (bytes ++ more)) (octets + n) ≡ true = lt-ltb _ _ (omega (arith, lt, length-append bytes more)) in
    rw (same, large, few) refl

-- If `more` has fewer bytes than `bytes` lacks by its length `form`, `bytes ++ more` is short.
wanted_by : (apdu_type : ApduType) (form : LengthForm) (bytes more : List ℕ) → length_of bytes ≡ form
    → length more < missing_after form (length bytes)
    → outer_after apdu_type (length_of (bytes ++ more)) (bytes ++ more) ≡ Err (Short (length (bytes ++ more) + 1))
wanted_by apdu_type Truncated bytes [] e lt = rw (append-nil bytes, e) refl
wanted_by apdu_type Truncated bytes (x ∷ more) e lt = absurd (omega (arith, lt))
wanted_by apdu_type Invalid bytes more e lt = absurd (omega (arith, lt))
wanted_by apdu_type (Definite n octets) bytes more e lt = wanted_is apdu_type n octets (ltb 355 n) bytes more refl e lt

-- If `more` has fewer bytes than are missing after an identifier, `bytes ++ more` is short.
wanted_of : (o : Option ApduType) (bytes more : List ℕ)
    → length more < cond (is_some o) (missing_after (length_of bytes) (length bytes)) 0
    → outer_of o (bytes ++ more) ≡ Err (Short (length (bytes ++ more) + 1))
wanted_of None bytes more lt = absurd (omega (arith, lt))
wanted_of (Some apdu_type) bytes more lt = wanted_by apdu_type (length_of bytes) bytes more refl lt

-- If `more` has fewer bytes than `bytes` lacks, `outer_at (bytes ++ more)` is Short with the number of all bytes.
wanted_outer : (bytes more : List ℕ) → length more < missing_of bytes
    → outer_at (bytes ++ more) ≡ Err (Short (length (bytes ++ more)))
wanted_outer [] [] lt = outer_none
wanted_outer [] (x ∷ more) lt = absurd (omega (arith, lt, missing_none))
wanted_outer (first ∷ bytes) more lt =
    outer_is first (bytes ++ more) ∙ wanted_of (type_with first) bytes more
    (subst (λ (k : ℕ). length more < k) (missing_is first bytes) lt) ∙ ap (λ (k : ℕ). Err (Short k)) (omega arith)

-- If `more` has fewer bytes than `bytes` lacks, `bytes ++ more` is unfinished.
pub unfinished_with_fewer : (bytes more : List ℕ) → length more < missing_of bytes → IsUnfinished (bytes ++ more)
unfolding apdu_at
unfinished_with_fewer bytes more lt = rw (wanted_outer bytes more lt) refl

-- ---- bytes that lack none

-- If `bytes` lacks no byte by its length `form`, `outer_after` is not Short.
enough_by : (apdu_type : ApduType) (form : LengthForm) (bytes : List ℕ) (n : ℕ) → missing_after form (length bytes) ≡ 0
    → outer_after apdu_type form bytes ≡ Err (Short n) → ⊥
enough_by apdu_type Truncated bytes n none e = omega (arith, none)
enough_by apdu_type Invalid bytes n none e = length_inside 1 (Short n) e
enough_by apdu_type (Definite m octets) bytes n none e =
    elim (chosen (ltb 355 m) (Err (Length 1))
    (cond (ltb (length bytes) (octets + m)) (Err (Short (length bytes + 1))) (Ok (outer_with apdu_type m octets bytes)))
    (Err (Short n)) e) [
      | inl h ↦ length_inside 1 (Short n) h.1
      | inr h ↦ elim (chosen (ltb (length bytes) (octets + m)) (Err (Short (length bytes + 1)))
          (Ok (outer_with apdu_type m octets bytes)) (Err (Short n)) h.1) [
            | inl g ↦
                let left : octets + m - length bytes ≡ 0 =
                subst (λ (large : Bool). cond large 0 (octets + m - length bytes) ≡ 0) h.0 none in
                omega (arith, left, ltb-true (length bytes) (octets + m) g.0)
            | inr g ↦ no_value (Short n) (outer_with apdu_type m octets bytes) g.1
          ]
    ]

-- If `bytes` lacks no byte after an identifier, `outer_of` is not Short.
enough_of : (o : Option ApduType) (bytes : List ℕ) (n : ℕ)
    → cond (is_some o) (missing_after (length_of bytes) (length bytes)) 0 ≡ 0 → outer_of o bytes ≡ Err (Short n) → ⊥
enough_of None bytes n none e = tag_inside 0 (Short n) e
enough_of (Some apdu_type) bytes n none e = enough_by apdu_type (length_of bytes) bytes n none e

-- If `bytes` lacks no byte, `outer_at bytes` is not Short.
enough_outer : (bytes : List ℕ) (n : ℕ) → missing_of bytes ≡ 0 → outer_at bytes ≡ Err (Short n) → ⊥
enough_outer [] n none e = omega (arith, none, missing_none)
enough_outer (first ∷ bytes) n none e =
    enough_of (type_with first) bytes n (sym (missing_is first bytes) ∙ none) (sym (outer_is first bytes) ∙ e)

-- If `bytes` lacks no byte, `apdu_at bytes` is not Short.
never_short : Values → (bytes : List ℕ) (n : ℕ) → missing_of bytes ≡ 0 → apdu_at bytes ≡ Err (Short n) → ⊥
unfolding apdu_at
never_short values bytes n none e =
    elim (bind_err (outer_at bytes) (λ outer. inside_of outer.apdu_type outer.inside >>= λ apdu. Ok (apdu, drop outer.size bytes))
    (Short n) e) [
      | inl h ↦ enough_outer bytes n none h
      | inr outer ↦ elim (bind_err (inside_of outer.value.apdu_type outer.value.inside)
          (λ apdu. Ok (apdu, drop outer.value.size bytes)) (Short n) outer.follows) [
            | inl g ↦ inside_faults values outer.value.apdu_type outer.value.inside (Short n) g
            | inr inner ↦ no_value (Short n) (inner.value, drop outer.value.size bytes) inner.follows
          ]
    ]

-- If `bytes` lacks no byte, its fault is not Short.
pub not_short : Values → (bytes : List ℕ) (fault : DerFault) → missing_of bytes ≡ 0 → apdu_at bytes ≡ Err fault → IfShort fault ⊥
not_short values bytes (Short n) none e = never_short values bytes n none e
not_short values bytes (Tag at) none e = tt
not_short values bytes (Length at) none e = tt
not_short values bytes (Field at) none e = tt
not_short values bytes OutOfMemory none e = tt

-- If `bytes` lacks no byte, and decoding has a fault other than OutOfMemory, `bytes` has it, and it is not Short.
pub refused : Values → (bytes : List ℕ) (fault : DerFault) → (fault ≡ OutOfMemory → ⊥) → missing_of bytes ≡ 0
    → Decodes bytes (apdu_at bytes) (Err fault)
    → (apdu_at bytes ≡ Err fault) × IfShort fault ⊥
refused values bytes fault other none h =
    elim (decodes_err bytes (apdu_at bytes) fault h) [
      | inl e ↦ (e, not_short values bytes fault none e)
      | inr e ↦ absurd (other e.0)
    ]

-- Let `bytes` lack no byte, and let its proper prefixes be unfinished.
-- If decoding has `fault`, the error `read_fault fault` is the right result for `bytes` (`IsJudged`).
judged_fault : Values → (bytes : List ℕ) (fault : DerFault) → IsBytes bytes → AreUnfinished bytes → missing_of bytes ≡ 0
    → Decodes bytes (apdu_at bytes) (Err fault)
    → IsJudged bytes (Err (read_fault fault))
judged_fault values bytes OutOfMemory fits prefixes none h = encoded_without_memory values bytes fits prefixes h
judged_fault values bytes (Short at) fits prefixes none h = refused values bytes (Short at) (λ e. absurd cc) none h
judged_fault values bytes (Tag at) fits prefixes none h = refused values bytes (Tag at) (λ e. absurd cc) none h
judged_fault values bytes (Length at) fits prefixes none h = refused values bytes (Length at) (λ e. absurd cc) none h
judged_fault values bytes (Field at) fits prefixes none h = refused values bytes (Field at) (λ e. absurd cc) none h

-- Let `bytes` lack no byte, and let its proper prefixes be unfinished.
-- If decoding has `fault`, and `r` is the error `read_fault fault`, `r` is the right result for `bytes` (`IsJudged`).
pub judged_error : Values → (bytes : List ℕ) (fault : DerFault) (r : Result (Option Apdu) ReadFault) → IsBytes bytes
    → AreUnfinished bytes → missing_of bytes ≡ 0
    → Decodes bytes (apdu_at bytes) (Err fault) → IsErrAnd r (λ handed. handed ≡ read_fault fault) → IsJudged bytes r
judged_error values bytes fault (Ok found) fits prefixes none h is = absurd is
judged_error values bytes fault (Err handed) fits prefixes none h is =
    subst (λ (f : ReadFault). IsJudged bytes (Err f)) (sym is) (judged_fault values bytes fault fits prefixes none h)

-- ---- no APDU is longer than 359 bytes

-- If contents of a definite length are missing, the missing bytes and the `size` present ones are at most 358.
most_is : (n octets size : ℕ) (large : Bool) → ltb 355 n ≡ large → octets ≤ 3 → 0 < cond large 0 (octets + n - size)
    → size + cond large 0 (octets + n - size) ≤ 358
most_is n octets size true e few some = absurd (omega (arith, some))
most_is n octets size false e few some = omega (arith, few, some, ltb-false 355 n e)

-- If bytes are missing by the length `form`, the missing bytes and the `size` present ones are at most 358.
most_by : (form : LengthForm) (size : ℕ) → IsFew form size → 0 < missing_after form size → size + missing_after form size ≤ 358
most_by Truncated size few some = omega (arith, few)
most_by Invalid size few some = absurd (omega (arith, some))
most_by (Definite n octets) size few some = most_is n octets size (ltb 355 n) refl few some

-- If bytes are missing after an identifier, the missing bytes and `bytes` are at most 358.
most_of : (o : Option ApduType) (bytes : List ℕ) → 0 < cond (is_some o) (missing_after (length_of bytes) (length bytes)) 0
    → length bytes + cond (is_some o) (missing_after (length_of bytes) (length bytes)) 0 ≤ 358
most_of None bytes some = absurd (omega (arith, some))
most_of (Some apdu_type) bytes some = most_by (length_of bytes) (length bytes) (length_few bytes) some

-- If `bytes` lacks a byte, the missing bytes and `bytes` are at most 359.
pub most_missing : (bytes : List ℕ) → 0 < missing_of bytes → length bytes + missing_of bytes ≤ 359
most_missing [] some = omega (arith, missing_none)
most_missing (first ∷ bytes) some =
    omega (
      arith,
      missing_is first bytes,
      most_of (type_with first) bytes (subst (λ (k : ℕ). 0 < k) (missing_is first bytes) some),
    )

-- ---- a read of at most the missing bytes, and the buffer that takes them

-- If `bytes` lacks a byte, it is unfinished.
pub unfinished_alone : (bytes : List ℕ) → 0 < missing_of bytes → IsUnfinished bytes
unfinished_alone bytes some = subst IsUnfinished (append-nil bytes) (unfinished_with_fewer bytes [] some)

-- Let the proper prefixes of `prefix` be unfinished, and let `more` have at most as many bytes as `prefix` lacks.
-- Then the proper prefixes of `prefix ++ more` are unfinished.
pub read_on : (prefix more : List ℕ) → AreUnfinished prefix → length more ≤ missing_of prefix → AreUnfinished (prefix ++ more)
read_on prefix more prefixes few size lt =
    elim (cases_lt size (length prefix)) [
      | inl shorter ↦ subst IsUnfinished (sym (take-append-le size prefix more (omega arith))) (prefixes size shorter)
      | inr le ↦
          let k = size - length prefix in
          let is : take size (prefix ++ more) ≡ prefix ++ take k more =
          ap (λ (m : ℕ). take m (prefix ++ more)) (let e : size ≡ length prefix + k = omega (arith, le) in e)
          ∙ take-append-add prefix more k in
          let fewer : k < length more = omega (arith, le, lt, length-append prefix more) in
          subst IsUnfinished (sym is) (unfinished_with_fewer prefix (take k more)
          (omega (arith, few, fewer, length-take-le k more (omega (arith, fewer)))))
    ]

-- Let `put_mid` replace the `k` bytes of `bytes` from the offset `size` on by `buffer`. The result begins with the
-- first `size` bytes of `bytes` and the first `count` bytes of `buffer`.
pub filled : (size k count : ℕ) (bytes buffer : List ℕ) → size ≤ length bytes → count ≤ length buffer
    → take (size + count) (put_mid size k bytes buffer) ≡ take size bytes ++ take count buffer
filled size k count bytes buffer fits few =
    let all = put_mid size k bytes buffer in
    let n = size + length buffer in
    let prefix = take size bytes in
    let long : length prefix ≡ size = length-take-le size bytes fits in
    let whole : take n all ≡ prefix ++ buffer = take-put_mid size k bytes buffer n refl fits in
    let parts : all ≡ (prefix ++ buffer) ++ drop n all =
    sym (take-append-drop n all) ∙ ap (λ (x : List ℕ). x ++ drop n all) whole in
    ap (take (size + count)) parts ∙ take-append-le (size + count) (prefix ++ buffer) (drop n all)
    (omega (arith, long, few, length-append prefix buffer))
    ∙ ap (λ (m : ℕ). take (m + count) (prefix ++ buffer)) (sym long) ∙ take-append-add prefix buffer count

-- If `buffer` has `k` bytes and fits into `bytes` from the offset `size` on, `put_mid` keeps the length of `bytes`.
pub filled_length : (size k : ℕ) (bytes buffer : List ℕ) → length buffer ≡ k → size + k ≤ length bytes
    → length (put_mid size k bytes buffer) ≡ length bytes
filled_length size k bytes buffer room fits =
    let all = put_mid size k bytes buffer in
    let n = size + length buffer in
    let within : size ≤ length bytes = omega (arith, fits) in
    omega (
      arith,
      ap length (take-append-drop n all),
      length-append (take n all) (drop n all),
      ap length (take-put_mid size k bytes buffer n refl within),
      length-append (take size bytes) buffer,
      length-take-le size bytes within,
      ap length (drop-put_mid size k bytes buffer n (omega (arith, room)) within room),
      length-drop n bytes,
      room,
      fits,
    )
