-- Elements: bytes that are read as an element are its encoding, and an element is read from its encoding.
use Rattle.std.proofs.Common.{◌≡◌, ℕ, ◌+◌, ◌<◌, ◌≤◌, true, false, eqb, ltb, List, [], ◌∷◌, ◌++◌, length, take, drop, Ok, Err}
use Rattle.std.proofs.Common.{refl, sym, ap, subst, ◌∙◌, inl, inr, eq-eqb, append_assoc, arith}
use Rattle.std.proofs.lemmas.Bool.{ltb-false, le-ltb, eqb-true}
use Rattle.std.proofs.lemmas.List.{take_at, drop_at, take-append-drop, length-append, length-take, length-drop, drop-drop}
use Rattle.std.proofs.lemmas.List.{nil_from_length}
use Rattle.ill_der.specs.declared.fault.DerFault.{DerFault}
use Rattle.ill_der.specs.declared.fault.DerFault.TheVariants.{Tag, Length}
use Rattle.ill_der.specs.declared.length.LengthForm.{LengthForm}
use Rattle.ill_der.specs.declared.length.LengthForm.TheVariants.{Truncated, Invalid, Definite}
use Rattle.ill_der.specs.Format.{length_octets, length_of, element, Cursor, cursor_at, contents_by, begins_with, element_at}
use Rattle.ill_der.specs.Format.{ended}
use Rattle.ill_der.proofs.Chains.{passed, test_failed, chosen, ok_is, no_value, IsInside, tag_inside, length_inside}
use Rattle.ill_der.specs.Laws.{IsBytes}
use Rattle.ill_der.proofs.Bytes.{IsBytes-drop, IsBytes-take}
use Rattle.ill_der.proofs.Lengths.{length_again, length_takes, overhead, few_octets}

-- ---- bytes that are read are an encoding

-- If `bytes` begins with `identifier`, it is `identifier` followed by the bytes after the first.
begins_true : (identifier : ℕ) (bytes : List ℕ) → begins_with identifier bytes ≡ true → bytes ≡ identifier ∷ drop 1 bytes
begins_true identifier [] e = absurd cc
begins_true identifier (first ∷ rest) e = ap (λ (x : ℕ). x ∷ rest) (eqb-true first identifier e)

-- `bytes` begins with the definite length `n`, of `octets` octets. The `n` octets `inside` follow it, and then `rest`.
record TakesContents (bytes inside rest : List ℕ) : Type 0 where
  n : ℕ
  octets : ℕ
  form : length_of bytes ≡ Definite n octets
  enough : octets + n ≤ length bytes
  inside-is : take n (drop octets bytes) ≡ inside
  rest-is : drop (octets + n) bytes ≡ rest

-- Let `form` be the length with which `left` begins. If `contents_by` gives `inside` and `rest`, `left` is a definite
-- length, its contents `inside`, and `rest`. By `there` no contents are missing.
contents_found : (form : LengthForm) (left inside rest : Cursor) → length_of left.bytes ≡ form
    → contents_by form left ≡ Ok (inside, rest) → TakesContents left.bytes inside.bytes rest.bytes
contents_found Truncated left inside rest f e = absurd cc
contents_found Invalid left inside rest f e = absurd cc
contents_found (Definite n octets) left inside rest f e =
    let part : Cursor = cursor_at (left.at + octets) (take n (drop octets left.bytes)) in
    let later : Cursor = cursor_at (left.at + (octets + n)) (drop (octets + n) left.bytes) in
    let there = test_failed (ltb (length left.bytes) (octets + n)) (Ok (part, later)) (Length left.at) (inside, rest) e in
    let both : (part, later) ≡ (inside, rest) = ok_is (part, later) (inside, rest) there.1 in
    record {
      n = n;
      octets = octets;
      form = f;
      enough = ltb-false (length left.bytes) (octets + n) there.0;
      inside-is = ap (λ (p : Cursor × Cursor). p.0.bytes) both;
      rest-is = ap (λ (p : Cursor × Cursor). p.1.bytes) both;
    }

-- `bytes` is the element of `identifier` and `inside`, followed by `rest`, and `inside` and `rest` are octets.
pub record TakesElement (identifier : ℕ) (bytes inside rest : List ℕ) : Type 0 where
  pub parts : bytes ≡ element identifier inside ++ rest
  pub inside_fits : IsBytes inside
  pub rest_fits : IsBytes rest

-- If `bytes` is `identifier`, the length octets of `inside`, `inside` and `rest`, it is an element and `rest`.
pub assembled : (identifier n octets : ℕ) (bytes later inside rest : List ℕ) → bytes ≡ identifier ∷ later
    → later ≡ length_octets n ++ drop octets later
    → drop octets later ≡ inside ++ rest → length inside ≡ n → bytes ≡ element identifier inside ++ rest
unfolding element
assembled identifier n octets bytes later inside rest first second third size =
    first ∙ ap (λ (x : List ℕ). identifier ∷ x) (second ∙ ap (λ (x : List ℕ). length_octets n ++ x) third
    ∙ sym (append_assoc (length_octets n) inside rest) ∙ ap (λ (k : ℕ). (length_octets k ++ inside) ++ rest) (sym size))

-- If `element_at` gives `inside` and `rest`, `left` is the element of `identifier` and `inside`, followed by `rest`.
-- `later` is the bytes after the identifier: the length octets, and then `inside` and `rest` (`split`).
pub element_takes : (identifier : ℕ) (left inside rest : Cursor) → IsBytes left.bytes
    → element_at identifier left ≡ Ok (inside, rest) → TakesElement identifier left.bytes inside.bytes rest.bytes
unfolding element_at
element_takes identifier left inside rest fits e =
    let later = drop 1 left.bytes in
    let begins = passed (begins_with identifier left.bytes) (contents_by (length_of later) (cursor_at (left.at + 1) later))
    (Tag left.at) (inside, rest) e in
    let fits1 = IsBytes-drop 1 left.bytes fits in
    let found = contents_found (length_of later) (cursor_at (left.at + 1) later) inside rest refl begins.1 in
    let encoded = length_takes later found.n found.octets fits1 found.form in
    let taken = drop found.octets later in
    let size : length inside.bytes ≡ found.n =
    ap length (sym found.inside-is)
    ∙ omega (arith, length-take found.n taken, length-drop found.octets later, found.enough) in
    let split : taken ≡ inside.bytes ++ rest.bytes =
    sym (take-append-drop found.n taken) ∙ ap (λ (x : List ℕ). x ++ drop found.n taken) found.inside-is
    ∙ ap (λ (x : List ℕ). inside.bytes ++ x) (drop-drop found.n found.octets later ∙ found.rest-is) in
    record {
      parts = assembled identifier found.n found.octets left.bytes later inside.bytes rest.bytes
          (begins_true identifier left.bytes begins.0) encoded.0 split size;
      inside_fits = subst IsBytes found.inside-is (IsBytes-take found.n taken (IsBytes-drop found.octets later fits1));
      rest_fits = subst IsBytes found.rest-is (IsBytes-drop (found.octets + found.n) later fits1);
    }

-- ---- an encoding is read as its element

-- By the lengths of `octets` and `contents`, `contents_by` splits `octets ++ (contents ++ more)` into `contents` and
-- `more`.
contents_again : (at : ℕ) (octets contents more : List ℕ)
    → contents_by (Definite (length contents) (length octets)) (cursor_at at (octets ++ (contents ++ more)))
    ≡ Ok (cursor_at (at + length octets) contents, cursor_at (at + (length octets + length contents)) more)
contents_again at octets contents more =
    let all = octets ++ (contents ++ more) in
    let enough : ltb (length all) (length octets + length contents) ≡ false =
    le-ltb _ _ (omega (arith, length-append octets (contents ++ more), length-append contents more)) in
    let inside : take (length contents) (drop (length octets) all) ≡ contents =
    ap (take (length contents)) (drop_at octets (contents ++ more) (length octets) refl)
    ∙ take_at contents more (length contents) refl in
    let later : drop (length octets + length contents) all ≡ more =
    ap (drop (length octets + length contents)) (sym (append_assoc octets contents more))
    ∙ drop_at (octets ++ contents) more (length octets + length contents) (length-append octets contents) in
    rw (enough, inside, later) refl

-- `element_at` reads the element of `identifier` and `contents` from its encoding, and leaves `more`.
abbrev pub ReadsElement : ℕ → Cursor → List ℕ → List ℕ → Type 0
ReadsElement identifier left contents more =
    (inside_at : ℕ) × (after : ℕ) × (element_at identifier left ≡ Ok (cursor_at inside_at contents, cursor_at after more))

-- If an element has fewer than 65536 contents octets, `element_at` reads it from its encoding, whatever follows.
pub element_again : (identifier at : ℕ) (contents more : List ℕ) → length contents < 65536
    → ReadsElement identifier (cursor_at at (element identifier contents ++ more)) contents more
unfolding element element_at
element_again identifier at contents more small =
    let octets = length_octets (length contents) in (
      at + 1 + length octets,
      at + 1 + (length octets + length contents),
      rw (
        eq-eqb identifier identifier refl,
        append_assoc octets contents more,
        length_again (length contents) (contents ++ more) small,
      )
          (contents_again (at + 1) octets contents more),
    )

-- The encoding of an element begins with its identifier, whatever follows.
pub element_begins : (identifier : ℕ) (contents more : List ℕ)
    → begins_with identifier (element identifier contents ++ more) ≡ true
unfolding element
element_begins identifier contents more = eq-eqb identifier identifier refl

-- ---- the size of an element

-- If `contents` has at most `most` octets, its element has at most `overhead most + most` octets.
pub element_bound : (identifier most : ℕ) (contents : List ℕ) → length contents ≤ most
    → length (element identifier contents) ≤ overhead most + most
unfolding element
element_bound identifier most contents le =
    omega (arith, few_octets (length contents) most le, length-append (length_octets (length contents)) contents)

-- ---- the faults of an element

-- Each fault of `contents_by` is Tag, Length or Field.
contents_faults : (form : LengthForm) (left : Cursor) (d : DerFault) → contents_by form left ≡ Err d → IsInside d
contents_faults Truncated left d e = length_inside left.at d e
contents_faults Invalid left d e = length_inside left.at d e
contents_faults (Definite m octets) left d e =
    let part : Cursor = cursor_at (left.at + octets) (take m (drop octets left.bytes)) in
    let later : Cursor = cursor_at (left.at + (octets + m)) (drop (octets + m) left.bytes) in
    elim (chosen (ltb (length left.bytes) (octets + m)) (Err (Length left.at)) (Ok (part, later)) (Err d) e) [
      | inl h ↦ length_inside left.at d h.1
      | inr h ↦ absurd (no_value d (part, later) h.1)
    ]

-- Each fault of `element_at` is Tag, Length or Field.
pub element_faults : (identifier : ℕ) (left : Cursor) (d : DerFault) → element_at identifier left ≡ Err d → IsInside d
unfolding element_at
element_faults identifier left d e =
    let later = drop 1 left.bytes in
    elim (chosen (begins_with identifier left.bytes) (contents_by (length_of later) (cursor_at (left.at + 1) later))
    (Err (Tag left.at)) (Err d) e) [
      | inl h ↦ contents_faults (length_of later) (cursor_at (left.at + 1) later) d h.1
      | inr h ↦ tag_inside left.at d h.1
    ]

-- Each fault of `ended` is Tag, Length or Field.
pub ended_faults : (left : Cursor) (d : DerFault) → ended left ≡ Err d → IsInside d
ended_faults left d e =
    elim (chosen (eqb (length left.bytes) 0) (Ok tt) (Err (Tag left.at)) (Err d) e) [
      | inl h ↦ absurd (no_value d tt h.1)
      | inr h ↦ tag_inside left.at d h.1
    ]

-- If `ended left` succeeds, `left` has no bytes.
pub ended_is : (left : Cursor) (x : Unit {0}) → ended left ≡ Ok x → left.bytes ≡ []
ended_is left x e =
    nil_from_length left.bytes (eqb-true (length left.bytes) 0 (passed (eqb (length left.bytes) 0) (Ok tt) (Tag left.at) x e).0)
