-- The encoding and the reading of lists of values, one value after another.
use Rattle.std.proofs.Common.{◌≡◌, ℕ, zero, suc, ◌+◌, ◌-◌, ◌<◌, ◌≤◌, length, drop, List, [], ◌∷◌, ◌++◌, None, Result, Ok, Err}
use Rattle.std.proofs.Common.{refl, ap, sym, subst, ◌∙◌, append_assoc, append-nil, arith}
use Rattle.std.specs.List.{slice_get}
use Rattle.ill_der.specs.Format.{◌>>=◌, Cursor}
use Rattle.ill_record.specs.declared.fault.LayoutFault.{LayoutFault}
use Rattle.ill_record.specs.declared.fault.LayoutFault.TheVariants.{Short, Bad}
use Rattle.ill_record.specs.declared.fault.RecordFault.{RecordFault}
use Rattle.ill_record.specs.declared.fault.RecordFault.TheVariants as faults
use Rattle.ill_record.specs.Layout.{Field, read_all, encode_all, ReadsInMemory}
use Rattle.std.proofs.Math.ListN.{get_or}
use Rattle.std.proofs.lemmas.List.{at_drop_all, drop_more}
use Rattle.ill_record.specs.Ranges.{Each}

-- Returns the result of reading a list, with `values` put before its values.
abbrev pub after : {V : Type 0} → List V → Result (List V × Cursor) LayoutFault → Result (List V × Cursor) LayoutFault
after values read = read >>= λ found. Ok (values ++ found.0, found.1)

-- If no value is put before it, the result of reading is unchanged.
pub after_none : {V : Type 0} (read : Result (List V × Cursor) LayoutFault) → after [] read ≡ read
after_none (Ok found) = refl
after_none (Err fault) = refl

-- Putting `values` before a list that begins with `v` is putting `values ++ v ∷ []` before the others.
after_more : {V : Type 0} (values : List V) (v : V) (read : Result (List V × Cursor) LayoutFault)
    → after values (read >>= λ others. Ok (v ∷ others.0, others.1)) ≡ after (values ++ v ∷ []) read
after_more values v (Ok others) = ap (λ vs. Ok (vs, others.1)) (sym (append_assoc values (v ∷ []) others.0))
after_more values v (Err fault) = refl

-- Reading `n + 1` values is reading one value, and then `n` others.
read_more : {V : Type 0} (field : Field V) (n : ℕ) (left : Cursor)
    → read_all field (suc n) left ≡ (field.read left >>= λ first. read_all field n first.1 >>= λ others.
    Ok (first.0 ∷ others.0, others.1))
unfolding read_all
read_more field n left = refl

-- Reading no value gives the empty list, and leaves the cursor.
read_none : {V : Type 0} (field : Field V) (left : Cursor) → read_all field 0 left ≡ Ok ([], left)
unfolding read_all
read_none field left = refl

-- If one value is read, it becomes the last of `values`, and `n` values are left to read.
one_read : {V : Type 0} (field : Field V) (values : List V) (n : ℕ) (left next : Cursor) (v : V) → field.read left ≡ Ok (v, next)
    → after values (read_all field (suc n) left) ≡ after (values ++ v ∷ []) (read_all field n next)
one_read field values n left next v read =
    ap (after values) (read_more field n left
    ∙ ap (λ r. r >>= λ first. read_all field n first.1 >>= λ others. Ok (first.0 ∷ others.0, others.1)) read)
    ∙ after_more values v (read_all field n next)

-- If a value cannot be read, the result of the whole reading is its fault.
none_read : {V : Type 0} (field : Field V) (values : List V) (n : ℕ) (left : Cursor) (fault : LayoutFault)
    → field.read left ≡ Err fault
    → after values (read_all field (suc n) left) ≡ Err fault
none_read field values n left fault read =
    ap (after values) (read_more field n left
    ∙ ap (λ r. r >>= λ first. read_all field n first.1 >>= λ others. Ok (first.0 ∷ others.0, others.1)) read)

-- If no value is left to read, the reading gives `values`.
all_read : {V : Type 0} (field : Field V) (values : List V) (left : Cursor)
    → after values (read_all field 0 left) ≡ Ok (values, left)
all_read field values left = ap (after values) (read_none field left) ∙ ap (λ vs. Ok (vs, left)) (append-nil values)

-- Below, a loop reads `count` values. After `counter` turns it has read `values`, and `left` is its cursor. Reading the
-- values that are left, with `values` before them, gives `whole` (premise `reads`).
module _ {V : Type 0} (field : Field V) (values : List V) (count counter : ℕ) (left : Cursor)
    (whole : Result (List V × Cursor) LayoutFault)
    (reads : after values (read_all field (count - counter) left) ≡ whole) where
  -- If `counter` is less than `count`, one value more is left than after the next turn of the loop.
  one_less : counter < count → count - counter ≡ suc (count - (counter + 1))
  one_less within = omega (arith, within)

  -- If one more value is read, `values` with it and the values that are left give `whole`.
  pub one_more : counter < count → (v : V) (next : Cursor) → field.read left ≡ Ok (v, next)
      → after (values ++ v ∷ []) (read_all field (count - (counter + 1)) next) ≡ whole
  one_more within v next read =
      sym (one_read field values (count - (counter + 1)) left next v read)
      ∙ (ap (λ n. after values (read_all field n left)) (sym (one_less within)) ∙ reads)

  -- If a value cannot be read, the result of the whole reading is its fault.
  pub none_more : counter < count → (fault : LayoutFault) → field.read left ≡ Err fault → whole ≡ Err fault
  none_more within fault read =
      sym reads ∙ (ap (λ n. after values (read_all field n left)) (one_less within)
      ∙ none_read field values (count - (counter + 1)) left fault read)

  -- If `counter` has reached `count`, `whole` gives `values`.
  pub all_there : count ≤ counter → whole ≡ Ok (values, left)
  all_there done =
      let none : count - counter ≡ 0 = omega (arith, done) in
      sym reads ∙ (ap (λ n. after values (read_all field n left)) none ∙ all_read field values left)

-- If `then_read` has each fault of `first`, a fault that the code gives for `first` is right for `then_read`.
pub fault_stays : {X Y V W : Type 0} (f : X → V) (g : Y → W) (fault : RecordFault) (left next : Cursor)
    (first : Result (V × Cursor) LayoutFault) (then_read : Result (W × Cursor) LayoutFault)
    → ((d : LayoutFault) → first ≡ Err d → then_read ≡ Err d) → ReadsInMemory f (Err fault) left first
    → ReadsInMemory g (Err fault) next then_read
fault_stays f g faults.Short left next first then_read stays read = stays Short read
fault_stays f g (faults.Bad at) left next first then_read stays read = stays (Bad at) read
fault_stays f g faults.Inconsistent left next first then_read stays read = absurd read
fault_stays f g faults.Digest left next first then_read stays read = absurd read
fault_stays f g faults.OutOfMemory left next first then_read stays read = tt

-- The encoding of no value is empty.
pub encode_none : {V : Type 0} (encode : V → List ℕ) → encode_all encode [] ≡ []
unfolding encode_all
encode_none encode = refl

-- The encoding of a list is the encoding of its first value, followed by those of the others.
pub encode_more : {V : Type 0} (encode : V → List ℕ) (v : V) (values : List V)
    → encode_all encode (v ∷ values) ≡ encode v ++ encode_all encode values
unfolding encode_all
encode_more encode v values = refl

-- If index `i` is after the last value, no encoding is left to append.
pub all_encoded : {V : Type 0} (encode : V → List ℕ) (bytes : List ℕ) (values : List V) (i : ℕ) → length values ≤ i
    → bytes ++ encode_all encode (drop i values) ≡ bytes
all_encoded encode bytes values i all =
    ap (λ t. bytes ++ t) (at_drop_all (encode_all encode) values i all ∙ encode_none encode) ∙ append-nil bytes

-- Appending value `i` leaves the encodings of the values after it to append.
pub one_encoded : {V : Type 0} (encode : V → List ℕ) (bytes : List ℕ) (values : List V) (i : ℕ) (v : V)
    → i < length values → v ≡ get_or values i v
    → (bytes ++ encode v) ++ encode_all encode (drop (i + 1) values) ≡ bytes ++ encode_all encode (drop i values)
one_encoded encode bytes values i v within there =
    let prefix : drop i values ≡ v ∷ drop (i + 1) values =
    drop_more values i v within ∙ ap (λ x. x ∷ drop (i + 1) values) (sym there) in
    append_assoc bytes (encode v) (encode_all encode (drop (i + 1) values))
    ∙ ap (λ t. bytes ++ t) (sym (encode_more encode v (drop (i + 1) values)) ∙ ap (encode_all encode) (sym prefix))

-- If value `i` and each value after it satisfy `P`, each value from `i` on satisfies it.
pub one_each : {V : Type 0} (P : V → Type 0) (values : List V) (i : ℕ) (v : V) → i < length values
    → v ≡ get_or values i v → P v → Each P (drop (i + 1) values) → Each P (drop i values)
unfolding Each
one_each P values i v within there is others =
    let prefix : drop i values ≡ v ∷ drop (i + 1) values =
    drop_more values i v within ∙ ap (λ x. x ∷ drop (i + 1) values) (sym there) in
    subst (Each P) (sym prefix) (is, others)

-- If index `i` is after the last value, each value from `i` on satisfies `P`.
pub none_each : {V : Type 0} (P : V → Type 0) (values : List V) (i : ℕ) → length values ≤ i → Each P (drop i values)
unfolding Each
none_each P values i all = subst (Each P) (sym (at_drop_all (λ xs. xs) values i all)) tt

-- The encoding of two lists together is the encoding of the first, followed by that of the second.
pub encode_both : {V : Type 0} (encode : V → List ℕ) (prefix rest : List V)
    → encode_all encode (prefix ++ rest) ≡ encode_all encode prefix ++ encode_all encode rest
unfolding encode_all
encode_both encode [] rest = refl
encode_both encode (v ∷ prefix) rest =
    ap (λ t. encode v ++ t) (encode_both encode prefix rest)
    ∙ sym (append_assoc (encode v) (encode_all encode prefix) (encode_all encode rest))

-- If each value in two lists satisfies `P`, each value in both together satisfies it.
pub each_both : {V : Type 0} (P : V → Type 0) (prefix rest : List V) → Each P prefix → Each P rest → Each P (prefix ++ rest)
unfolding Each
each_both P [] rest of_prefix of_rest = of_rest
each_both P (v ∷ prefix) rest of_prefix of_rest = (of_prefix.0, each_both P prefix rest of_prefix.1 of_rest)

-- An index within a list has an element.
pub none_past : {V : Type 0} (values : List V) (i : ℕ) → i < length values → slice_get values i ≡ None → ⊥
none_past [] i within none = omega (arith, within)
none_past (v ∷ values) zero within none = absurd cc
none_past (v ∷ values) (suc i) within none = none_past values i (omega (arith, within)) none
