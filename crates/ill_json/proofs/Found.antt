-- Proves that a reader finds each field of an object by its label.
use Rattle.std.proofs.Common.{◌≡◌, ◌≢◌, ℕ, suc, false, List, [], ◌∷◌, Option, Some, None, option_map}
use Rattle.std.proofs.Common.{option_and_then, inl, inr, is_some, refl, sym, ap, ◌∙◌, subst, arith}
use Rattle.std.proofs.lemmas.Bool.{true≢false, cases_Bool}
use Rattle.std.proofs.lemmas.List.Elements.{All-head, All-tail}
use Rattle.std.proofs.lemmas.Slice.Eq.{bytes_eq-Decides}
use Rattle.std.specs.List.{All}
use Rattle.std.specs.Str.{bytes_eq}
use Rattle.json.specs.Find.{get, get_member}
use Rattle.json.specs.Json.{Json, Members, no_members, member, object, document}
use Rattle.json.specs.Strict.{keys, AreDistinct}
use Rattle.ill_record.specs.Ranges.{Each}
use Rattle.ill_text.specs.Json.{Field}
use Rattle.ill_json.specs.Objects.{IsObject, members_of}

-- Returns the value that was found, or `other` if there is none.
abbrev value_or : {A : Type 0} → A → Option A → A
value_or other None = other
value_or other (Some value) = value

-- ---- keys

-- Two texts that differ are not equal by their bytes.
not_equal : (text other : List ℕ) → (text ≢ other) → bytes_eq other text ≡ false
not_equal text other differ = elim (cases_Bool (bytes_eq other text)) [
  | inl same ↦ absurd (differ (sym ((bytes_eq-Decides other text).0 same)))
  | inr not ↦ not
]

-- The first of texts that differ is none of the later ones.
head_differs : (text : List ℕ) (texts : List (List ℕ)) → AreDistinct (text ∷ texts) → All (λ other. text ≢ other) texts
head_differs text texts distinct = λ j d within. distinct 0 (suc j) d (omega arith) (omega arith)

-- The later ones of texts that differ differ.
tail_differs : (text : List ℕ) (texts : List (List ℕ)) → AreDistinct (text ∷ texts) → AreDistinct texts
tail_differs text texts distinct = λ i j d lt within. distinct (suc i) (suc j) d (omega arith) (omega arith)

-- A label that is no key is not found.
absent : (label : List ℕ) (members : Members) → All (λ other. label ≢ other) (keys members) → get_member label members ≡ None
absent label no_members none = refl
absent label (member key value others) none =
    rw (
      absent label others (All-tail (λ other. label ≢ other) key (keys others) none),
      not_equal label key (All-head (λ other. label ≢ other) key (keys others) none),
    ) refl

-- ---- fields

-- The label of `field` is found among `members`, with the value that the text of `field` is read as.
record IsFound (members : Members) (field : Field) : Type 0 where
  value : Json
  found : get_member field.0 members ≡ Some value
  read : document field.1 ≡ Some value

-- Labels that are found among the later members are found among all members, with the same values.
still_found : (key : List ℕ) (first : Json) (others : Members) (fields : List Field) → Each (IsFound others) fields
    → Each (IsFound (member key first others)) fields
unfolding Each
still_found key first others [] each = tt
still_found key first others (field ∷ fields) each = (
  record {
    value = each.0.value;
    found = rw each.0.found refl;
    read = each.0.read;
  },
  still_found key first others fields each.1,
)

-- `members` are the member of `field`, and then the members of `fields`.
record Splits (field : Field) (fields : List Field) (members : Members) : Type 0 where
  value : Json
  others : Members
  read : document field.1 ≡ Some value
  are : members_of fields ≡ Some others
  whole : members ≡ member field.0 value others

-- If `field` and then `fields` are read as `members`, the first member is that of `field`. The others are of `fields`.
splits : (field : Field) (fields : List Field) (members : Members) → members_of (field ∷ fields) ≡ Some members
    → Splits field fields members
splits field fields members are = go (document field.1) (members_of fields) refl refl are
  where
    -- The text of the field and the further fields are read, since all members are.
    go : (read : Option Json) (others : Option Members) → document field.1 ≡ read → members_of fields ≡ others
        → option_and_then (λ value. option_map (member field.0 value) others) read ≡ Some members → Splits field fields members
    go None others is also e = absurd (true≢false (sym (ap is_some e)))
    go (Some value) None is also e = absurd (true≢false (sym (ap is_some e)))
    go (Some value) (Some others) is also e =
        record { value = value; others = others; read = is; are = also; whole = sym (ap (value_or members) e) }

-- The label of each field is found among the members of the fields, if their keys differ.
each_found : (fields : List Field) (members : Members) → members_of fields ≡ Some members → AreDistinct (keys members)
    → Each (IsFound members) fields
unfolding Each
each_found [] all are distinct = tt
each_found (field ∷ fields) all are distinct =
    let split = splits field fields all are in
    let differ = subst (λ ms. AreDistinct (keys ms)) split.whole distinct in
    subst (λ ms. Each (IsFound ms) (field ∷ fields)) (sym split.whole) (
      record {
        value = split.value;
        found = rw (
          absent field.0 split.others (head_differs field.0 (keys split.others) differ),
          (bytes_eq-Decides field.0 field.0).1 refl,
        ) refl;
        read = split.read;
      },
      still_found field.0 split.value split.others fields
          (each_found fields split.others split.are (tail_differs field.0 (keys split.others) differ)),
    )

-- If each label is found, `get` returns for it the value that the text of its field is read as.
each_is : (members : Members) (fields : List Field) → Each (IsFound members) fields
    → Each (λ field. get field.0 (object members) ≡ document field.1) fields
unfolding Each
each_is all [] each = tt
each_is all (field ∷ fields) each = (each.0.found ∙ sym each.0.read, each_is all fields each.1)

-- A reader of an object finds each field by its label.
pub fields_found : (text : List ℕ) (fields : List Field) (value : Json) → IsObject text fields → document text ≡ Some value
    → Each (λ field. get field.0 value ≡ document field.1) fields
fields_found text fields value is read =
    let same : object is.members ≡ value = ap (value_or value) (sym is.read ∙ read) in
    subst (λ v. Each (λ field. get field.0 v ≡ document field.1) fields) same
    (each_is is.members fields (each_found fields is.members is.are is.unique.0))
