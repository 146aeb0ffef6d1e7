-- Lines that are no object with given fields, and texts that are no JSON.
use Rattle.std.specs.Prelude.{◌≡◌, ℕ, List, [], ◌∷◌, ◌++◌, codes, Some, None, IsUtf8}
use Rattle.std.specs.List.{flat_map}
use Rattle.json.specs.Json.{Members, object, document}
use Rattle.json.specs.Strict.{HasUniqueKeys}
use Rattle.ill_text.specs.ApduObject.{object_line}
use Rattle.ill_text.specs.Json.{Field}
use Rattle.ill_json.specs.Objects.{members_of}

-- The line is no object with the members of `fields`. Each case gives one reason.
pub data IsBadLine (line : List ℕ) (fields : List Field) : Type 0 where
  -- It has no line feed at its end.
  unended : (text : List ℕ) (byte : ℕ) → line ≡ text ++ byte ∷ [] → (byte ≡ 10 → ⊥) → IsBadLine line fields
  -- A line feed stands within it.
  broken : (first rest : List ℕ) → line ≡ first ++ 10 ∷ (rest ++ codes "\n") → IsBadLine line fields
  -- It is no UTF-8.
  no_utf8 : (text : List ℕ) → line ≡ text ++ codes "\n" → (IsUtf8 text → ⊥) → IsBadLine line fields
  -- It is no JSON.
  unread : (text : List ℕ) → line ≡ text ++ codes "\n" → document text ≡ None → IsBadLine line fields
  -- The text of a field is no JSON.
  no_members : members_of fields ≡ None → IsBadLine line fields
  -- It is another value.
  other_value : (text : List ℕ) (members : Members) → line ≡ text ++ codes "\n" → members_of fields ≡ Some members →
      (document text ≡ Some (object members) → ⊥) → IsBadLine line fields
  -- It has a key twice.
  twice : (members : Members) → members_of fields ≡ Some members → (HasUniqueKeys (object members) → ⊥) →
      IsBadLine line fields

-- The text is not the lines of these fields. It has other bytes, or one of its lines is bad.
pub data AreBadLines (text : List ℕ) (lines : List (List Field)) : Type 0 where
  other_text : (text ≡ flat_map object_line lines → ⊥) → AreBadLines text lines
  bad_line : (before after : List (List Field)) (fields : List Field) → lines ≡ before ++ fields ∷ after →
      IsBadLine (object_line fields) fields → AreBadLines text lines

-- Lists texts that look like an object, and are no JSON.
abbrev pub broken_texts : List (List ℕ)
broken_texts =
    -- A quotation mark without an escape.
    codes "{\"item\":\"The \"Odyssey\"\"}"
    -- A comma after the last member.
    ∷ codes "{\"number\":1,}"
    -- A control character in a string.
    ∷ codes "{\"item\":\"The\nOdyssey\"}"
    -- No brace at the end.
    ∷ codes "{\"number\":1"
    -- A label without quotation marks.
    ∷ codes "{number:1}"
    -- A number that begins with 0.
    ∷ codes "{\"number\":01}"
    -- No value.
    ∷ codes "{\"number\":}"
    -- A word with a capital.
    ∷ codes "{\"leaves\":True}"
    -- One half of a pair of surrogates.
    ∷ codes "{\"item\":\"\\ud83d\"}"
    -- Two objects.
    ∷ codes "{}{}" ∷ []
