-- Texts that are JSON (RFC 8259). JSON is what the kit's crate `json` reads: its `document` returns the value that a
-- text is, or `None` if the text is no JSON.
use Rattle.std.specs.Prelude.{◌≡◌, ℕ, true, List, [], ◌∷◌, ◌++◌, codes, Option, Some, option_map, option_and_then, IsUtf8}
use Rattle.std.specs.List.{flat_map, list_all}
use Rattle.json.specs.Json.{Items, Members, no_items, item, no_members, member, string, object, document}
use Rattle.json.specs.Strict.{HasUniqueKeys}
use Rattle.ill_values.specs.Text.{is_no_control}
use Rattle.ill_record.specs.Ranges.{Each}
use Rattle.ill_text.specs.ApduObject.{object_line}
use Rattle.ill_text.specs.Json.{Field}

-- ---- values

-- Returns the members that `fields` are read as, in their order. The label of a field is the key, and its text is the
-- value. Returns `None` if a text is no JSON.
abbrev pub members_of : List Field → Option Members
members_of [] = Some no_members
members_of (field ∷ fields) =
    option_and_then (λ value. option_map (member field.0 value) (members_of fields)) (document field.1)

-- Returns the items that `texts` are read as, in their order. Returns `None` if a text is no JSON.
abbrev pub items_of : List (List ℕ) → Option Items
items_of [] = Some no_items
items_of (text ∷ texts) = option_and_then (λ value. option_map (item value) (items_of texts)) (document text)

-- Returns the items that are strings with these texts, in their order.
abbrev pub strings : List (List ℕ) → Items
strings [] = no_items
strings (text ∷ texts) = item (string text) (strings texts)

-- ---- lines

-- `text` is JSON: an object with the members of `fields`. No object in it has a key twice. It is UTF-8, and has no
-- control characters of ASCII.
pub record IsObject (text : List ℕ) (fields : List Field) : Type 0 where
  pub members : Members
  pub are : members_of fields ≡ Some members
  pub read : document text ≡ Some (object members)
  pub unique : HasUniqueKeys (object members)
  pub utf8 : IsUtf8 text
  pub seen : list_all is_no_control text ≡ true

-- `line` is an object with the members of `fields`, and then a line feed. It has no other line feed.
pub record IsObjectLine (line : List ℕ) (fields : List Field) : Type 0 where
  pub text : List ℕ
  pub ended : line ≡ text ++ codes "\n"
  pub object : IsObject text fields

-- `text` has a line for each list of fields in `lines`, in their order. Each line is an object with these fields.
pub record AreObjectLines (text : List ℕ) (lines : List (List Field)) : Type 0 where
  pub whole : text ≡ flat_map object_line lines
  pub each : Each (λ fields. IsObjectLine (object_line fields) fields) lines
