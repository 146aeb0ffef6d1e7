-- The loans that a list is to find: one of their texts has the words that are sought, in whatever case.
use Rattle.std.specs.Prelude.{ℕ, Bool, true, ◌||◌, if◌then◌else◌, nat_eq, List, [], ◌∷◌, ◌++◌, codes, Option, Some, None}
use Rattle.std.specs.Prelude.{chars, encode_utf8_all}
use Rattle.std.specs.List.{list_any, starts_with}
use Rattle.std.specs.Option.{option_to_list}
use Rattle.std.specs.Str.{is_utf8}
use Rattle.caseless.specs.Caseless.{default_case_fold}
use Rattle.ill_values.specs.TxnId.{Qualifiers}
use Rattle.ill_record.specs.declared.side.Side.{Side}
use Rattle.ill_record.specs.Side.{txn_of}
use Rattle.ill_words.specs.Possible.{item_asked, request_of}
use Rattle.ill_beside.specs.Notes.{note_of}

-- Returns a text of UTF-8 with the case of its characters folded (The Unicode Standard, section 3.13). It returns any
-- other text as it is.
abbrev pub folded : List ℕ → List ℕ
folded text = if is_utf8 text then encode_utf8_all (default_case_fold (chars text)) else text

-- Returns true if `part` is within `text`.
unfoldable pub has_part : (part text : List ℕ) → Bool
has_part part [] = starts_with nat_eq [] part
has_part part (byte ∷ rest) = starts_with nat_eq (byte ∷ rest) part || has_part part rest

-- Returns true if `text` has the words `sought`, which are folded.
abbrev pub tells : (sought text : List ℕ) → Bool
tells sought text = has_part sought (folded text)

-- Returns the number of a loan: its qualifiers, with a space between them.
abbrev pub loan_number : Qualifiers → List ℕ
loan_number txn = txn.group ++ (codes " " ++ txn.transaction)

-- Returns true if there is a text, and it has the words `sought`, which are folded.
abbrev pub tells_any : (sought : List ℕ) → Option (List ℕ) → Bool
tells_any sought text = list_any (tells sought) (option_to_list text)

-- Returns true if the number of a loan, its item or its note has the words `sought`, which are folded.
abbrev pub has_words : (sought : List ℕ) → (notes : List (List ℕ)) → Side → Bool
has_words sought notes side =
    tells sought (loan_number (txn_of side)) || (tells_any sought (item_asked (request_of side))
    || tells_any sought (note_of notes (txn_of side)))

-- Returns true if a loan has the words `find` in whatever case, or if no words are sought.
abbrev pub is_found : (find : Option (List ℕ)) → (notes : List (List ℕ)) → Side → Bool
is_found None notes side = true
is_found (Some words) notes side = has_words (folded words) notes side
