-- Proves how the reader of `json` takes a text whose lexemes are those of a value.
use Rattle.std.proofs.Common.{◌≡◌, ℕ, ◌≤◌, Bool, true, false, cond, List, [], ◌∷◌, ◌++◌, Some, option_and_then, refl, sym}
use Rattle.std.proofs.Common.{ap, ◌∙◌}
use Rattle.std.proofs.Common.{append_assoc}
use Rattle.json.specs.Token.{Token}
use Rattle.json.specs.Lex.{Lexeme, token, comma, colon, lex, between, Place, fresh, after_value, after_comma, begins_colon}
use Rattle.json.specs.Lex.{punctuate}
use Rattle.json.specs.Json.{Json, null, boolean, number, string, array, object, Items, no_items, item, Members, no_members}
use Rattle.json.specs.Json.{member}
use Rattle.json.specs.Json.{value, if_last, max_depth, document}
use Rattle.json.specs.Tree.{json_tokens, items_tokens, members_tokens, depth}
use Rattle.json.proofs.Printed.Trees.{value-json_tokens}

-- ---- the lexemes of a value

-- Returns the lexeme of a comma if `later` is true, and else none.
abbrev pub comma_if : Bool → List Lexeme
comma_if later = cond later (comma ∷ []) []

abbrev mutual
  -- Returns the lexemes of a value.
  pub value_lexemes : Json → List Lexeme
  value_lexemes null = token Token.null ∷ []
  value_lexemes (boolean b) = token (Token.boolean b) ∷ []
  value_lexemes (number s) = token (Token.number s) ∷ []
  value_lexemes (string s) = token (Token.string s) ∷ []
  value_lexemes (array js) = token Token.begin_array ∷ items_lexemes false js
  value_lexemes (object ms) = token Token.begin_object ∷ members_lexemes false ms

  -- Returns the lexemes of items, with the bracket that closes the array. The Bool says that an item is before them.
  pub items_lexemes : Bool → Items → List Lexeme
  items_lexemes later no_items = token Token.end_array ∷ []
  items_lexemes later (item j js) = comma_if later ++ (value_lexemes j ++ items_lexemes true js)

  -- Returns the lexemes of members, with the brace that closes the object. The Bool says that a member is before them.
  pub members_lexemes : Bool → Members → List Lexeme
  members_lexemes later no_members = token Token.end_object ∷ []
  members_lexemes later (member k j ms) =
      comma_if later ++ (token (Token.string k) ∷ colon ∷ (value_lexemes j ++ members_lexemes true ms))

-- ---- the tokens of these lexemes

-- The place before a value: after a comma if `later` is true, and else fresh.
abbrev before : Bool → Place
before later = cond later after_comma fresh

-- The place before an item or a member: after a value if `later` is true, and else fresh.
abbrev between_two : Bool → Place
between_two later = cond later after_value fresh

-- No colon stands before the rest of an array.
items_no_colon : (js : Items) (ls : List Lexeme) → begins_colon (items_lexemes true js ++ ls) ≡ false
items_no_colon no_items ls = refl
items_no_colon (item j js) ls = refl

-- No colon stands before the rest of an object.
members_no_colon : (ms : Members) (ls : List Lexeme) → begins_colon (members_lexemes true ms ++ ls) ≡ false
members_no_colon no_members ls = refl
members_no_colon (member k j ms) ls = refl

-- If the value after a key has its tokens, and the further members then have theirs, so have both together.
member_place : (j : Json) (ms : Members) (ls : List Lexeme)
    → punctuate fresh (value_lexemes j ++ (members_lexemes true ms ++ ls))
    ≡ json_tokens j ++ punctuate after_value (members_lexemes true ms ++ ls)
    → punctuate after_value (members_lexemes true ms ++ ls) ≡ members_tokens ms ++ punctuate after_value ls
    → punctuate fresh ((value_lexemes j ++ members_lexemes true ms) ++ ls)
    ≡ (json_tokens j ++ members_tokens ms) ++ punctuate after_value ls
member_place j ms ls here later =
    ap (punctuate fresh) (append_assoc (value_lexemes j) (members_lexemes true ms) ls) ∙ here
    ∙ ap (λ l. json_tokens j ++ l) later ∙ sym (append_assoc (json_tokens j) (members_tokens ms) _)

mutual
  unfolding punctuate

  -- The lexemes of a value have the tokens of this value.
  value_place : (later : Bool) (j : Json) (ls : List Lexeme) → begins_colon ls ≡ false
      → punctuate (before later) (value_lexemes j ++ ls) ≡ json_tokens j ++ punctuate after_value ls
  value_place true null ls h = refl
  value_place false null ls h = refl
  value_place true (boolean b) ls h = refl
  value_place false (boolean b) ls h = refl
  value_place true (number s) ls h = refl
  value_place false (number s) ls h = refl
  value_place true (string s) ls h = rw h refl
  value_place false (string s) ls h = rw h refl
  value_place true (array js) ls h = ap (λ l. Token.begin_array ∷ l) (items_place false js ls)
  value_place false (array js) ls h = ap (λ l. Token.begin_array ∷ l) (items_place false js ls)
  value_place true (object ms) ls h = ap (λ l. Token.begin_object ∷ l) (members_place false ms ls)
  value_place false (object ms) ls h = ap (λ l. Token.begin_object ∷ l) (members_place false ms ls)

  -- The lexemes of items have the tokens of these items.
  items_place : (later : Bool) (js : Items) (ls : List Lexeme)
      → punctuate (between_two later) (items_lexemes later js ++ ls) ≡ items_tokens js ++ punctuate after_value ls
  items_place true no_items ls = refl
  items_place false no_items ls = refl
  items_place true (item j js) ls =
      ap (punctuate after_comma) (append_assoc (value_lexemes j) (items_lexemes true js) ls)
      ∙ value_place true j (items_lexemes true js ++ ls) (items_no_colon js ls)
      ∙ ap (λ l. json_tokens j ++ l) (items_place true js ls) ∙ sym (append_assoc (json_tokens j) (items_tokens js) _)
  items_place false (item j js) ls =
      ap (punctuate fresh) (append_assoc (value_lexemes j) (items_lexemes true js) ls)
      ∙ value_place false j (items_lexemes true js ++ ls) (items_no_colon js ls)
      ∙ ap (λ l. json_tokens j ++ l) (items_place true js ls) ∙ sym (append_assoc (json_tokens j) (items_tokens js) _)

  -- The lexemes of members have the tokens of these members.
  members_place : (later : Bool) (ms : Members) (ls : List Lexeme)
      → punctuate (between_two later) (members_lexemes later ms ++ ls) ≡ members_tokens ms ++ punctuate after_value ls
  members_place true no_members ls = refl
  members_place false no_members ls = refl
  members_place true (member k j ms) ls =
      ap (λ l. Token.key k ∷ l) (member_place j ms ls
      (value_place false j (members_lexemes true ms ++ ls) (members_no_colon ms ls)) (members_place true ms ls))
  members_place false (member k j ms) ls =
      ap (λ l. Token.key k ∷ l) (member_place j ms ls
      (value_place false j (members_lexemes true ms ++ ls) (members_no_colon ms ls)) (members_place true ms ls))

-- A text with the lexemes of a value is read as this value.
pub document_from_lexemes : (text : List ℕ) (j : Json) → depth j ≤ 128 → lex between text ≡ value_lexemes j ++ []
    → document text ≡ Some j
unfolding punctuate
document_from_lexemes text j shallow lexed =
    ap (λ (ls : List Lexeme). option_and_then (λ p. if_last p.0 p.1) (value max_depth (punctuate fresh ls))) lexed
    ∙ ap (λ (ts : List Token). option_and_then (λ p. if_last p.0 p.1) (value max_depth ts)) (value_place false j [] refl)
    ∙ ap (option_and_then (λ p. if_last p.0 p.1)) (value-json_tokens j max_depth [] shallow)
