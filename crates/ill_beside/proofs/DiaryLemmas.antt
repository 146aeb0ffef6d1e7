-- Proves what a text says, and that tests of mapped lists are tests of the lists.
use Rattle.std.proofs.Common.{◌≡◌, ℕ, Bool, true, false, List, [], ◌∷◌, Option, Some, None, map, option_map, refl, ap, sym}
use Rattle.std.specs.Prelude.{cond, find, ◌||◌, if◌then◌else◌, IsUtf8}
use Rattle.std.specs.List.{list_any}
use Rattle.std.specs.Str.{is_utf8}
use Rattle.std.proofs.lemmas.Bool.{false_from_ne_true}
use Rattle.std.proofs.lemmas.Str.{IsUtf8-from_is_utf8, is_utf8-from_IsUtf8}
use Rattle.ill_beside.specs.Diary.{Said, said_by, said_in}

-- ---- a line: what it says if it is UTF-8, and if it is not

-- Returns what `text` says, if the Bool is true.
abbrev said_if : List ℕ → Bool → Option Said
said_if text is = if is then said_in text else None

-- A line of UTF-8 says what its text says.
pub text_says : (text : List ℕ) → IsUtf8 text → said_in text ≡ said_by text
text_says text utf8 = sym (ap (said_if text) (is_utf8-from_IsUtf8 text utf8))

-- A line that is not UTF-8 says nothing.
pub other_says_nothing : (text : List ℕ) → ¬ (IsUtf8 text) → None ≡ said_by text
other_says_nothing text none =
    sym (ap (said_if text) (false_from_ne_true (is_utf8 text) (λ yes. none (IsUtf8-from_is_utf8 text yes))))

-- ---- lists that are mapped: tests of their items

-- To map a value twice is to map it once by both functions.
pub mapped_twice : {A B C : Type 0} (first : A → B) (second : B → C) (value : Option A)
    → option_map (λ item. second (first item)) value ≡ option_map second (option_map first value)
mapped_twice first second None = refl
mapped_twice first second (Some item) = refl

-- `of` maps each item, and `test` tests the mapped items.
module _ {A B : Type 0} (of : A → B) (test : B → Bool) where
  -- A test passes for one of the mapped items if and only if it does for one of the items.
  pub any_mapped : (items : List A) → list_any test (map of items) ≡ list_any (λ item. test (of item)) items
  any_mapped [] = refl
  any_mapped (item ∷ items) = ap (λ (rest : Bool). test (of item) || rest) (any_mapped items)

  -- If `find_mapped` holds of `items`, it holds with `item` before them. `passes` is true if `item` passes the test.
  found_after : (item : A) (items : List A) (passes : Bool)
      → find test (map of items) ≡ option_map of (find (λ other. test (of other)) items)
      → cond passes (Some (of item)) (find test (map of items))
      ≡ option_map of (cond passes (Some item) (find (λ other. test (of other)) items))
  found_after item items true is = refl
  found_after item items false is = is

  -- The first mapped item that passes a test is the first item that does, mapped.
  pub find_mapped : (items : List A) → find test (map of items) ≡ option_map of (find (λ item. test (of item)) items)
  find_mapped [] = refl
  find_mapped (item ∷ items) = found_after item items (test (of item)) (find_mapped items)
