-- Proves that a look at the things with a key is enough, if no other thing counts.
use Rattle.std.proofs.Common.{◌≡◌, ℕ, suc, Bool, true, false, if◌then◌else◌, List, [], ◌∷◌, ◌++◌, fold, map, slice_get}
use Rattle.std.proofs.Common.{bytes_eq, cond, Option, Some, None, Vec, Global, refl, sym, ap, ◌∙◌}
use Rattle.std.proofs.Common.{Bor, length}
use Rattle.std.specs.Prelude.{option_copied}
use Rattle.std.specs.Slice.{IsItemAt}
use Rattle.std.specs.Map.{lookup}
use Rattle.std.proofs.lemmas.Option.{slice_get_past, slice_get_read}
use Rattle.std.proofs.lemmas.List.Sums.{fold-append}
use Rattle.std.proofs.lemmas.Slice.Eq.{bytes_eq-Decides}
use Rattle.ill_beside.specs.Places.{ArePlaces, ByKey, Enters, has_key, is_same_key, looked_up, places_after, places_found}
use Rattle.ill_beside.specs.Places.{places_in}
use Rattle.ill_beside.specs.Places.{places_of, with_thing}

-- ---- all things: a walk over them, with and without a count

-- A walk over the values of `things` gives what a walk over `things` gives that takes the `value` of each.
pub walk_over : {A B C : Type 0} (step : B → C → B) (value : A → C) (start : B) (things : List A)
    → fold step start (map value things) ≡ fold (λ found thing. step found (value thing)) start things
walk_over step value start [] = refl
walk_over step value start (thing ∷ things) = walk_over step value (step start (value thing)) things

-- Returns the number of things so far and what they give, with one `thing` more. `look` takes what is found, the place
-- and the thing.
abbrev pub counted : {A B : Type 0} → (look : B → ℕ → Option A → B) → ℕ × B → A → ℕ × B
counted look (place, found) thing = (suc place, look found place (Some thing))

-- If `step` takes no place, a walk that counts finds what one without a count finds.
pub uncounted : {A B : Type 0} (step : B → Option A → B) (place : ℕ) (start : B) (things : List A)
    → (fold (counted (λ found place thing. step found thing)) (place, start) things).1
    ≡ fold (λ found thing. step found (Some thing)) start things
uncounted step place start [] = refl
uncounted step place start (thing ∷ things) = uncounted step (suc place) (step start (Some thing)) things

-- ---- things at their places

-- Let a call of `get` at `place` of `things` return `item`. Then the value of `item` is what `slice_get` returns: the
-- thing at `place`, or None.
pub item_at : {A : Type 0} (things : List A) (place : ℕ) (item : Option (Bor A)) → IsItemAt things place item
    → option_copied item ≡ slice_get things place
item_at things place None is = sym (slice_get_past things place is.3)
item_at things place (Some item) is =
    sym (slice_get_read things (length things) place item.now refl is.3.0 is.1)

module _ {A : Type 0} where
  -- `get` gives the things of the list at the places from `place` on.
  abbrev AreAt : (get : ℕ → Option A) → (place : ℕ) → List A → Type 0
  AreAt get place [] = Unit {0}
  AreAt get place (thing ∷ things) = (get place ≡ Some thing) × AreAt get (suc place) things

  -- If `things` stand from `place` on without the first thing of `get`, they stand one place later with it.
  one_later : (get : ℕ → Option A) (place : ℕ) (things : List A) → AreAt (λ at. get (suc at)) place things
      → AreAt get (suc place) things
  one_later get place [] are = tt
  one_later get place (thing ∷ things) are = (are.0, one_later get (suc place) things are.1)

  -- The things of a list stand at their places.
  all_at : (things : List A) → AreAt (slice_get things) 0 things
  all_at [] = tt
  all_at (thing ∷ things) = (refl, one_later (slice_get (thing ∷ things)) 0 things (all_at things))

-- ---- the places with a key

-- `look` skips each thing that has not this `key` (`skips`): what is found stays.
module _ {A B : Type 0} (key_of : A → Option (List ℕ)) (key : List ℕ) (look : B → ℕ → Option A → B)
    (skips : (found : B) (place : ℕ) (thing : A) → has_key key (key_of thing) ≡ false → look found place (Some thing) ≡ found)
  where
    -- `get` gives the thing at a place, and `start` is what is found at first.
    module _ (get : ℕ → Option A) (start : B) where
      -- Returns what the things at `places` give after `start`.
      abbrev given : List ℕ → B
      given places = fold (λ found place. look found place (get place)) start places

      -- Let the places `found` give `so_far`. After one `thing` more, at `place`, they give what `look` makes of it.
      one_more : (place : ℕ) (found : List ℕ) (so_far : B) (thing : A) → get place ≡ Some thing → given found ≡ so_far
          → given (places_after key (key_of thing) place found) ≡ look so_far place (Some thing)
      one_more place found so_far thing at is = go (key_of thing) refl
        where
          -- If the thing's `own` key is `key`, its place comes after those found. Else `look` skips it.
          choose : (own : List ℕ) → key_of thing ≡ Some own → (same : Bool) → bytes_eq own key ≡ same
              → given (if same then found ++ place ∷ [] else found) ≡ look so_far place (Some thing)
          choose own has true same =
              fold-append (λ found place. look found place (get place)) start found (place ∷ [])
              ∙ ap (λ (before : B). look before place (get place)) is
              ∙ ap (look so_far place) at
          choose own has false same = is ∙ sym (skips so_far place thing (ap (has_key key) has ∙ same))

          -- A thing without a key is skipped.
          go : (own : Option (List ℕ)) → key_of thing ≡ own
              → given (places_after key own place found) ≡ look so_far place (Some thing)
          go None has = is ∙ sym (skips so_far place thing (ap (has_key key) has))
          go (Some own) has = choose own has (bytes_eq own key) refl

      -- If the places `found` give what the things so far give (`so_far`), the places with the key give what all things
      -- give.
      enough_from : (place : ℕ) (found : List ℕ) (so_far : B) (things : List A) → AreAt get place things
          → given found ≡ so_far
          → given (fold (with_thing key_of key) (place, found) things).1 ≡ (fold (counted look) (place, so_far) things).1
      enough_from place found so_far [] are is = is
      enough_from place found so_far (thing ∷ things) are is =
          enough_from (suc place) (places_after key (key_of thing) place found) (look so_far place (Some thing)) things are.1
          (one_more place found so_far thing are.0 is)

    -- The places with the key give what all things give.
    enough : (start : B) (things : List A)
        → looked_up look things start (places_in key_of key things) ≡ (fold (counted look) (0, start) things).1
    enough start things = enough_from (slice_get things) start 0 [] start things (all_at things) refl

-- Let `by_key` have the places of `things`, and let `look` skip each thing with another key. Then the places of `key`
-- give what all things give.
pub kept_enough : {A B : Type 0} (key_of : A → Option (List ℕ)) (by_key : ByKey) (things : List A)
    → ArePlaces key_of by_key things → (key : Vec ℕ Global) (look : B → ℕ → Option A → B)
    → ((found : B) (place : ℕ) (thing : A) → has_key key.items (key_of thing) ≡ false
    → look found place (Some thing) ≡ found)
    → (start : B)
    → looked_up look things start (places_of by_key key) ≡ (fold (counted look) (0, start) things).1
kept_enough key_of by_key things are key look skips start =
    ap (looked_up look things start) (are key) ∙ enough key_of key.items look skips start things

-- ---- one place more

-- Let `old` have no place with the key `own`, and let `new` be `old` with `place` alone for it. Then `place` is
-- entered.
pub first_entered : (old new : ByKey) (own : Vec ℕ Global) (place : ℕ) (places : Vec ℕ Global) → places.items ≡ place ∷ []
    → lookup (is_same_key own) old ≡ None
    → ((key : Vec ℕ Global) → lookup (is_same_key key) new
    ≡ cond (is_same_key own key) (Some places) (lookup (is_same_key key) old))
    → Enters (Some own.items) place old new
first_entered old new own place places is none updates key =
    ap places_found (updates key) ∙ go (bytes_eq own.items key.items) refl
  where
    -- `same` is true if `key` is `own`.
    go : (same : Bool) → bytes_eq own.items key.items ≡ same
        → places_found (cond same (Some places) (lookup (is_same_key key) old))
        ≡ (if same then places_of old key ++ place ∷ [] else places_of old key)
    go true same =
        let keys = (bytes_eq-Decides own.items key.items).0 same in
        is ∙ sym (ap (λ (found : Option (Vec ℕ Global)). places_found found ++ place ∷ [])
        (ap (λ (text : List ℕ). lookup (λ k. bytes_eq text k.items) old) (sym keys) ∙ none))
    go false same = refl
