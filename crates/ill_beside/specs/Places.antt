-- The places of things in a list, by their keys. A place is the number of the things before.
use Rattle.std.specs.Prelude.{◌≡◌, ℕ, suc, Bool, true, false, if◌then◌else◌, List, [], ◌∷◌, ◌++◌, fold, bytes_eq, Vec}
use Rattle.std.specs.Prelude.{Option, None, Some, slice_get}
use Rattle.std.specs.Map.{lookup}
use Rattle.std.specs.declared.alloc.Global.{Global}

-- ---- the places with a key

-- Returns true if `own`, the key of a thing, is there and equals `key`.
abbrev pub has_key : (key : List ℕ) → (own : Option (List ℕ)) → Bool
has_key key None = false
has_key key (Some own) = bytes_eq own key

-- Returns the places with this key, after a thing at `place` that has the key `own`, if it has one. `found` are those
-- before.
abbrev pub places_after : (key : List ℕ) → (own : Option (List ℕ)) → (place : ℕ) → (found : List ℕ) → List ℕ
places_after key None place found = found
places_after key (Some own) place found = if bytes_eq own key then found ++ place ∷ [] else found

-- Returns the number of things so far and the places with this key among them, with one thing more.
abbrev pub with_thing : {A : Type 0} → (key_of : A → Option (List ℕ)) → (key : List ℕ) → ℕ × List ℕ → A → ℕ × List ℕ
with_thing key_of key (place, found) thing = (suc place, places_after key (key_of thing) place found)

-- Returns the places of those of `things` that have this key, in their order.
abbrev pub places_in : {A : Type 0} → (key_of : A → Option (List ℕ)) → (key : List ℕ) → (things : List A) → List ℕ
places_in key_of key things = (fold (with_thing key_of key) (0, []) things).1

-- Returns what the things at `places` give after `start`, one after another. `look` takes what is found so far, and
-- then the place and the thing there, if there is one.
abbrev pub looked_up : {A B : Type 0} → (look : B → ℕ → Option A → B) → (things : List A) → (start : B) → (places : List ℕ) → B
looked_up look things start places = fold (λ found place. look found place (slice_get things place)) start places

-- ---- the places that are kept

-- Returns true if both keys have the same bytes.
abbrev pub is_same_key : Vec ℕ Global → Vec ℕ Global → Bool
is_same_key one other = bytes_eq one.items other.items

-- Lists of places, each with its key.
abbrev pub ByKey : Type 0
ByKey = List (Vec ℕ Global × Vec ℕ Global)

-- Returns the places that were found, if any were.
abbrev pub places_found : Option (Vec ℕ Global) → List ℕ
places_found None = []
places_found (Some places) = places.items

-- Returns the places with this key.
abbrev pub places_of : ByKey → (key : Vec ℕ Global) → List ℕ
places_of by_key key = places_found (lookup (is_same_key key) by_key)

-- `by_key` has the places of `things`, by the keys that `key_of` gives them.
abbrev pub ArePlaces : {A : Type 0} → (key_of : A → Option (List ℕ)) → ByKey → (things : List A) → Type 0
ArePlaces key_of by_key things = (key : Vec ℕ Global) → places_of by_key key ≡ places_in key_of key.items things

-- The place of a thing with the key `own` is entered, if it has one.
abbrev pub Enters : (own : Option (List ℕ)) → (place : ℕ) → (old new : ByKey) → Type 0
Enters own place old new =
    (key : Vec ℕ Global) → places_of new key ≡ places_after key.items own place (places_of old key)

-- If `is` is true, `place` is entered after the places with the key `own`. If it is false, there are no places with
-- this key, and nothing changes.
abbrev pub EntersAmong : (own : Vec ℕ Global) → (place : ℕ) → (is : Bool) → (old new : ByKey) → Type 0
EntersAmong own place true old new = Enters (Some own.items) place old new
EntersAmong own place false old new = (new ≡ old) × (lookup (is_same_key own) old ≡ None)
