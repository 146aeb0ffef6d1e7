-- Proves how texts of items are joined, and how the texts of kept items are those of each by itself.
use Rattle.std.proofs.Common.{◌≡◌, ℕ, ◌+◌, ◌-◌, ◌++◌, Bool, true, false, cond, List, [], ◌∷◌, map, refl, ap}
use Rattle.std.proofs.Common.{sym, ◌∙◌}
use Rattle.std.specs.Prelude.{filter}
use Rattle.std.specs.List.{flat_map, join_by}
use Rattle.std.proofs.lemmas.List.{append-nil}
use Rattle.std.proofs.lemmas.List.Folds.{flat_map-map}

-- Joining `items` by `text` equals joining their texts.
pub joined_as_texts : {X : Type 0} (text : X → List ℕ) (between : List ℕ) (items : List X)
    → join_by text between items ≡ join_by (λ (t : List ℕ). t) between (map text items)
joined_as_texts text between [] = refl
joined_as_texts text between (item ∷ items) = ap (λ more. text item ++ more) (sym (flat_map-map (λ t. between ++ t) text items))

-- The texts of `item`, if `is_kept` is true, and of `items` are the text of `item` by itself, and then those of
-- `items`.
kept_first : {X : Type 0} (text : X → List ℕ) (is_kept : Bool) (item : X) (items : List X)
    → flat_map text (cond is_kept (item ∷ items) items) ≡ flat_map text (cond is_kept (item ∷ []) []) ++ flat_map text items
kept_first text true item items = ap (λ first. first ++ flat_map text items) (sym (append-nil (text item)))
kept_first text false item items = refl

-- Filtering all items and writing their texts equals filtering and writing each item by itself.
pub kept_apart : {X : Type 0} (text : X → List ℕ) (keeps : X → Bool) (items : List X)
    → flat_map text (filter keeps items) ≡ flat_map (λ (item : X). flat_map text (filter keeps (item ∷ []))) items
kept_apart text keeps [] = refl
kept_apart text keeps (item ∷ items) =
    kept_first text (keeps item) item (filter keeps items)
    ∙ ap (λ more. flat_map text (filter keeps (item ∷ [])) ++ more) (kept_apart text keeps items)
