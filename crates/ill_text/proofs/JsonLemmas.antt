-- Proves how a text of items, with a comma between two, grows item by item.
use Rattle.std.proofs.Common.{◌≡◌, ℕ, ◌+◌, ◌<◌, ◌≤◌, length, drop, List, [], ◌∷◌, ◌++◌, map, codes, refl, ap, sym, ◌∙◌}
use Rattle.std.proofs.Common.{append_assoc, append-nil}
use Rattle.std.proofs.Math.ListN.{get_or}
use Rattle.std.proofs.lemmas.List.{at_drop_all, drop_more}
use Rattle.ill_text.specs.Json.{joined}

-- The items from `place` on begin with the item at `place`.
from_place : {X : Type 0} (items : List X) (place : ℕ) (item : X) → place < length items → item ≡ get_or items place item
    → drop place items ≡ item ∷ drop (place + 1) items
from_place items place item within there =
    drop_more items place item within ∙ ap (λ first. first ∷ drop (place + 1) items) (sym there)

-- Append `before` and the text of the item at `place` to `shown`, and then the join of the later items.
-- That appends the join of all items from `place` on.
pub one_joined : {X : Type 0} (text : X → List ℕ) (before shown : List ℕ) (items : List X) (place : ℕ) (item : X)
    → place < length items → item ≡ get_or items place item
    → ((shown ++ before) ++ text item) ++ joined text (codes ",") (drop (place + 1) items)
    ≡ shown ++ joined text before (drop place items)
unfolding joined
one_joined text before shown items place item within there =
    let left = joined text (codes ",") (drop (place + 1) items) in
    ap (λ prefix. prefix ++ left) (append_assoc shown before (text item))
    ∙ append_assoc shown (before ++ text item) left
    ∙ ap (λ items. shown ++ joined text before items) (sym (from_place items place item within there))

-- If no item is left at `place`, joining the items from `place` on appends nothing to `shown`.
pub all_joined : {X : Type 0} (text : X → List ℕ) (before shown : List ℕ) (items : List X) (place : ℕ)
    → length items ≤ place → shown ++ joined text before (drop place items) ≡ shown
unfolding joined
all_joined text before shown items place all =
    ap (λ left. shown ++ left) (at_drop_all (joined text before) items place all) ∙ append-nil shown

-- Joining `items` by the text of `f item` equals joining `map f items` by `text`.
pub joined_map : {X Y : Type 0} (text : Y → List ℕ) (f : X → Y) (before : List ℕ) (items : List X)
    → joined (λ item. text (f item)) before items ≡ joined text before (map f items)
unfolding joined
joined_map text f before [] = refl
joined_map text f before (item ∷ items) = ap (λ left. before ++ text (f item) ++ left) (joined_map text f (codes ",") items)

-- ---- further items, which are joined after others

-- With a comma before each item, the join of `items ++ more` is that of `items`, and then that of `more`.
joined_more : {X : Type 0} (text : X → List ℕ) (items more : List X)
    → joined text (codes ",") (items ++ more) ≡ joined text (codes ",") items ++ joined text (codes ",") more
unfolding joined
joined_more text [] more = refl
joined_more text (item ∷ items) more =
    let this = codes "," ++ text item in
    ap (λ left. this ++ left) (joined_more text items more)
    ∙ sym (append_assoc this (joined text (codes ",") items) (joined text (codes ",") more))

-- If `shown` ends with the join of `first ∷ items`, and the join of `more` is appended, it ends with the join of all.
pub joined_further : {X : Type 0} (text : X → List ℕ) (before old shown : List ℕ) (first : X) (items more : List X)
    → shown ≡ old ++ joined text before (first ∷ items)
    → shown ++ joined text (codes ",") more ≡ old ++ joined text before ((first ∷ items) ++ more)
unfolding joined
joined_further text before old shown first items more so_far =
    let this = before ++ text first in
    let middle = joined text (codes ",") items in
    let left = joined text (codes ",") more in
    ap (λ prefix. prefix ++ left) so_far
    ∙ append_assoc old (this ++ middle) left
    ∙ ap (λ after. old ++ after) (append_assoc this middle left ∙ ap (λ after. this ++ after) (sym (joined_more text items more)))
