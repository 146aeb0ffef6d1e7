-- Proves that a stable sort of a list returns what `ordered` returns.
use Rattle.std.proofs.Common.{◌≡◌, ℕ, suc, ◌+◌, Bool, true, false, cond, List, [], ◌∷◌, map, refl, ap, sym, ◌∙◌, true≢false}
use Rattle.std.proofs.Common.{arith}
use Rattle.std.specs.Prelude.{not, ◌||◌, filter, slice_index_or}
use Rattle.std.specs.Cmp.{IsStrictWeakOrder}
use Rattle.std.specs.List.{list_any}
use Rattle.std.specs.List.Sorted.{IsSortedBy, IsStableBy, ties}
use Rattle.std.proofs.lemmas.Bool.{or_parts, or_from, and_parts, and_from, not-true}
use Rattle.ill_words.specs.Waiting.{placed, ordered}

-- If `map f` commutes with placing `item` in `others`, it commutes with placing it in `first ∷ others`. `is_first` is
-- true if `first` comes before `item`.
placed_one : {X Y : Type 0} (f : X → Y) (lt : Y → Y → Bool) (item first : X) (others : List X) (is_first : Bool)
    → map f (placed (λ (a b : X). lt (f a) (f b)) item others) ≡ placed lt (f item) (map f others)
    → map f (cond is_first (first ∷ placed (λ (a b : X). lt (f a) (f b)) item others) (item ∷ first ∷ others))
    ≡ cond is_first (f first ∷ placed lt (f item) (map f others)) (f item ∷ f first ∷ map f others)
placed_one f lt item first others true further = ap (λ after. f first ∷ after) further
placed_one f lt item first others false further = refl

-- If the items are ordered by their images under `f`, `map f` commutes with `placed`.
placed_mapped : {X Y : Type 0} (f : X → Y) (lt : Y → Y → Bool) (item : X) (items : List X)
    → map f (placed (λ (a b : X). lt (f a) (f b)) item items) ≡ placed lt (f item) (map f items)
placed_mapped f lt item [] = refl
placed_mapped f lt item (first ∷ others) =
    placed_one f lt item first others (lt (f first) (f item)) (placed_mapped f lt item others)

-- If the items are ordered by their images under `f`, `map f` commutes with `ordered`.
pub ordered_mapped : {X Y : Type 0} (f : X → Y) (lt : Y → Y → Bool) (items : List X)
    → map f (ordered (λ (a b : X). lt (f a) (f b)) items) ≡ ordered lt (map f items)
ordered_mapped f lt [] = refl
ordered_mapped f lt (item ∷ items) =
    placed_mapped f lt item (ordered (λ a b. lt (f a) (f b)) items) ∙ ap (placed lt (f item)) (ordered_mapped f lt items)

-- In this module, `lt` is a strict weak order: it tells if an item comes before another. `is_first` is true if the head
-- `y` of a list comes before the item `x` that is placed.
module _ {X : Type 0} (lt : X → X → Bool) (o : IsStrictWeakOrder lt) where
  -- No item of a list comes before an earlier one in the order `lt`.
  abbrev IsInOrder : List X → Type 0
  IsInOrder [] = Unit {0}
  IsInOrder (x ∷ xs) = (list_any (λ y. lt y x) xs ≡ false) × IsInOrder xs

  -- If `y` does not come before `x`, and none of `ys` before `y`, none of `ys` comes before `x`.
  none_before : (x y : X) (ys : List X) → lt y x ≡ false → list_any (λ z. lt z y) ys ≡ false → list_any (λ z. lt z x) ys ≡ false
  none_before x y [] after none = refl
  none_before x y (z ∷ zs) after none =
      let parts = or_parts (lt z y) (list_any (λ z. lt z y) zs) none in
      or_from (lt z x) (list_any (λ z. lt z x) zs) (o.chain z y x parts.0 after) (none_before x y zs after parts.1)

  -- If none of `x`, `y ∷ ys` and `placed lt x ys` passes `test`, none does with `x` before `y` or after it.
  none_of_two : (test : X → Bool) (x y : X) (ys : List X) (is_first : Bool) → test x ≡ false
      → (test y || list_any test ys) ≡ false → list_any test (placed lt x ys) ≡ false
      → list_any test (cond is_first (y ∷ placed lt x ys) (x ∷ y ∷ ys)) ≡ false
  none_of_two test x y ys true not_x not_others not_placed =
      or_from (test y) (list_any test (placed lt x ys)) (or_parts (test y) (list_any test ys) not_others).0 not_placed
  none_of_two test x y ys false not_x not_others not_placed = or_from (test x) (test y || list_any test ys) not_x not_others

  -- If neither `x` nor any of `ys` passes `test`, no item of `placed lt x ys` does.
  none_placed : (test : X → Bool) (x : X) (ys : List X) → test x ≡ false → list_any test ys ≡ false
      → list_any test (placed lt x ys) ≡ false
  none_placed test x [] not_x not_others = or_from (test x) false not_x refl
  none_placed test x (y ∷ ys) not_x not_others =
      none_of_two test x y ys (lt y x) not_x not_others
      (none_placed test x ys not_x (or_parts (test y) (list_any test ys) not_others).1)

  -- If `y ∷ ys` and `placed lt x ys` are in order, the list with `x` placed before `y` or after it is.
  placed_one_in_order : (x y : X) (ys : List X) (is_first : Bool) → lt y x ≡ is_first → IsInOrder (y ∷ ys)
      → IsInOrder (placed lt x ys) → IsInOrder (cond is_first (y ∷ placed lt x ys) (x ∷ y ∷ ys))
  placed_one_in_order x y ys true is (none, others) further = (none_placed (λ z. lt z y) x ys (o.one_way y x is) none, further)
  placed_one_in_order x y ys false is (none, others) further =
      (or_from (lt y x) (list_any (λ z. lt z x) ys) is (none_before x y ys is none), (none, others))

  -- If `ys` are in order, they are in order with `x` placed among them.
  placed_in_order : (x : X) (ys : List X) → IsInOrder ys → IsInOrder (placed lt x ys)
  placed_in_order x [] in_order = (refl, tt)
  placed_in_order x (y ∷ ys) in_order = placed_one_in_order x y ys (lt y x) refl in_order (placed_in_order x ys in_order.1)

  -- The list that `ordered` returns is in order.
  ordered_in_order : (xs : List X) → IsInOrder (ordered lt xs)
  ordered_in_order [] = tt
  ordered_in_order (x ∷ xs) = placed_in_order x (ordered lt xs) (ordered_in_order xs)

  -- ---- the items that tie

  -- If `y` comes before `x`, they do not both tie with an item `w`.
  not_both : (w x y : X) → lt y x ≡ true → ties lt w y ≡ true → ties lt w x ≡ true → ⊥
  not_both w x y is tie_y tie_x =
      let from_w = not-true _ (and_parts (not (lt w x)) (not (lt x w)) tie_x).0 in
      let to_w = not-true _ (and_parts (not (lt w y)) (not (lt y w)) tie_y).1 in
      true≢false (sym is ∙ o.chain y w x to_w from_w)

  -- If at most one of `x` and `y` is kept, swapping them does not change the kept items.
  kept_alike : (x y : X) (after : List X) (keeps_x keeps_y : Bool) → (keeps_y ≡ true → keeps_x ≡ true → ⊥)
      → cond keeps_y (y ∷ cond keeps_x (x ∷ after) after) (cond keeps_x (x ∷ after) after)
      ≡ cond keeps_x (x ∷ cond keeps_y (y ∷ after) after) (cond keeps_y (y ∷ after) after)
  kept_alike x y after true true never = absurd (never refl refl)
  kept_alike x y after true false never = refl
  kept_alike x y after false true never = refl
  kept_alike x y after false false never = refl

  -- If placing `x` in `ys` keeps the order of items that tie with `w`, placing it in `y ∷ ys` does too.
  placed_one_stable : (w x y : X) (ys : List X) (is_first : Bool) → lt y x ≡ is_first
      → filter (ties lt w) (placed lt x ys) ≡ filter (ties lt w) (x ∷ ys)
      → filter (ties lt w) (cond is_first (y ∷ placed lt x ys) (x ∷ y ∷ ys)) ≡ filter (ties lt w) (x ∷ y ∷ ys)
  placed_one_stable w x y ys true is further =
      ap (λ after. cond (ties lt w y) (y ∷ after) after) further
      ∙ kept_alike x y (filter (ties lt w) ys) (ties lt w x) (ties lt w y) (not_both w x y is)
  placed_one_stable w x y ys false is further = refl

  -- Placing `x` in `ys` keeps the order of the items that tie with `w`.
  placed_stable : (w x : X) (ys : List X) → filter (ties lt w) (placed lt x ys) ≡ filter (ties lt w) (x ∷ ys)
  placed_stable w x [] = refl
  placed_stable w x (y ∷ ys) = placed_one_stable w x y ys (lt y x) refl (placed_stable w x ys)

  -- `ordered` keeps the order of the items that tie with `w`.
  ordered_stable : (w : X) (xs : List X) → filter (ties lt w) (ordered lt xs) ≡ filter (ties lt w) xs
  ordered_stable w [] = refl
  ordered_stable w (x ∷ xs) = placed_stable w x (ordered lt xs)
      ∙ ap (λ after. cond (ties lt w x) (x ∷ after) after) (ordered_stable w xs)

  -- ---- uniqueness of the ordered list

  -- For either answer `is_before` of the test, an item does not come before itself.
  never_before_itself : (x : X) (is_before : Bool) → lt x x ≡ is_before → lt x x ≡ false
  never_before_itself x true is = o.one_way x x is
  never_before_itself x false is = is

  -- No item comes before itself.
  not_self : (x : X) → lt x x ≡ false
  not_self x = never_before_itself x (lt x x) refl

  -- If neither of two items comes before the other, they tie.
  both_tie : (x y : X) → lt x y ≡ false → lt y x ≡ false → ties lt x y ≡ true
  both_tie x y e f = and_from (not (lt x y)) (not (lt y x)) (ap not e) (ap not f)

  -- An item ties with itself.
  tie_self : (x : X) → ties lt x x ≡ true
  tie_self x = both_tie x x (not_self x) (not_self x)

  -- Let `y` be the first kept item of `x ∷ xs`. If `x` and the first kept item of `xs` fail `test`, `y` fails it.
  -- `is_kept` is true if `x` is kept.
  first_of_two_kept : (keeps test : X → Bool) (y x : X) (rest xs : List X) (is_kept : Bool)
      → cond is_kept (x ∷ filter keeps xs) (filter keeps xs) ≡ y ∷ rest → test x ≡ false
      → (filter keeps xs ≡ y ∷ rest → test y ≡ false) → test y ≡ false
  first_of_two_kept keeps test y x rest xs true is not_x others = let same : x ≡ y = cc in ap test (sym same) ∙ not_x
  first_of_two_kept keeps test y x rest xs false is not_x others = others is

  -- If no item of `xs` passes `test`, the first kept item `y` fails it.
  first_kept : (keeps test : X → Bool) (y : X) (rest xs : List X) → filter keeps xs ≡ y ∷ rest → list_any test xs ≡ false
      → test y ≡ false
  first_kept keeps test y rest [] is none = cc
  first_kept keeps test y rest (x ∷ xs) is none =
      let parts = or_parts (test x) (list_any test xs) none in
      first_of_two_kept keeps test y x rest xs (keeps x) is parts.0 (λ is. first_kept keeps test y rest xs is parts.1)

  -- If the head `x` of a list is kept, it is the first kept item.
  stands_first : (keeps : X → Bool) (x : X) (xs : List X) → keeps x ≡ true → filter keeps (x ∷ xs) ≡ x ∷ filter keeps xs
  stands_first keeps x xs kept = ap (λ (is_kept : Bool). cond is_kept (x ∷ filter keeps xs) (filter keeps xs)) kept

  -- If `ys` and `zs` are equal with `x` before both or before neither, they are equal.
  after_first : (x : X) (ys zs : List X) (is_kept : Bool) → cond is_kept (x ∷ ys) ys ≡ cond is_kept (x ∷ zs) zs → ys ≡ zs
  after_first x ys zs true same = cc
  after_first x ys zs false same = same

  -- Two lists in order are equal if, for each item `w`, their items that tie with `w` are equal. Neither of the heads
  -- `y` and `z` comes before the other (`not_y`, `not_z`), so they tie. So both head the items that tie with `y`
  -- (`both`), and are equal (`is`). `after` says that the rests are equal.
  equal_if_ties_equal : (ys zs : List X) → IsInOrder ys → IsInOrder zs → ((w : X) → filter (ties lt w) ys ≡ filter (ties lt w) zs)
      → ys ≡ zs
  equal_if_ties_equal [] [] y_order z_order same = refl
  equal_if_ties_equal [] (z ∷ zs) y_order z_order same = let e = same z ∙ stands_first (ties lt z) z zs (tie_self z) in cc
  equal_if_ties_equal (y ∷ ys) [] y_order z_order same = let e = sym (stands_first (ties lt y) y ys (tie_self y)) ∙ same y in cc
  equal_if_ties_equal (y ∷ ys) (z ∷ zs) y_order z_order same =
      let of_y = sym (same y) ∙ stands_first (ties lt y) y ys (tie_self y) in
      let of_z = same z ∙ stands_first (ties lt z) z zs (tie_self z) in
      let not_y = first_kept (ties lt y) (λ v. lt v z) y (filter (ties lt y) ys) (z ∷ zs) of_y
      (or_from (lt z z) (list_any (λ v. lt v z) zs) (not_self z) z_order.0) in
      let not_z = first_kept (ties lt z) (λ v. lt v y) z (filter (ties lt z) zs) (y ∷ ys) of_z
      (or_from (lt y y) (list_any (λ v. lt v y) ys) (not_self y) y_order.0) in
      let both = sym of_y ∙ stands_first (ties lt y) z zs (both_tie y z not_y not_z) in
      let is : y ≡ z = cc in
      let after = equal_if_ties_equal ys zs y_order.1 z_order.1
      (λ w. after_first y (filter (ties lt w) ys) (filter (ties lt w) zs) (ties lt w y)
      (same w ∙ ap (λ (x : X). filter (ties lt w) (x ∷ zs)) (sym is))) in
      ap (λ (x : X). x ∷ ys) is ∙ ap (λ (rest : List X). z ∷ rest) after

  -- A list that is sorted by `lt` is in order.
  in_order_from_sorted : (xs : List X) → IsSortedBy lt xs → IsInOrder xs
  in_order_from_sorted [] sorted = tt
  in_order_from_sorted (x ∷ []) sorted = (refl, tt)
  in_order_from_sorted (x ∷ y ∷ ys) sorted =
      let next : lt y x ≡ false = sorted 0 x (omega arith) (omega arith) in
      let others = in_order_from_sorted (y ∷ ys)
      (λ k d from within. let further : suc (k + 1) ≡ suc k + 1 = omega arith in
      ap (λ (n : ℕ). lt (slice_index_or (x ∷ y ∷ ys) n d) (slice_index_or (y ∷ ys) k d)) further
      ∙ sorted (suc k) d (omega arith) (omega arith)) in
      (or_from (lt y x) (list_any (λ z. lt z x) ys) next (none_before x y ys next others.0), others)

  -- If `ys` is a stable sort of `xs`, it is `ordered lt xs`.
  pub sorted_is_ordered : (xs ys : List X) → IsSortedBy lt ys → IsStableBy lt xs ys → ys ≡ ordered lt xs
  sorted_is_ordered xs ys sorted stable =
      equal_if_ties_equal ys (ordered lt xs) (in_order_from_sorted ys sorted) (ordered_in_order xs)
      (λ w. stable w ∙ sym (ordered_stable w xs))
