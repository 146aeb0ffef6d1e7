-- Proves that `ordered` keeps each item, and that a stable sort by a number returns what `ordered` returns.
use Rattle.std.proofs.Common.{rules, is_lt, ◌≡◌, ℕ, Bool, true, false, cond, List, [], ◌∷◌, map, nat_cmp, nat_lt, ap, subst, ◌∙◌}
use Rattle.std.proofs.lemmas.List.Sorted.{IsStrictWeakOrder-by_number, IsPermutation-refl, IsPermutation-trans}
use Rattle.std.proofs.lemmas.List.Sorted.{IsPermutation-cons}
use Rattle.std.proofs.lemmas.List.Sorted.{IsPermutation-middle}
use Rattle.std.specs.Prelude.{IsPermutation}
use Rattle.std.specs.List.Sorted.{IsSortedByKey, IsStableByKey, IsSortedBy, IsStableBy}
use Rattle.ill_values.specs.Day.{Date}
use Rattle.ill_record.specs.declared.side.Side.{Side}
use Rattle.ill_words.specs.Waiting.{ordered, placed, most_urgent_first}
use Rattle.ill_work.specs.Order.{most_pressing_first}
use Rattle.ill_words.proofs.OrderLemmas.{ordered_mapped, sorted_is_ordered}

-- ---- each item is kept

-- `lt x y` says that the item `x` comes before the item `y`.
module _ {X : Type 0} (lt : X → X → Bool) where
  -- If placing `x` in `ys` keeps each item, so does placing `x` in `y ∷ ys`. `is_first` says that `y` comes before `x`.
  one_kept : (x y : X) (ys : List X) (is_first : Bool) → IsPermutation (x ∷ ys) (placed lt x ys)
      → IsPermutation (x ∷ y ∷ ys) (cond is_first (y ∷ placed lt x ys) (x ∷ y ∷ ys))
  one_kept x y ys true further =
      IsPermutation-trans (x ∷ y ∷ ys) (y ∷ x ∷ ys) (y ∷ placed lt x ys) (IsPermutation-middle (x ∷ []) y ys)
      (IsPermutation-cons y (x ∷ ys) (placed lt x ys) further)
  one_kept x y ys false further = IsPermutation-refl (x ∷ y ∷ ys)

  -- Placing `x` in `ys` keeps each item: the list after it is a permutation of `x ∷ ys`.
  placed_kept : (x : X) (ys : List X) → IsPermutation (x ∷ ys) (placed lt x ys)
  placed_kept x [] = IsPermutation-refl (x ∷ [])
  placed_kept x (y ∷ ys) = one_kept x y ys (lt y x) (placed_kept x ys)

  -- `ordered` keeps each item: it returns a permutation of the list.
  ordered_kept : (xs : List X) → IsPermutation xs (ordered lt xs)
  ordered_kept [] = IsPermutation-refl []
  ordered_kept (x ∷ xs) =
      IsPermutation-trans (x ∷ xs) (x ∷ ordered lt xs) (placed lt x (ordered lt xs))
      (IsPermutation-cons x xs (ordered lt xs) (ordered_kept xs)) (placed_kept x (ordered lt xs))

-- The order of loans by their work keeps each loan: it is a permutation of `sides`.
pub pressing_kept : (today : Date) (ahead : ℕ) (sides : List Side) → IsPermutation sides (most_pressing_first today ahead sides)
pressing_kept today ahead sides =
    IsPermutation-trans sides (most_urgent_first sides) (most_pressing_first today ahead sides)
    (ordered_kept _ sides) (ordered_kept _ (most_urgent_first sides))

-- ---- a sort by a number

-- The comparison of `a` with `b` says less if, and only if, `a` is less than `b`.
below_alike : (a b : ℕ) → is_lt (nat_cmp a b) ≡ nat_lt a b
below_alike a b = search rules

-- The items `X` have values `Y` (`now`), and these have a number (`key`).
module _ {X Y : Type 0} (now : X → Y) (key : Y → ℕ) where
  -- Let `ys` be a stable sort of `xs` by the number of their values. Then the values of `ys` are those of `xs` in the
  -- order that `ordered` gives them by this number.
  pub sorted_by_number : (xs ys : List X) → IsSortedByKey (λ x. key (now x)) nat_cmp ys
      → IsStableByKey (λ x. key (now x)) nat_cmp xs ys
      → map now ys ≡ ordered (λ a b. nat_lt (key a) (key b)) (map now xs)
  sorted_by_number xs ys sorted stable =
      ap (map now) (sorted_is_ordered (λ a b. nat_lt (key (now a)) (key (now b)))
      (IsStrictWeakOrder-by_number (λ x. key (now x))) xs ys
      (subst (λ (lt : X → X → Bool). IsSortedBy lt ys) (λ i a b. below_alike (key (now a)) (key (now b)) i) sorted)
      (subst (λ (lt : X → X → Bool). IsStableBy lt xs ys) (λ i a b. below_alike (key (now a)) (key (now b)) i) stable))
      ∙ ordered_mapped now (λ a b. nat_lt (key a) (key b)) xs
