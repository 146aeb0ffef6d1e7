-- Proves statements on lists of numbers.
use Rattle.std.proofs.Common.{rules, ◌≡◌, ℕ, Bool, true, false, not, nat_eq, List, [], ◌∷◌, ◌++◌, Option, Some, None, refl, ap}
use Rattle.std.proofs.Common.{◌∙◌}
use Rattle.std.specs.List.{list_all}
use Rattle.std.proofs.lemmas.Bool.{and_parts, and_from, or_from}
use Rattle.std.proofs.lemmas.List.Folds.{list_any-append}
use Rattle.ill_core.specs.Numbers.{is_at_most, is_below, are_distinct}
use Rattle.ill_core.proofs.IssuedLemmas.{not_true}

-- If all of `ns` pass the test `p`, and `p` implies `q`, all of them pass `q`.
pub all_weaker : (p q : ℕ → Bool) → ((n : ℕ) → p n ≡ true → q n ≡ true) → (ns : List ℕ) → list_all p ns ≡ true
    → list_all q ns ≡ true
all_weaker p q weaker [] all = refl
all_weaker p q weaker (n ∷ ns) all =
    let parts = and_parts _ _ all in
    and_from _ _ (weaker n parts.0) (all_weaker p q weaker ns parts.1)

-- If `k` is not at most `last`, each number that is at most `last` is below `k`.
pub below_new : (k : ℕ) (last : Option ℕ) → is_at_most k last ≡ false → (n : ℕ) → is_at_most n last ≡ true
    → is_below n (Some k) ≡ true
below_new k None above n most = search rules
below_new k (Some m) above n most = search rules

-- A number below `k` is at most `k`.
pub at_most_below : (k n : ℕ) → is_below n (Some k) ≡ true → is_at_most n (Some k) ≡ true
at_most_below k n below = search rules

-- A number `m` below `n` does not equal `n`.
above_not_same : (m n : ℕ) → is_below m (Some n) ≡ true → nat_eq n m ≡ false
above_not_same m n below = search rules

-- If `ns` are distinct and below `n`, they stay distinct with `n` at the end.
pub distinct_more : (ns : List ℕ) (n : ℕ) → are_distinct ns ≡ true → list_all (λ m. is_below m (Some n)) ns ≡ true
    → are_distinct (ns ++ n ∷ []) ≡ true
unfolding are_distinct
distinct_more [] n distinct below = refl
distinct_more (m ∷ ns) n distinct below =
    let parts = and_parts _ _ distinct in
    let belows = and_parts _ _ below in
    and_from _ _ (ap not (list_any-append (λ (i : ℕ). nat_eq i m) ns (n ∷ [])
    ∙ or_from _ _ (not_true _ parts.0) (or_from _ _ (above_not_same m n belows.0) refl)))
    (distinct_more ns n parts.1 belows.1)
