-- The events of half of a round of two desks are a list that grows side by side.
use Rattle.std.proofs.Common.{◌≡◌, ℕ, ◌+◌, List, [], ◌∷◌, ◌++◌, take, Some, sym, ap, ◌∙◌}
use Rattle.std.specs.List.{slice_get, flat_map}
use Rattle.std.proofs.lemmas.List.{take_more, flat_map_more}
use Rattle.std.proofs.lemmas.Option.{get_or_from_slice_get, slice_get_within}

-- The list `before` has `first`, and `f` of each of the first i members of `xs`. `after` is `before` with `f` of the
-- next member `x`. Then `after` has `first`, and `f` of each of the first i + 1 members.
pub flat_map_grows : {X A : Type 0} (f : X → List A) (xs : List X) (i : ℕ) (x : X) (first : A) (before after : List A)
    → slice_get xs i ≡ Some x → after ≡ before ++ f x
    → before ≡ first ∷ flat_map f (take i xs) → after ≡ first ∷ flat_map f (take (i + 1) xs)
flat_map_grows f xs i x first before after found is so_far =
    let one_more : take (i + 1) xs ≡ take i xs ++ x ∷ [] =
    take_more xs i x (slice_get_within xs i x found) ∙ ap (λ y. take i xs ++ y ∷ []) (get_or_from_slice_get xs i x x found) in
    is ∙ ap (λ l. l ++ f x) so_far ∙ flat_map_more f (first ∷ []) (take i xs) x ∙ ap (λ l. first ∷ flat_map f l) (sym one_more)
