-- Proves how a text grows by a part for each item of a list.
use Rattle.std.proofs.Common.{◌≡◌, ℕ, ◌+◌, ◌<◌, List, [], ◌∷◌, ◌++◌, take, length, get_or, sym, ap, ◌∙◌}
use Rattle.std.specs.List.{flat_map}
use Rattle.std.proofs.lemmas.List.{take_more, flat_map_more}

-- If the part of the next item is appended, the text has the parts of one item more.
pub appended_more : {X : Type 0} (f : X → List ℕ) (xs : List X) (i : ℕ) (d : X) (old before after part : List ℕ)
    → i < length xs → before ≡ old ++ flat_map f (take i xs) → after ≡ before ++ part → part ≡ f (get_or xs i d)
    → after ≡ old ++ flat_map f (take (i + 1) xs)
appended_more f xs i d old before after part within so_far is same =
    is ∙ ap (λ text. text ++ part) so_far ∙ ap (λ p. (old ++ flat_map f (take i xs)) ++ p) same
    ∙ flat_map_more f old (take i xs) (get_or xs i d) ∙ ap (λ l. old ++ flat_map f l) (sym (take_more xs i d within))
