-- Proves that the desks that a shelf finds in its folder are its own.
use Rattle.std.proofs.Common.{◌≡◌, ◌<◌, ℕ, All, inl, inr, List, [], ◌∷◌, ◌++◌, map, length, get_or, sym, subst, ap, ◌∙◌}
use Rattle.std.proofs.lemmas.List.{map-append, length-map, get_or-map}
use Rattle.std.proofs.lemmas.List.Elements.{All-push}
use Rattle.ill_record.specs.declared.role.Role.{Role}
use Rattle.ill_record.specs.declared.role.Role.TheVariants.{Requester, Responder}
use Rattle.ill_files.specs.ShelfNames.{AreDeskNames, IsDeskName, IsNamedOnShelf}

-- If `P` holds of the texts of `old`, and of `name`, it holds of the texts of `new`. `new` is `old` and then `x`, whose
-- text is `name`.
pub one_more : {A : Type 0} (P : List ℕ → Type 0) (text : A → List ℕ) (old new : List A) (x : A) (name : List ℕ)
    → new ≡ old ++ x ∷ [] → text x ≡ name → P name → All P (map text old) → All P (map text new)
one_more {A} P text old new x name more same is all =
    subst (λ (items : List A). All P (map text items)) (sym more)
    (subst (All P) (sym (map-append text old (x ∷ []))) (All-push P (map text old) (text x) all (subst P (sym same) is)))

-- If `name` is the name of the desk of a group, it is one of the names on a shelf.
named : (role : Role) (name : List ℕ) → IsDeskName role name → IsNamedOnShelf name
named Requester name is = inr (inl is)
named Responder name is = inr (inr is)

-- If all texts of `items` are names of desks of `role`, the text of `item` is a name on a shelf. `item` is the item at
-- `place`.
pub named_at : {A : Type 0} (role : Role) (text : A → List ℕ) (items : List A) (place : ℕ) (item : A)
    → AreDeskNames role (map text items) → place < length items → item ≡ get_or items place item → IsNamedOnShelf (text item)
named_at role text items place item are within at =
    named role (text item) (subst (IsDeskName role)
    (get_or-map text items place item (text item) within ∙ ap text (sym at))
    (are place (text item) (subst (λ (n : ℕ). place < n) (sym (length-map items text)) within)))
