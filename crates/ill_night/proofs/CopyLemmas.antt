-- Proves when a desk extends a copy: the messages of each copied loan are the first ones of a side.
use Rattle.std.proofs.Common.{arith, ◌≡◌, ℕ, ◌<◌, zero, suc, Bool, false, true≢false, List, [], ◌∷◌, length, drop, map, get_or}
use Rattle.std.proofs.Common.{Bor, subst, sym}
use Rattle.std.specs.Prelude.{All, Decides, IsTrue, ◌↔◌}
use Rattle.std.specs.List.{starts_with}
use Rattle.std.proofs.lemmas.List.Elements.{All-head, All-tail}
use Rattle.std.proofs.lemmas.Slice.Eq.{starts_is}
use Rattle.ill_record.specs.declared.side.Side.{Side}
use Rattle.ill_record.specs.Side.{IsPrefix}
use Rattle.ill_night.specs.CopyOver.{HasLoan}

-- If `equal` decides equality, `starts_with` decides whether `sought` is a prefix of `seen`.
prefix_of_seen : {A : Type 0} {equal : A → A → Bool} → ((a b : A) → IsTrue (equal a b) ↔ (a ≡ b)) → (seen sought : List A)
    (result : Bool) → result ≡ starts_with equal seen sought → Decides result (IsPrefix sought seen)
prefix_of_seen decides seen sought result is =
    let starts = starts_is decides seen sought result is in
    ((λ begins. (drop (length sought) seen, starts.0 begins)), λ begins. starts.1 begins.0 begins.1)

-- If `items` and `prefix` equal `seen` and `sought`, `starts_with` also decides whether `prefix` is a prefix of
-- `items`.
pub prefix_decided : {A : Type 0} {equal : A → A → Bool} → ((a b : A) → IsTrue (equal a b) ↔ (a ≡ b))
    → (seen sought items prefix : List A) (result : Bool) → seen ≡ items → sought ≡ prefix
    → result ≡ starts_with equal seen sought → Decides result (IsPrefix prefix items)
prefix_decided decides seen sought items prefix result same_items same_prefix is =
    subst (λ items. Decides result (IsPrefix prefix items)) same_items
    (subst (λ prefix. Decides result (IsPrefix prefix seen)) same_prefix (prefix_of_seen decides seen sought result is))

-- If `P` holds of all of `sides`, it holds of the one at `place`.
one_of_all : (P : Side → Type 0) (sides : List (Bor Side)) (place : ℕ) (side : Bor Side) → place < length sides
    → All P (map (λ (side : Bor Side). side.now) sides) → P ((get_or sides place side).now)
one_of_all P [] place side within all = absurd (omega (arith, within))
one_of_all P (first ∷ sides) zero side within all = All-head P first.now (map (λ (side : Bor Side). side.now) sides) all
one_of_all P (first ∷ sides) (suc place) side within all =
    one_of_all P sides place side (omega (arith, within))
    (All-tail P first.now (map (λ (side : Bor Side). side.now) sides) all)

-- If `own` lacks the loan of `side`, it does not have the loans of all of `sides`. `side` is the one at `place`.
pub lacks_one : (own : List Side) (sides : List (Bor Side)) (place : ℕ) (side : Bor Side) → place < length sides
    → side ≡ get_or sides place side → Decides false (HasLoan own side.now)
    → Decides false (All (HasLoan own) (map (λ (side : Bor Side). side.now) sides))
lacks_one own sides place side within is lacks = (
  λ no. absurd (true≢false (sym no)),
  λ all. let one = one_of_all (HasLoan own) sides place side within all in
      lacks.1 (subst (λ (side : Bor Side). HasLoan own side.now) (sym is) one),
)
