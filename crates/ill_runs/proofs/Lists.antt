-- Proves how a property of each item of a list is one of the items of other lists.
use Rattle.std.proofs.Common.{◌≡◌, ℕ, zero, suc, List, [], ◌∷◌, ◌++◌, take, Some, is_some, sym, ap, subst, true≢false}
use Rattle.std.specs.List.{slice_get}
use Rattle.ill_record.specs.Ranges.{Each}

module _ {X : Type 0} (P : X → Type 0) where
  -- If `P` holds of each item of both lists, it holds of each of their join.
  pub each_append : (xs more : List X) → Each P xs → Each P more → Each P (xs ++ more)
  unfolding Each
  each_append [] more each others = others
  each_append (x ∷ xs) more each others = (each.0, each_append xs more each.1 others)

  -- If `P` holds of each item of a join, it holds of each of both lists.
  pub each_parts : (xs more : List X) → Each P (xs ++ more) → Each P xs × Each P more
  unfolding Each
  each_parts [] more each = (tt, each)
  each_parts (x ∷ xs) more each = (let parts = each_parts xs more each.1 in ((each.0, parts.0), parts.1))

  -- If `P` holds of each item, it holds of each of the first items.
  pub each_take : (size : ℕ) (xs : List X) → Each P xs → Each P (take size xs)
  unfolding Each
  each_take zero xs each = tt
  each_take (suc size) [] each = tt
  each_take (suc size) (x ∷ xs) each = (each.0, each_take size xs each.1)

  -- If `P` holds of each item, it holds of the item at a place.
  pub each_at : (xs : List X) (n : ℕ) (x : X) → Each P xs → slice_get xs n ≡ Some x → P x
  unfolding Each
  each_at [] n x each there = absurd (true≢false (sym (ap is_some there)))
  each_at (y ∷ xs) zero x each there = (let same : y ≡ x = cc in subst P same each.0)
  each_at (y ∷ xs) (suc n) x each there = each_at xs n x each.1 there

-- If `P` implies `Q`, and `P` holds of each item of a list, so does `Q`.
pub each_so : {X : Type 0} (P Q : X → Type 0) (xs : List X) → ((x : X) → P x → Q x) → Each P xs → Each Q xs
unfolding Each
each_so P Q [] so each = tt
each_so P Q (x ∷ xs) so each = (so x each.0, each_so P Q xs so each.1)
