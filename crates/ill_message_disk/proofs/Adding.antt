-- Lemmas on a message file that is added to a run: if the run admits it, no message file takes a path of another.
use Rattle.std.proofs.Common.{◌≡◌, ◌⊎◌, inl, inr, ⊎_elim, refl, sym, ◌∙◌, ap, subst, ℕ, zero, suc, true, List, []}
use Rattle.std.proofs.Common.{◌∷◌, ◌++◌, length, slice_get, Option, Some, IfSome}
use Rattle.std.proofs.lemmas.Bool.{and_parts, and_from}
use Rattle.std.proofs.lemmas.Option.{none-some}
use Rattle.ill_disk.proofs.Memory.{value_or}
use Rattle.ill_message_disk.specs.Keeping.{KeeperOf}
use Rattle.ill_message_disk.specs.Spots.{SpotOf}
use Rattle.ill_disk.specs.Disk.{found_at}
use Rattle.ill_disk.specs.Calls.{DiskState}
use Rattle.ill_message_disk.specs.Runs.{AddsMessageFile, MessageRunOf, cared_for}
use Rattle.ill_message_disk.specs.Runs.{IsSpread, are_spread, is_admitted, is_spread_from, is_spread_from_all, keeps_off, spares}

-- An element of `xs` followed by `y` is one of `xs`, or it is `y` at the last place.
pub last_or : {X : Type 0} (xs : List X) (y : X) (i : ℕ) (z : X) → slice_get (xs ++ y ∷ []) i ≡ Some z →
    (slice_get xs i ≡ Some z) ⊎ ((i ≡ length xs) × (y ≡ z))
last_or [] y zero z is = inr (refl, ap (value_or y) is)
last_or [] y (suc i) z is = absurd (none-some z is)
last_or (x ∷ xs) y zero z is = inl is
last_or (x ∷ xs) y (suc i) z is = ⊎_elim (λ l. inl l) (λ r. inr (ap suc r.0, r.1)) (last_or xs y i z is)

-- If `spot` is spread from all `spots`, it is spread from the message file at `i` of them.
spread_each : (spot : SpotOf) (spots : List (Option SpotOf)) (i : ℕ) (other : SpotOf) →
    is_spread_from_all spot spots ≡ true → slice_get spots i ≡ Some (Some other) → are_spread spot other ≡ true
spread_each spot [] i other all is = absurd (none-some (Some other) is)
spread_each spot (x ∷ spots) zero other all is =
    subst (λ (o : Option SpotOf). is_spread_from spot o ≡ true) (ap (value_or x) is)
    (and_parts (is_spread_from spot x) (is_spread_from_all spot spots) all).0
spread_each spot (x ∷ spots) (suc i) other all is =
    spread_each spot spots i other (and_parts (is_spread_from spot x) (is_spread_from_all spot spots) all).1 is

-- If `one` is spread from `other`, `other` is spread from `one`.
spread_both : (one other : SpotOf) → are_spread one other ≡ true → are_spread other one ≡ true
spread_both one other is =
    let parts = and_parts (spares one other) (spares other one) is in
    and_from (spares other one) (spares one other) parts.1 parts.0

-- Let `x` be None or a message file that is admitted. If `x` is `spot`, then `spot` is admitted.
admitted_as : (asked : KeeperOf) (spots : List (Option SpotOf)) (x : Option SpotOf) (spot : SpotOf) →
    IfSome x (λ s. is_admitted asked spots s ≡ true) → x ≡ Some spot → is_admitted asked spots spot ≡ true
admitted_as asked spots x spot is same = subst (λ (o : Option SpotOf). IfSome o (λ s. is_admitted asked spots s ≡ true)) same is

-- If the message files of a run are spread, and it admits `x`, they are spread with `x` after them.
pub add_spread : (asked : KeeperOf) (spots : List (Option SpotOf)) (x : Option SpotOf) → IsSpread asked spots →
    IfSome x (λ s. is_admitted asked spots s ≡ true) → IsSpread asked (spots ++ x ∷ [])
add_spread asked spots x spread is = record {
  message_files = λ number other spot second one two differ. ⊎_elim
      (λ first. ⊎_elim
      (λ also. spread.message_files number other spot second first also differ)
      (λ last. spread_both second spot (spread_each second spots number spot
      (and_parts (keeps_off asked second) (is_spread_from_all second spots) (admitted_as asked spots x second is last.1)).1
      first))
      (last_or spots x other (Some second) two))
      (λ last. ⊎_elim
      (λ also. spread_each spot spots other second
      (and_parts (keeps_off asked spot) (is_spread_from_all spot spots) (admitted_as asked spots x spot is last.1)).1 also)
      (λ both. absurd (differ (last.0 ∙ sym both.0)))
      (last_or spots x other (Some second) two))
      (last_or spots x number (Some spot) one);
  asked = λ number spot one. ⊎_elim
      (λ first. spread.asked number spot first)
      (λ last. (and_parts (keeps_off asked spot) (is_spread_from_all spot spots) (admitted_as asked spots x spot is last.1)).0)
      (last_or spots x number (Some spot) one);
}

-- Let a call append `spot`, the message file for which it looked, to the message files of `run`. Then `AddsMessageFile`
-- leads from `old` to `new`. `run` and `spots` are copies of `old` and of its message files.
module _ {D : Type 0} (state : D → DiskState) where
  pub adds : (run old new : MessageRunOf D) (spot_of : ℕ → SpotOf) (spots : List (Option SpotOf)) (spot : Option SpotOf) →
      run ≡ old → spots ≡ run.spots → new.spots ≡ run.spots ++ spot ∷ [] →
      ((state run.disk).is_correct ≡ true →
      spot ≡ cared_for run.asked spots spot_of (found_at (spot_of zero).claimed (state run.disk).now.names)) →
      AddsMessageFile state spot_of old new
  adds run old new spot_of spots spot view same added looked =
      subst (λ (r : MessageRunOf D). AddsMessageFile state spot_of r new) view record {
        spot = spot;
        added = added;
        is = λ correct. looked correct
            ∙ ap (λ (l : List (Option SpotOf)).
            cared_for run.asked l spot_of (found_at (spot_of zero).claimed (state run.disk).now.names)) same;
      }
