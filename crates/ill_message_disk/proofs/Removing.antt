-- Lemmas on the place of a message file whose claimed name is removed.
use Rattle.std.proofs.Common.{◌≡◌, ◌⊎◌, inl, inr, ⊎_elim, refl, sym, ◌∙◌, ap, Bool, true, false, List, [], ◌∷◌}
use Rattle.std.proofs.Common.{None, Result, Ok, Err}
use Rattle.std.proofs.lemmas.Bool.{true≢false}
use Rattle.ill_disk.specs.Disk.{Name, Disk, found_at}
use Rattle.ill_message_disk.specs.MessageFileCalls.{Clears, is_file}
use Rattle.ill_message_disk.specs.Touches.{DiffersAt}
use Rattle.ill_message_disk.specs.Spots.{SpotOf, Place, Gone, place_by, place_in, moved, Comes}
use Rattle.ill_message_disk.proofs.Apart.{AreApart}
use Rattle.ill_message_disk.proofs.Placing.{place_at}

-- If a file has lost its claimed name, its message file has moved to `Gone` if it was claimed. Else it is at its place.
moved_to_gone_by : (quarantined waiting claimed : Bool)
    → place_by quarantined waiting false ≡ moved Gone (place_by quarantined waiting claimed)
moved_to_gone_by true waiting claimed = refl
moved_to_gone_by false true claimed = refl
moved_to_gone_by false false true = refl
moved_to_gone_by false false false = refl

-- If a file has not its claimed name, its message file is not claimed, and a move to `to` leaves it.
pub unclaimed_by : (to : Place) (quarantined waiting claimed : Bool) → claimed ≡ false →
    place_by quarantined waiting claimed ≡ moved to (place_by quarantined waiting claimed)
unclaimed_by to true waiting claimed is = refl
unclaimed_by to false true claimed is = refl
unclaimed_by to false false false is = refl
unclaimed_by to false false true is = absurd (true≢false is)

-- If the claimed name of a message file is gone, and no other has changed, a message file that was claimed is gone. Any
-- other message file is at its place (`moved Gone`).
pub gone_place : (spot : SpotOf) (old new : List Name) → AreApart spot → DiffersAt (spot.claimed ∷ []) old new →
    found_at spot.claimed new ≡ None → place_in new spot ≡ moved Gone (place_in old spot)
gone_place spot old new apart differs gone =
    place_at spot (found_at spot.quarantined old) (found_at spot.quarantined new) (found_at spot.waiting old)
    (found_at spot.waiting new)
    None (found_at spot.claimed new)
    (differs spot.quarantined (λ same. apart.claimed.1.0 (sym same), tt))
    (differs spot.waiting (λ same. apart.claimed.0 (sym same), tt)) gone
    ∙ moved_to_gone_by (is_file spot.file (found_at spot.quarantined old)) (is_file spot.file (found_at spot.waiting old))
    (is_file spot.file (found_at spot.claimed old))

-- If a call clears the claimed path of a message file, done or not, the place of the message file changes as
-- `Comes Gone` says: a claimed message file is gone. If the call failed, the message file may stay.
pub cleared_comes : {A E : Type 0} (spot : SpotOf) (old new : Disk) (answer : Result A E) → AreApart spot →
    DiffersAt (spot.claimed ∷ []) old.names new.names → Clears spot.claimed old answer new →
    ((new ≡ old) ⊎ (found_at spot.claimed new.names ≡ None)) →
    Comes Gone (place_in old.names spot) answer (place_in new.names spot)
cleared_comes spot old new (Ok done) apart differs clears either =
    gone_place spot old.names new.names apart differs clears.gone
cleared_comes spot old new (Err fault) apart differs clears either = ⊎_elim
    (λ same. inl (ap (λ (d : Disk). place_in d.names spot) same))
    (λ gone. inr (gone_place spot old.names new.names apart differs gone)) either

-- If a call changed nothing, the message file is at the same place.
pub same_place : {d e : Disk} (spot : SpotOf) → e ≡ d → place_in e.names spot ≡ place_in d.names spot
same_place spot same = ap (λ (d : Disk). place_in d.names spot) same
