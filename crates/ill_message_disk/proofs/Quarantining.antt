-- Lemmas on a claimed message file that is quarantined, call by call.
use Rattle.std.proofs.Common.{◌≡◌, inl, inr, ⊎_elim, refl, sym, ◌∙◌, ap, subst, ℕ, Bool, true, false, List, [], ◌∷◌}
use Rattle.std.proofs.Common.{Some, Result, Ok, Err, IsErr}
use Rattle.std.proofs.lemmas.Bool.{true≢false, eq-eqb}
use Rattle.std.proofs.lemmas.Option.{none-some}
use Rattle.ill_disk.specs.Disk.{Name, Disk, after_rename, found_at, with_rename}
use Rattle.ill_disk.specs.Calls.{DiskState, Answers}
use Rattle.ill_disk.proofs.Crashes.{in_append, in_map}
use Rattle.ill_disk.proofs.Names.{found_moved}
use Rattle.ill_message_disk.specs.MessageFileCalls.{Brings, Tells, is_file}
use Rattle.ill_message_disk.specs.Touches.{Touches}
use Rattle.ill_message_disk.specs.Spots.{SpotOf, Place, Quarantined, Gone, place_by, place_in, moved, Comes}
use Rattle.ill_message_disk.specs.Spots.{Outlasts, QuarantinesMessageFile, StaysThere, quarantined_paths}
use Rattle.ill_message_disk.proofs.Apart.{AreApart}
use Rattle.ill_message_disk.proofs.Calling.{brings_touches}
use Rattle.ill_message_disk.proofs.Placing.{IsSpared}
use Rattle.ill_message_disk.proofs.Removing.{unclaimed_by}
use Rattle.ill_message_disk.proofs.Staying.{is_this, stays_spared, stays_tell, stays_then}
use Rattle.ill_message_disk.proofs.Steps.{survives_one, survives_then, touches_more, touches_then}

-- `is_file` says that a file is itself.
pub this_file : (file : ℕ) → is_file file (Some file) ≡ true
this_file file = eq-eqb file file refl

-- Returns true if the place is `Gone`.
abbrev pub is_gone : Place → Bool
is_gone Gone = true
is_gone place = false

-- If a file has its name in the folder, its message file is not claimed. So a move to `to` leaves it.
waiting_stays_by : (to : Place) (quarantined waiting claimed : Bool) → waiting ≡ true →
    place_by quarantined waiting claimed ≡ moved to (place_by quarantined waiting claimed)
waiting_stays_by to true waiting claimed is = refl
waiting_stays_by to false true claimed is = refl
waiting_stays_by to false false claimed is = absurd (true≢false (sym is))

-- Let a file have its claimed name but not the one in the folder. If it then stands in quarantine, its message file
-- moves to `Quarantined`. A name with `'` tells if the file has it afterwards.
quarantined_by : (quarantined quarantined' waiting waiting' claimed claimed' : Bool) → waiting ≡ false → claimed ≡ true
    → quarantined' ≡ true →
    place_by quarantined' waiting' claimed' ≡ moved Quarantined (place_by quarantined waiting claimed)
quarantined_by quarantined false waiting waiting' claimed claimed' w c a = absurd (true≢false (sym a))
quarantined_by quarantined true true waiting' claimed claimed' w c a = absurd (true≢false w)
quarantined_by quarantined true false waiting' false claimed' w c a = absurd (true≢false (sym c))
quarantined_by true true false waiting' true claimed' w c a = refl
quarantined_by false true false waiting' true claimed' w c a = refl

-- A message file whose file stands in quarantine is not gone.
not_gone_quarantined : (quarantined waiting claimed : Bool) → quarantined ≡ true → place_by quarantined waiting claimed ≡ Gone → ⊥
not_gone_quarantined true waiting claimed is gone = true≢false (sym (ap is_gone gone))
not_gone_quarantined false waiting claimed is gone = true≢false (sym is)

module _ (spot : SpotOf) (apart : AreApart spot) where
  -- The path of the reason is none at which the file of the message file may stand.
  reason_spared : IsSpared (spot.reason ∷ []) spot
  reason_spared = record {
    claimed = (apart.claimed.1.1.0, tt);
    waiting = (apart.waiting.1.0, tt);
    quarantined = apart.quarantined;
  }

  -- A message file stays while its reason is written.
  pub stays_reason : (old new : DiskState) → Touches (spot.reason ∷ []) old new → StaysThere (quarantined_paths spot) spot old new
  stays_reason old new touches =
      stays_spared (spot.reason ∷ []) (quarantined_paths spot) spot old new reason_spared (λ p none. (none.0, tt)) touches

  -- On the disk `d` the file of the message file has its claimed name.
  module _ (d : Disk) (found : found_at spot.claimed d.names ≡ Some spot.file) where
    -- After the rename the file stands in quarantine, in any names.
    stands_quarantined : (names : List Name) →
        found_at spot.quarantined (with_rename spot.claimed spot.quarantined (found_at spot.claimed d.names) names)
        ≡ Some spot.file
    stands_quarantined names =
        found_moved spot.claimed spot.quarantined spot.file names (found_at spot.claimed d.names) found

    -- After the rename the message file is not gone, in any names.
    not_gone : (names : List Name) →
        place_in (with_rename spot.claimed spot.quarantined (found_at spot.claimed d.names) names) spot ≡ Gone → ⊥
    not_gone names gone =
        let after : List Name = with_rename spot.claimed spot.quarantined (found_at spot.claimed d.names) names in
        not_gone_quarantined (is_file spot.file (found_at spot.quarantined after))
        (is_file spot.file (found_at spot.waiting after))
        (is_file spot.file (found_at spot.claimed after))
        (ap (is_file spot.file) (stands_quarantined names) ∙ this_file spot.file) gone

    -- No crash after the rename loses the message file.
    pub outlasts_rename : Outlasts spot d → Outlasts spot (after_rename spot.claimed spot.quarantined d)
    outlasts_rename outlasts names stands gone =
        let change : List Name → List Name = with_rename spot.claimed spot.quarantined (found_at spot.claimed d.names) in ⊎_elim
        (λ before. outlasts names before gone)
        (λ changed. let from = in_map change d.may_stand names changed in
        not_gone from.0 (sym (ap (λ (n : List Name). place_in n spot) from.2) ∙ gone))
        (in_append d.may_stand _ names stands)

    -- If the message file did not wait, it moves to `Quarantined` by the rename.
    pub quarantined_place : is_file spot.file (found_at spot.waiting d.names) ≡ false →
        place_in (after_rename spot.claimed spot.quarantined d).names spot ≡ moved Quarantined (place_in d.names spot)
    quarantined_place waits =
        let after : List Name = (after_rename spot.claimed spot.quarantined d).names in
        quarantined_by (is_file spot.file (found_at spot.quarantined d.names))
        (is_file spot.file (found_at spot.quarantined after))
        (is_file spot.file (found_at spot.waiting d.names)) (is_file spot.file (found_at spot.waiting after))
        (is_file spot.file (found_at spot.claimed d.names)) (is_file spot.file (found_at spot.claimed after))
        waits (ap (is_file spot.file) found ∙ this_file spot.file)
        (ap (is_file spot.file) (stands_quarantined d.names) ∙ this_file spot.file)

-- Let a rename of the claimed path to `path` move a claimed message file to the place `to`. Then a call that renames,
-- done or not, moves the message file to `to` or leaves it.
brought_comes : {A E : Type 0} (spot : SpotOf) (old new : Disk) (answer : Result A E) (to : Place) (path : List ℕ) →
    found_at spot.claimed old.names ≡ Some spot.file →
    place_in (after_rename spot.claimed path old).names spot ≡ moved to (place_in old.names spot) →
    Brings spot.claimed path old answer new → Comes to (place_in old.names spot) answer (place_in new.names spot)
brought_comes spot old new (Ok done) to path found place brings = ⊎_elim
    (λ none. absurd (none-some spot.file (sym none ∙ found)))
    (λ moved. ap (λ (d : Disk). place_in d.names spot) moved ∙ place) brings.done
brought_comes spot old new (Err fault) to path found place brings = ⊎_elim
    (λ same. inl (ap (λ (d : Disk). place_in d.names spot) same))
    (λ moved. inr (ap (λ (d : Disk). place_in d.names spot) moved ∙ place)) brings.either

-- If a call fails and leaves the message file at its place, it answers as `QuarantinesMessageFile` says.
pub quarantined_fails : {A E : Type 0} {spot : SpotOf} {old new : DiskState} {answer : Result A E} → IsErr answer →
    StaysThere (quarantined_paths spot) spot old new → QuarantinesMessageFile spot old answer new
quarantined_fails {answer = Ok done} is stays = absurd (true≢false (sym is))
quarantined_fails {answer = Err fault} is stays = record {
  touches = stays.touches;
  comes = λ h. inl (stays.place h);
  survives = stays.survives;
}

-- If the file is not found at its claimed path, a call that does no more answers as `QuarantinesMessageFile` says.
pub quarantined_unclaimed : {A E F : Type 0} {spot : SpotOf} {old new : DiskState} {stands : Bool} {value : A} →
    stands ≡ false → Answers {E = E} (Tells spot.claimed spot.file) old (Ok stands) new →
    QuarantinesMessageFile {E = F} spot old (Ok value) new
quarantined_unclaimed {spot = spot} {old = old} is tells =
    let stays = stays_tell (quarantined_paths spot) spot tells in record {
      touches = stays.touches;
      comes = λ h. stays.place h ∙ unclaimed_by Quarantined (is_file spot.file (found_at spot.quarantined old.now.names))
          (is_file spot.file (found_at spot.waiting old.now.names)) (is_file spot.file (found_at spot.claimed old.now.names))
          (sym (tells.done h).stands ∙ is);
      survives = stays.survives;
    }

-- If the file is found in the folder, a call that does no more answers as `QuarantinesMessageFile` says.
pub quarantined_waits : {A E F : Type 0} {spot : SpotOf} {old looked new : DiskState} {look : Result Bool E} {stands : Bool}
    {value : A} → stands ≡ true → Answers (Tells spot.claimed spot.file) old look looked →
    Answers {E = E} (Tells spot.waiting spot.file) looked (Ok stands) new →
    QuarantinesMessageFile {E = F} spot old (Ok value) new
quarantined_waits {spot = spot} {old = old} {looked = looked} is first second =
    let one = stays_tell (quarantined_paths spot) spot first in
    let two = stays_tell (quarantined_paths spot) spot second in
    let stays = stays_then one two in record {
      touches = stays.touches;
      comes = λ h. two.place (first.correct ∙ h)
          ∙ waiting_stays_by Quarantined (is_file spot.file (found_at spot.quarantined looked.now.names))
          (is_file spot.file (found_at spot.waiting looked.now.names))
          (is_file spot.file (found_at spot.claimed looked.now.names))
          (sym (second.done (first.correct ∙ h)).stands ∙ is)
          ∙ ap (moved Quarantined) (one.place h);
      survives = stays.survives;
    }

-- A message file that is claimed, and does not wait, is quarantined after its reason was written.
module _ {A E F : Type 0} {spot : SpotOf} {old looked seen written new : DiskState} {answer : Result A F}
    {claimed waits : Bool} (apart : AreApart spot) (is : claimed ≡ true) (not_so : waits ≡ false)
    (first : Answers {E = E} (Tells spot.claimed spot.file) old (Ok claimed) looked)
    (second : Answers {E = E} (Tells spot.waiting spot.file) looked (Ok waits) seen)
    (writes : Touches (spot.reason ∷ []) seen written)
    (brings : Answers (Brings spot.claimed spot.quarantined) written answer new) where
  -- The message file stays at its place until its reason is written.
  so_far : StaysThere (quarantined_paths spot) spot old written
  so_far = stays_then (stays_tell (quarantined_paths spot) spot first)
      (stays_then (stays_tell (quarantined_paths spot) spot second) (stays_reason spot apart seen written writes))

  -- The disk is still correct when the reason is written.
  was_correct : old.is_correct ≡ true → written.is_correct ≡ true
  was_correct h = so_far.touches.correct ∙ h

  -- When the reason is written, the file of the message file still stands at its claimed path.
  still_claimed : old.is_correct ≡ true → found_at spot.claimed written.now.names ≡ Some spot.file
  still_claimed h =
      (writes.moments (second.correct ∙ first.correct ∙ h)).last.now spot.claimed (reason_spared spot apart).claimed
      ∙ ap (λ (d : Disk). found_at spot.claimed d.names) ((second.done (first.correct ∙ h)).same ∙ (first.done h).same)
      ∙ is_this spot.file (found_at spot.claimed old.now.names) (sym (first.done h).stands ∙ is)

  -- When the reason is written, the file of the message file still does not wait.
  still_not_waiting : old.is_correct ≡ true → is_file spot.file (found_at spot.waiting written.now.names) ≡ false
  still_not_waiting h =
      ap (is_file spot.file)
      ((writes.moments (second.correct ∙ first.correct ∙ h)).last.now spot.waiting (reason_spared spot apart).waiting
      ∙ ap (λ (d : Disk). found_at spot.waiting d.names) (second.done (first.correct ∙ h)).same)
      ∙ sym (second.done (first.correct ∙ h)).stands ∙ not_so

  -- The rename, done or not, quarantines the message file as `QuarantinesMessageFile` says.
  pub quarantined_done : QuarantinesMessageFile spot old answer new
  quarantined_done = record {
    touches = touches_then (quarantined_paths spot) old written new so_far.touches
        (touches_more (spot.claimed ∷ spot.quarantined ∷ []) (quarantined_paths spot) (λ p none. none.1) written new
        (brings_touches brings));
    comes = λ h. subst (λ (p : Place). Comes Quarantined p answer (place_in new.now.names spot)) (so_far.place h)
        (brought_comes spot written.now new.now answer Quarantined spot.quarantined (still_claimed h)
        (quarantined_place spot apart written.now (still_claimed h) (still_not_waiting h)) (brings.done (was_correct h)));
    survives = λ h outlasts. (survives_then spot old written new so_far.touches.correct so_far.survives
        (survives_one (Brings spot.claimed spot.quarantined) spot written answer new brings
        (λ k does before. ⊎_elim (λ same. subst (Outlasts spot) (sym same) before)
        (λ moved. subst (Outlasts spot) (sym moved)
        (outlasts_rename spot apart written.now (still_claimed h) before)) does.either))) h outlasts;
  }
