-- Lemmas on `StaysThere`: a message file stays during looks, and while paths are touched that are none of its own.
use Rattle.std.proofs.Common.{◌≡◌, sym, ◌∙◌, ap, subst, ℕ, Bool, true, List, Result}
use Rattle.std.proofs.lemmas.Bool.{eqb-true}
use Rattle.ill_disk.specs.Disk.{Disk, found_at}
use Rattle.ill_disk.specs.Calls.{DiskState, Answers}
use Rattle.std.proofs.Common.{Option, Some, None}
use Rattle.std.proofs.lemmas.Bool.{true≢false}
use Rattle.ill_message_disk.specs.MessageFileCalls.{Finds, Tells, is_file}
use Rattle.ill_message_disk.specs.Touches.{IsNoneOf, Touches}
use Rattle.ill_message_disk.specs.declared.message_disk.Found.{Found}
use Rattle.ill_message_disk.specs.Spots.{SpotOf, Outlasts, StaysThere}
use Rattle.ill_message_disk.proofs.Calling.{tells_touches, finds_touches}
use Rattle.ill_message_disk.proofs.Placing.{IsSpared, place_stays, survives_touch}
use Rattle.ill_message_disk.proofs.Removing.{same_place}
use Rattle.ill_message_disk.proofs.Steps.{survives_one, survives_then, touches_more, touches_then}

-- If `is_file` says that `file` was found, it was found.
pub is_this : (file : ℕ) (found : Option ℕ) → is_file file found ≡ true → found ≡ Some file
is_this file None is = absurd (true≢false (sym is))
is_this file (Some other) is = ap Some (eqb-true other file is)

-- A message file stays during a look that tells if a file stands at a path (`Tells`).
pub stays_tell : {E : Type 0} {path : List ℕ} {file : ℕ} (paths : List (List ℕ)) (spot : SpotOf) {old : DiskState}
    {answer : Result Bool E} {new : DiskState} → Answers (Tells path file) old answer new → StaysThere paths spot old new
stays_tell {path = path} {file = file} paths spot {old = old} {answer = answer} {new = new} tells = record {
  touches = tells_touches paths tells;
  waiting = λ h. ap (λ (d : Disk). found_at spot.waiting d.names) (tells.done h).same;
  place = λ h. same_place spot (tells.done h).same;
  survives = survives_one (Tells path file) spot old answer new tells
      (λ h done outlasts. subst (Outlasts spot) (sym done.same) outlasts);
}

-- A message file stays during a look that gives the file at a path (`Finds`).
pub stays_find : {E : Type 0} {path : List ℕ} (paths : List (List ℕ)) (spot : SpotOf) {old : DiskState}
    {answer : Result (Option Found) E} {new : DiskState} → Answers (Finds path) old answer new →
    StaysThere paths spot old new
stays_find {path = path} paths spot {old = old} {answer = answer} {new = new} finds = record {
  touches = finds_touches paths finds;
  waiting = λ h. ap (λ (d : Disk). found_at spot.waiting d.names) (finds.done h).same;
  place = λ h. same_place spot (finds.done h).same;
  survives = survives_one (Finds path) spot old answer new finds
      (λ h done outlasts. subst (Outlasts spot) (sym done.same) outlasts);
}

-- A message file stays while only the paths `few` are touched, if none of them is its own. `many` has all paths of
-- `few`.
pub stays_spared : (few many : List (List ℕ)) (spot : SpotOf) (old new : DiskState) → IsSpared few spot →
    ((p : List ℕ) → IsNoneOf many p → IsNoneOf few p) → Touches few old new → StaysThere many spot old new
stays_spared few many spot old new spared fits touches = record {
  touches = touches_more few many fits old new touches;
  waiting = λ h. (touches.moments h).last.now spot.waiting spared.waiting;
  place = λ h. place_stays few spot old.now.names new.now.names spared (touches.moments h).last.now;
  survives = survives_touch few spot old new spared touches;
}

-- If a message file stays from `a` to `b`, and from `b` to `c`, it stays from `a` to `c`.
pub stays_then : {paths : List (List ℕ)} {spot : SpotOf} {a b c : DiskState} → StaysThere paths spot a b →
    StaysThere paths spot b c → StaysThere paths spot a c
stays_then {paths = paths} {spot = spot} {a = a} {b = b} {c = c} first second = record {
  touches = touches_then paths a b c first.touches second.touches;
  waiting = λ h. second.waiting (first.touches.correct ∙ h) ∙ first.waiting h;
  place = λ h. second.place (first.touches.correct ∙ h) ∙ first.place h;
  survives = survives_then spot a b c first.touches.correct first.survives second.survives;
}
