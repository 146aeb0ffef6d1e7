-- Lemmas on one call and on two, one after the other: what they touch, and that a message file survives them.
use Rattle.std.proofs.Common.{◌≡◌, ⊎_elim, sym, ◌∙◌, subst, ℕ, true, List, Result, Ok, Err, OnOk}
use Rattle.ill_disk.specs.Disk.{Disk}
use Rattle.ill_disk.specs.Calls.{DiskState, Answers, Changes}
use Rattle.ill_disk.proofs.Moments.{throughout_nothing, one_more_call, holds_too, joins}
use Rattle.ill_message_disk.specs.Touches.{IsNoneOf, TouchesOnly, Touches}
use Rattle.ill_message_disk.specs.Spots.{SpotOf, Outlasts, Survives}
use Rattle.ill_message_disk.proofs.Touching.{touch_self, touch_then, touch_more}

-- ---- what calls touch

-- If each change that `does` allows touches only `paths`, a call that does so touches only `paths`.
pub one_touches : {A E : Type 0} (does : Disk → Result A E → Disk → Type 0) (paths : List (List ℕ)) (old : DiskState)
    (answer : Result A E) (new : DiskState) → Answers does old answer new →
    ((d e : Disk) → does d answer e → TouchesOnly paths d e) → Touches paths old new
one_touches does paths old answer new answers touches = record {
  whole = answers.whole;
  moments = λ h. one_more_call (throughout_nothing (touch_self paths old.now)) (answers.past h)
      (touches old.now new.now (answers.done h));
  correct = answers.correct;
}

-- If two calls, one after the other, touch only `paths`, both together do.
pub touches_then : (paths : List (List ℕ)) (a b c : DiskState) → Touches paths a b → Touches paths b c → Touches paths a c
touches_then paths a b c first second = record {
  whole = first.whole;
  moments = λ h. joins (first.moments h) (holds_too
      (λ d touched. touch_then paths a.now b.now d (first.moments h).last touched) (second.moments (first.correct ∙ h)));
  correct = second.correct ∙ first.correct;
}

-- If a call touches only paths of `few`, and `many` has all of these, it touches only paths of `many`.
pub touches_more : (few many : List (List ℕ)) → ((p : List ℕ) → IsNoneOf many p → IsNoneOf few p) → (a b : DiskState) →
    Touches few a b → Touches many a b
touches_more few many fits a b touches = record {
  whole = touches.whole;
  moments = λ h. holds_too (λ d touched. touch_more few many fits a.now d touched) (touches.moments h);
  correct = touches.correct;
}

-- If `change` touches only `paths`, a call that makes it, done or not, touches only `paths`.
pub change_fits : {E : Type 0} (paths : List (List ℕ)) (change : Disk → Disk) →
    ((d : Disk) → TouchesOnly paths d (change d)) → (answer : Result (Unit {0}) E) (d e : Disk) →
    Changes change d answer e → TouchesOnly paths d e
change_fits paths change touches (Ok done) d e is = subst (TouchesOnly paths d) (sym is) (touches d)
change_fits paths change touches (Err fault) d e is = ⊎_elim
    (λ same. subst (TouchesOnly paths d) (sym same) (touch_self paths d))
    (λ changed. subst (TouchesOnly paths d) (sym changed) (touches d)) is

-- If `P` holds of a disk before `change` and after it, `P` holds after a call that makes `change`, done or failed.
pub either_way : {E : Type 0} (P : Disk → Type 0) (change : Disk → Disk) (old new : Disk) (result : Result (Unit {0}) E) →
    Changes change old result new → P old → P (change old) → P new
either_way P change old new (Ok done) is without_it with_it = subst P (sym is) with_it
either_way P change old new (Err fault) is without_it with_it =
    ⊎_elim (λ same. subst P (sym same) without_it) (λ changed. subst P (sym changed) with_it) is

-- If `P` holds of a disk after `change`, `P` holds after a call that is done and makes `change`.
pub done_gives : {E : Type 0} (P : Disk → Type 0) (change : Disk → Disk) (old new : Disk) (result : Result (Unit {0}) E) →
    Changes change old result new → P (change old) → OnOk result (P new)
done_gives P change old new (Ok done) is with_it = subst P (sym is) with_it
done_gives P change old new (Err fault) is with_it = tt

-- ---- a message file that survives

-- A message file survives if no call is made.
pub survives_none : (spot : SpotOf) (a : DiskState) → Survives spot a a
survives_none spot a h outlasts = throughout_nothing outlasts

-- If a message file survives from `a` to `b`, and from `b` to `c`, it survives from `a` to `c`.
pub survives_then : (spot : SpotOf) (a b c : DiskState) → b.is_correct ≡ a.is_correct → Survives spot a b → Survives spot b c →
    Survives spot a c
survives_then spot a b c correct first second h outlasts =
    let before = first h outlasts in joins before (second (correct ∙ h) before.last)

-- Let one call be made. If each crash leaves the message file after the call when each crash left it before, the
-- message file survives.
pub survives_one : {A E : Type 0} (does : Disk → Result A E → Disk → Type 0) (spot : SpotOf) (old : DiskState)
    (answer : Result A E) (new : DiskState) → Answers does old answer new →
    ((old.is_correct ≡ true) → does old.now answer new.now → Outlasts spot old.now → Outlasts spot new.now) →
    Survives spot old new
survives_one does spot old answer new answers keeps h outlasts =
    one_more_call (throughout_nothing outlasts) (answers.past h) (keeps h (answers.done h) outlasts)
