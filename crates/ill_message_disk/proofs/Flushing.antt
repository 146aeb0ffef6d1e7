-- Lemmas on the flush of the claimed names of message files: after it each crash leaves the message files.
use Rattle.std.proofs.Common.{◌≡◌, ◌⊎◌, inl, inr, ⊎_elim, refl, sym, ◌∙◌, ap, subst, arith, ℕ, zero, suc, ◌<◌, ◌≤◌, Bool, true}
use Rattle.std.proofs.Common.{false}
use Rattle.std.proofs.Common.{List, [], ◌∷◌, length, slice_get, Option, Some, None, Result, Ok, Err, OnOk, IsErr}
use Rattle.std.proofs.lemmas.Bool.{true≢false}
use Rattle.std.proofs.lemmas.Option.{none-some}
use Rattle.ill_disk.specs.Disk.{Name, Disk, found_at}
use Rattle.ill_disk.specs.Calls.{DiskState, Answers, Changes}
use Rattle.ill_disk.proofs.Crashes.{in_map}
use Rattle.ill_disk.proofs.Memory.{value_or}
use Rattle.ill_message_disk.specs.MessageFileCalls.{Tells, after_flush_name, is_file, with_found}
use Rattle.ill_message_disk.specs.Spots.{SpotOf, Gone, FlushesClaim, Outlasts, place_by, place_in}
use Rattle.ill_message_disk.specs.Runs.{AreSpread, DoesAt, DoesNothing}
use Rattle.ill_message_disk.proofs.Calling.{tells_touches}
use Rattle.ill_message_disk.proofs.Placing.{outlasts_touch}
use Rattle.ill_message_disk.proofs.Quarantining.{is_gone, this_file}
use Rattle.ill_message_disk.proofs.Running.{found_spot, removed_spares}
use Rattle.ill_message_disk.proofs.Staying.{is_this}
use Rattle.ill_message_disk.proofs.Steps.{change_fits, one_touches, touches_then}
use Rattle.ill_message_disk.proofs.Touching.{flush_name_touches, found_settled}

-- A message file that has its claimed name is not gone.
claimed_not_gone_by : (quarantined waiting claimed : Bool) → claimed ≡ true → place_by quarantined waiting claimed ≡ Gone → ⊥
claimed_not_gone_by quarantined waiting false is gone = true≢false (sym is)
claimed_not_gone_by true waiting true is gone = true≢false (sym (ap is_gone gone))
claimed_not_gone_by false true true is gone = true≢false (sym (ap is_gone gone))
claimed_not_gone_by false false true is gone = true≢false (sym (ap is_gone gone))

-- A message file whose file has its claimed name is not gone, in these names.
claimed_not_gone : (spot : SpotOf) (names : List Name) → found_at spot.claimed names ≡ Some spot.file →
    place_in names spot ≡ Gone → ⊥
claimed_not_gone spot names found gone =
    claimed_not_gone_by (is_file spot.file (found_at spot.quarantined names)) (is_file spot.file (found_at spot.waiting names))
    (is_file spot.file (found_at spot.claimed names)) (ap (is_file spot.file) found ∙ this_file spot.file) gone

-- No crash after the flush of its claimed name loses a message file.
flushed_claim_outlasts : (spot : SpotOf) (d : Disk) → found_at spot.claimed d.names ≡ Some spot.file →
    Outlasts spot (after_flush_name spot.claimed d)
flushed_claim_outlasts spot d found names stands gone =
    let from = in_map (with_found spot.claimed (found_at spot.claimed d.names)) d.may_stand names stands in
    claimed_not_gone spot names (ap (found_at spot.claimed) from.2
    ∙ found_settled spot.claimed (found_at spot.claimed d.names) from.0 ∙ found) gone

-- If the file stood at its claimed path, and its flush is done, each crash leaves the message file.
lasts_if : {E : Type 0} (spot : SpotOf) (looked new : DiskState) (answer : Result (Unit {0}) E) →
    Answers (Changes (after_flush_name spot.claimed)) looked answer new →
    (looked.is_correct ≡ true → found_at spot.claimed looked.now.names ≡ Some spot.file) →
    OnOk answer (new.is_correct ≡ true → Outlasts spot new.now)
lasts_if spot looked new (Ok done) flushes found = λ h.
    let was : looked.is_correct ≡ true = sym flushes.correct ∙ h in
    subst (Outlasts spot) (sym (flushes.done was)) (flushed_claim_outlasts spot looked.now (found was))
lasts_if spot looked new (Err fault) flushes found = tt

-- If a call only looks at the claimed path, and then fails, it answers as `FlushesClaim` says.
pub unseen_flushes : {A E F : Type 0} {spot : SpotOf} {old new : DiskState} {look : Result Bool F} {answer : Result A E} →
    IsErr answer → Answers (Tells spot.claimed spot.file) old look new → FlushesClaim spot old answer new
unseen_flushes {answer = Ok done} is tells = absurd (true≢false (sym is))
unseen_flushes {spot = spot} {answer = Err fault} is tells =
    record { touches = tells_touches (spot.claimed ∷ []) tells; lasts = tt }

-- If a call finds the message file at its claimed path, and flushes that name, it answers as `FlushesClaim` says.
pub flushes_claimed : {E F : Type 0} {spot : SpotOf} {old looked new : DiskState} {stands : Bool}
    {answer : Result (Unit {0}) E} → stands ≡ true → Answers {E = F} (Tells spot.claimed spot.file) old (Ok stands) looked →
    Answers (Changes (after_flush_name spot.claimed)) looked answer new → FlushesClaim spot old answer new
flushes_claimed {spot = spot} {old = old} {looked = looked} {new = new} {answer = answer} is tells flushes =
    let paths : List (List ℕ) = spot.claimed ∷ [] in record {
      touches = touches_then paths old looked new (tells_touches paths tells)
          (one_touches (Changes (after_flush_name spot.claimed)) paths looked answer new flushes
          (change_fits paths (after_flush_name spot.claimed) (flush_name_touches spot.claimed) answer));
      lasts = lasts_if spot looked new answer flushes (λ h.
          let was : old.is_correct ≡ true = sym tells.correct ∙ h in
          ap (λ (d : Disk). found_at spot.claimed d.names) (tells.done was).same
          ∙ is_this spot.file (found_at spot.claimed old.now.names) (sym (tells.done was).stands ∙ is));
    }

-- ---- the message files of a run, flushed one after another: `FlushedTo` at first, and after one more message file

-- The disk `new` is correct if `old` is, and not else. If it is correct, each crash leaves the message files below
-- `count`.
pub record FlushedTo (spots : List (Option SpotOf)) (count : ℕ) (old new : DiskState) : Type 0 where
  pub correct : new.is_correct ≡ old.is_correct
  pub lasts : new.is_correct ≡ true → (number : ℕ) (spot : SpotOf) → number < count →
      slice_get spots number ≡ Some (Some spot) → Outlasts spot new.now

-- Before the first flush `FlushedTo` holds of the message files below 0.
pub none_flushed : (spots : List (Option SpotOf)) (state : DiskState) → FlushedTo spots 0 state state
none_flushed spots state = record { correct = refl; lasts = λ h number spot lt. absurd (omega (arith, lt)) }

-- If `number` is below `suc k`, it is `k`, or below `k`.
below_next : (k number : ℕ) → number < suc k → (number ≡ k) ⊎ (number < k)
below_next zero zero lt = inl refl
below_next zero (suc number) lt = absurd (omega (arith, lt))
below_next (suc k) zero lt = inr (omega (arith))
below_next (suc k) (suc number) lt =
    ⊎_elim (λ same. inl (ap suc same)) (λ less. inr (omega (arith, less))) (below_next k number (omega (arith, lt)))

-- A call that flushes the message file `found`, if it is one, or does nothing, leaves the disk correct as before.
pub flush_correct : (E : Type 0) (b c : DiskState) (answer : Result (Unit {0}) E) (found : Option (Option SpotOf)) →
    DoesAt (λ spot. FlushesClaim spot b answer c) (DoesNothing b answer c) found → c.is_correct ≡ b.is_correct
flush_correct E b c answer None does = ap (λ (s : DiskState). s.is_correct) does.same
flush_correct E b c answer (Some None) does = ap (λ (s : DiskState). s.is_correct) does.same
flush_correct E b c answer (Some (Some spot)) does = does.touches.correct

-- The message files below `k` are flushed on the disk `b`. The disk `c` is that after the flush of the message file
-- `k`.
module _ (spots : List (Option SpotOf)) (spread : AreSpread spots) (k : ℕ) (a b c : DiskState) where
  -- If each crash leaves the message files below `k` before the flush of the message file `k`, it leaves them after it.
  before_last : (E : Type 0) (found : Option (Option SpotOf)) → slice_get spots k ≡ found → (value : Unit {0}) →
      FlushedTo spots k a b → DoesAt (λ spot. FlushesClaim {E = E} spot b (Ok value) c) (DoesNothing {E = E} b (Ok value) c) found
      →
      c.is_correct ≡ true → (number : ℕ) (spot : SpotOf) → number < k
      → slice_get spots number ≡ Some (Some spot) →
      Outlasts spot c.now
  before_last E None is value before does h number spot lt found =
      subst (λ (s : DiskState). Outlasts spot s.now) (sym does.same)
      (before.lasts (ap (λ (s : DiskState). s.is_correct) (sym does.same) ∙ h) number spot lt found)
  before_last E (Some None) is value before does h number spot lt found =
      subst (λ (s : DiskState). Outlasts spot s.now) (sym does.same)
      (before.lasts (ap (λ (s : DiskState). s.is_correct) (sym does.same) ∙ h) number spot lt found)
  before_last E (Some (Some own)) is value before does h number spot lt found =
      let was : b.is_correct ≡ true = sym does.touches.correct ∙ h in
      let differ : k ≡ number → ⊥ = λ same. omega (arith, lt, same) in
      outlasts_touch (own.claimed ∷ []) spot b.now c.now
      (removed_spares own spot (spread k number own spot is found differ)) (does.touches.moments was).last
      (before.lasts was number spot lt found)

  -- After the flush of the message file `k` each crash leaves that message file.
  own_last : (E : Type 0) (found : Option (Option SpotOf)) → slice_get spots k ≡ found → (value : Unit {0}) →
      DoesAt (λ spot. FlushesClaim {E = E} spot b (Ok value) c) (DoesNothing {E = E} b (Ok value) c) found →
      c.is_correct ≡ true → (spot : SpotOf) → slice_get spots k ≡ Some (Some spot) → Outlasts spot c.now
  own_last E None is value does h spot found = absurd (none-some (Some spot) (sym is ∙ found))
  own_last E (Some None) is value does h spot found = absurd (none-some spot (ap (value_or None) (sym is ∙ found)))
  own_last E (Some (Some own)) is value does h spot found = subst (λ (s : SpotOf). Outlasts s c.now)
      (ap (λ (o : Option (Option SpotOf)). found_spot o own) (sym is ∙ found)) (does.lasts h)

  -- If the message files below `k` were flushed, and then the message file `k`, `FlushedTo` holds of the message files
  -- below `next`. `next` is at most `k + 1`.
  pub flushed_next : (E : Type 0) (next : ℕ) (value : Unit {0}) (found : Option (Option SpotOf)) →
      slice_get spots k ≡ found → next ≤ suc k → FlushedTo spots k a b →
      DoesAt (λ spot. FlushesClaim {E = E} spot b (Ok value) c) (DoesNothing {E = E} b (Ok value) c) found →
      FlushedTo spots next a c
  flushed_next E next value found is most before does = record {
    correct = flush_correct E b c (Ok value) found does ∙ before.correct;
    lasts = λ h number spot lt at_message_file. ⊎_elim
        (λ same. own_last E found is value does h spot (ap (slice_get spots) (sym same) ∙ at_message_file))
        (λ less. before_last E found is value before does h number spot less at_message_file)
        (below_next k number (omega (arith, lt, most)));
  }

-- If there is an element at `k` in `xs`, `k` is below the length of `xs`.
pub got_below : {A : Type 0} (xs : List A) (k : ℕ) (x : A) → slice_get xs k ≡ Some x → k < length xs
got_below [] k x is = absurd (none-some x is)
got_below (y ∷ xs) zero x is = omega (arith)
got_below (y ∷ xs) (suc k) x is = omega (arith, got_below xs k x is)
