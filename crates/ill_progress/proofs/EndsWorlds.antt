-- In a world an act towards the end, and a night after it, leave fewer acts to the end. So the loan can be ended.
use Rattle.std.proofs.Common.{arith, ◌≡◌, ◌⊎◌, inl, inr, ℕ, zero, suc, ◌+◌, ◌≤◌, ◌<◌, Bool, true, false, [], ◌∷◌, length}
use Rattle.std.proofs.Common.{Result, Ok, Err, refl, sym, ap, ◌∙◌, subst}
use Rattle.std.specs.Prelude.{IsOk}
use Rattle.ill_values.specs.Day.{Date}
use Rattle.ill_values.specs.TxnId.{Qualifiers}
use Rattle.ill_core.specs.declared.refusal.Refusal.{Refusal}
use Rattle.ill_core.specs.declared.turn.Turn.{Turn}
use Rattle.ill_core.specs.declared.turn.Turn.TheVariants.{Over}
use Rattle.ill_core.specs.declared.requester.Wish.{Wish}
use Rattle.ill_core.specs.declared.responder.Deed.{Deed}
use Rattle.ill_core.specs.Requester.{RequesterRecord}
use Rattle.ill_core.specs.RequesterActions as requester_actions
use Rattle.ill_core.specs.Responder.{ResponderRecord}
use Rattle.ill_core.specs.ResponderActions as responder_actions
use Rattle.ill_core.specs.Verbs.{requester_turn}
use Rattle.ill_record.specs.declared.role.Role.TheVariants as who
use Rattle.ill_record.specs.declared.side.Action.TheVariants as actions
use Rattle.ill_record.specs.declared.side.Side.{Side}
use Rattle.ill_record.specs.declared.side.Side.TheVariants as sides
use Rattle.ill_record.specs.Side.{issued_of, acts, done_by}
use Rattle.ill_words.specs.declared.outcome.Outcome.TheVariants.{Done}
use Rattle.ill_words.specs.Sending.{is_nobodys, is_over}
use Rattle.ill_world.specs.declared.event.Event.{Event}
use Rattle.ill_world.specs.declared.event.Event.TheVariants as events
use Rattle.ill_world.specs.World.{Party, Parties, decides, happens, run_of}
use Rattle.ill_world.specs.Agreement.{Facing}
use Rattle.ill_world.specs.Invariant.{Invariant}
use Rattle.ill_world.specs.Round.{HaveConverged, AreConverged, CanAnswer, round_of}
use Rattle.ill_world.specs.Night.{AtRest, AreAtRest, AreConvergedOrAtRest, night_of}
use Rattle.ill_world.proofs.Claims.{live_issues}
use Rattle.ill_world.proofs.Runs.{run_stands}
use Rattle.ill_progress.specs.Ends.{is_wish_to_end, is_deed_to_end, is_act_to_end, acts_to_end, side_acts_to_end, acts_left}
use Rattle.ill_progress.specs.Ends.{after_day, CanEnd, HasNumbers}
use Rattle.ill_progress.proofs.EndsActs.{CanWish, CanDo}
use Rattle.ill_progress.proofs.EndsDays.{OneEach, Settled, SidesCount, wish_sides, deed_sides, deed_can}
use Rattle.ill_progress.proofs.EndsNights.{RowsKeep, SideKept, side_kept, Heard, night_heard}
use Rattle.ill_progress.proofs.EndsNumbers.{responder_few}
use Rattle.ill_progress.proofs.EndsRecords.{none_left_at_the_end}

-- ---- a decision that was done

-- A decision with the outcome `Done` has led the live side to the result.
decided : (p : Party) (r : Result Side Refusal) → (decides p r).0 ≡ Done → (new : Side) × (r ≡ Ok new)
    × ((decides p r).1.live ≡ new)
decided p (Ok new) is = (new, refl, refl)
decided p (Err refusal) is = absurd cc

-- A decision that has a result has the outcome `Done`.
done_is : (p : Party) (r : Result Side Refusal) → IsOk r → (decides p r).0 ≡ Done
done_is p (Ok new) is = refl
done_is p (Err refusal) is = absurd cc

-- If the result `r` of a record is Ok, the result of its side is Ok.
side_does : {R : Type 0} (make : R → Side) (r : Result R Refusal) → IsOk r → IsOk (done_by make r)
side_does make (Ok new) is = refl
side_does make (Err refusal) is = absurd cc

-- ---- a day

-- `Day w new`: a day has led `w` to `new`. In `new` both sides are converged or at rest. `SidesCount` holds, so fewer
-- acts are left.
abbrev pub Day : Parties → Parties → Type 0
Day w new = AreConvergedOrAtRest new × SidesCount w.requester.live w.responder.live new.requester.live new.responder.live

-- These facts are assumed here. Each event keeps the invariant. A night brings both sides to convergence or to rest,
-- and is a round or two saves.
pub record Nights (txn : Qualifiers) : Type 0 where
  -- Each event keeps the invariant.
  pub after : (w : Parties) (event : Event) → Invariant txn w → Invariant txn (happens w event).1
  -- If the responder can answer a Conditional-Reply no, a night brings both sides to convergence, or to rest.
  pub settles : (w : Parties) → Invariant txn w → CanAnswer w.responder.live → AreConvergedOrAtRest (run_of w (night_of w))
  -- If the loan is open for the requester, a night is a round.
  pub rounds : (w : Parties) → Invariant txn w → is_over w.requester.live ≡ false → night_of w ≡ round_of w
  -- If the loan is over for the requester, a night is a save of each side.
  pub saves : (w : Parties) → Invariant txn w → is_over w.requester.live ≡ true
      → night_of w ≡ events.Save who.Requester ∷ events.Save who.Responder ∷ []

module _ (txn : Qualifiers) (one : OneEach) (keep : RowsKeep) (nights : Nights txn) where
  -- In a night each side takes messages of the other.
  heard : (w : Parties) → Invariant txn w → Heard w (run_of w (night_of w))
  heard w stands = night_heard txn nights.after w stands (nights.rounds w stands) (nights.saves w stands)

  -- The requester's live side satisfies `SideKept` after a night.
  requester_kept : (w : Parties) → Invariant txn w → SideKept w.requester.live (run_of w (night_of w)).requester.live
  requester_kept w stands =
      subst (SideKept w.requester.live) (sym (heard w stands).requester)
      (side_kept keep w.requester.live (heard w stands).to_requester)

  -- The responder's live side satisfies `SideKept` after a night.
  responder_kept : (w : Parties) → Invariant txn w → SideKept w.responder.live (run_of w (night_of w)).responder.live
  responder_kept w stands =
      subst (SideKept w.responder.live) (sym (heard w stands).responder)
      (side_kept keep w.responder.live (heard w stands).to_responder)

  -- If a wish towards the end is done, and a night follows, `Day` holds of the worlds before and after.
  wish_day : (w : Parties) (wish : Wish) → Invariant txn w → CanAnswer w.responder.live → is_wish_to_end wish ≡ true
      → (happens w (events.Wish wish)).0 ≡ Done → Day w (after_day w (events.Wish wish))
  wish_day w wish stands can ends done =
      let acted : Parties = (happens w (events.Wish wish)).1 in
      let new : Parties = after_day w (events.Wish wish) in
      let stands_acted : Invariant txn acted = nights.after w (events.Wish wish) stands in
      let stands_new : Invariant txn new = run_stands txn nights.after acted (night_of acted) stands_acted in
      let settled : AreConvergedOrAtRest new = nights.settles acted stands_acted can in
      let is = decided w.requester (acts w.requester.live (actions.Wish wish)) done in (
        settled,
        wish_sides one txn w.requester.live is.0 new.requester.live w.responder.live new.responder.live w.responder.sent
            w.requester.sent new.responder.sent new.requester.sent wish ends is.1
            (subst (λ s. SideKept s new.requester.live) is.2 (requester_kept acted stands_acted))
            (responder_kept acted stands_acted) stands.requester.live stands.responder.live stands_new.requester.live
            stands_new.responder.live settled,
      )

  -- If a deed towards the end is done, and a night follows, `Day` holds of the worlds before and after.
  deed_day : (w : Parties) (deed : Deed) (today : Date) → Invariant txn w → AreConverged w → is_deed_to_end deed ≡ true
      → (happens w (events.Deed deed today)).0 ≡ Done → Day w (after_day w (events.Deed deed today))
  deed_day w deed today stands step ends done =
      let acted : Parties = (happens w (events.Deed deed today)).1 in
      let new : Parties = after_day w (events.Deed deed today) in
      let stands_acted : Invariant txn acted = nights.after w (events.Deed deed today) stands in
      let stands_new : Invariant txn new = run_stands txn nights.after acted (night_of acted) stands_acted in
      let is = decided w.responder (acts w.responder.live (actions.Deed deed today)) done in
      let can : CanAnswer acted.responder.live =
      deed_can txn w.responder.live acted.responder.live w.requester.sent acted.requester.sent deed today ends
      (is.1 ∙ ap Ok (sym is.2)) stands.responder.live stands_acted.responder.live in
      let settled : AreConvergedOrAtRest new = nights.settles acted stands_acted can in (
        settled,
        deed_sides one txn w.requester.live new.requester.live w.responder.live is.0 new.responder.live w.responder.sent
            w.requester.sent new.responder.sent new.requester.sent deed today ends is.1
            (requester_kept acted stands_acted)
            (subst (λ s. SideKept s new.responder.live) is.2 (responder_kept acted stands_acted)) stands.requester.live
            stands.responder.live stands_new.requester.live stands_new.responder.live
            (live_issues w.responder stands.responder.saved) (live_issues w.requester stands.requester.saved)
            (live_issues new.responder stands_new.responder.saved) (live_issues new.requester stands_new.requester.saved)
            step settled,
      )

  -- If an act towards the end is done, and a night follows, `Day` holds of the worlds before and after. The act is a
  -- wish or a deed.
  pub act_day : (w : Parties) (act : Event) → Invariant txn w → AreConverged w → CanAnswer w.responder.live
      → is_act_to_end act ≡ true → (happens w act).0 ≡ Done → Day w (after_day w act)
  act_day w (events.Wish wish) stands step can ends done = wish_day w wish stands can ends done
  act_day w (events.Deed deed today) stands step can ends done = deed_day w deed today stands step ends done
  act_day w (events.Save of) stands step can ends done = absurd cc
  act_day w (events.SaveFault of committed) stands step can ends done = absurd cc
  act_day w (events.Send of n) stands step can ends done = absurd cc
  act_day w (events.Deliver of n) stands step can ends done = absurd cc
  act_day w (events.Noise of bytes) stands step can ends done = absurd cc
  act_day w (events.Restart of) stands step can ends done = absurd cc

-- ---- a loan that is not over for the requester, and who can act

-- If two sides are at rest, the loan is over for the requester's.
rest_over : (requester responder : Side) → Facing AtRest requester responder → is_over requester ≡ true
rest_over (sides.Requester x) (sides.Responder y) rest = rest.requester
rest_over (sides.Responder z) responder rest = absurd rest
rest_over (sides.Requester x) (sides.Requester z) rest = absurd rest

-- If the loan is not over for the requester, both sides are converged.
open_converged : (requester responder : Side) → Settled requester responder → is_over requester ≡ false
    → Facing HaveConverged requester responder
open_converged requester responder (inl step) is_open = step
open_converged requester responder (inr rest) is_open =
    let both : true ≡ false = sym (rest_over requester responder rest) ∙ is_open in absurd cc

-- If the turn is not nobody's, the loan is not over.
not_over : (turn : Turn) → is_nobodys turn ≡ false → turn ≡ Over → ⊥
not_over turn is_open over = let both : true ≡ false = sym (ap is_nobodys over) ∙ is_open in absurd cc

-- If the loan is not over for the requester, and both sides are converged, some act is left.
some_left : (requester responder : Side) → Facing HaveConverged requester responder → is_over requester ≡ false
    → 0 < side_acts_to_end requester
some_left (sides.Requester x) responder step is_open = go (acts_to_end x) refl
  where
    -- If no act were left, the loan would be over.
    go : (n : ℕ) → acts_to_end x ≡ n → 0 < acts_to_end x
    go zero none = absurd (not_over (requester_turn x) is_open ((none_left_at_the_end x).0 none))
    go (suc n) some = omega (arith, some)
some_left (sides.Responder z) responder step is_open = absurd step

-- One of both sides can act towards the end.
abbrev pub SideCanAct : Side → Side → Type 0
SideCanAct requester responder =
    ((wish : Wish) × (is_wish_to_end wish ≡ true) × IsOk (acts requester (actions.Wish wish)))
    ⊎ ((deed : Deed) × (is_deed_to_end deed ≡ true) × ((today : Date) → IsOk (acts responder (actions.Deed deed today))))

-- This law is assumed here: of two converged records one can act towards the end. The loan is not over for the
-- requester, and each has a number left.
abbrev pub OneCanAct : Type 0
OneCanAct = (x : RequesterRecord) (y : ResponderRecord) → HaveConverged x y → (requester_turn x ≡ Over → ⊥)
    → length x.issued < 255
    → length y.issued < 255 → CanWish x ⊎ CanDo y

-- If both sides are converged, and the loan is not over, one of them can act towards the end. Each has a number left.
one_side_acts : OneCanAct → (requester responder : Side) → Facing HaveConverged requester responder → is_over requester ≡ false
    → length (issued_of requester) < 255 → length (issued_of responder) < 255 → SideCanAct requester responder
one_side_acts can (sides.Requester x) (sides.Responder y) step is_open asking lending =
    elim (can x y step (not_over (requester_turn x) is_open) asking lending) [
      | inl (wish, ends, is) ↦ inl (wish, ends, side_does sides.Requester (requester_actions.acts x wish) is)
      | inr (deed, ends, is) ↦
          inr (deed, ends, λ today. side_does sides.Responder (responder_actions.acts y deed today) (is today))
    ]
one_side_acts can (sides.Responder z) responder step is_open asking lending = absurd step
one_side_acts can (sides.Requester x) (sides.Requester z) step is_open asking lending = absurd step

-- ---- the end of a loan

-- If the responder's side has numbers for the acts left before a day, it has enough for those left after.
numbers_lent : (requester responder after answered : Side) → SidesCount requester responder after answered
    → HasNumbers (side_acts_to_end requester) responder → length (issued_of answered) ≤ 255
    → HasNumbers (side_acts_to_end after) answered
numbers_lent requester responder after answered counts has few = go counts.lent
  where
    -- If no act is left, no number is needed.
    go : (side_acts_to_end after + length (issued_of answered)
        ≤ side_acts_to_end requester + length (issued_of responder)) ⊎ (side_acts_to_end after ≡ 0)
        → HasNumbers (side_acts_to_end after) answered
    go (inl most) = omega (arith, most, has)
    go (inr none) = omega (arith, none, few)

-- Premises: one of two converged sides can act (`can_act`). A loan over for the requester is at rest (`rests`).
module _ (txn : Qualifiers) (one : OneEach) (keep : RowsKeep) (nights : Nights txn) (can_act : OneCanAct)
    (rests : (w : Parties) → Invariant txn w → is_over w.requester.live ≡ true → AreAtRest w) where
  -- The loan can be ended from `w` in `days` days. Premises: the invariant, and sides that are converged or at rest. At
  -- most `days` acts are left, and both sides have numbers for them.
  abbrev CanEndFrom : ℕ → Parties → Type 0
  CanEndFrom days w = Invariant txn w → AreConvergedOrAtRest w → acts_left w ≤ days → HasNumbers (acts_left w) w.requester.live
      → HasNumbers (acts_left w) w.responder.live → CanEnd days w

  -- After a day with `act` the loan can be ended in `days` days, if `CanEndFrom days` holds of each world (`next`).
  after_act : (days : ℕ) → ((new : Parties) → CanEndFrom days new) → (w : Parties) (act : Event) → Invariant txn w
      → AreConverged w
      → acts_left w ≤ suc days → 0 < acts_left w → HasNumbers (acts_left w) w.requester.live
      → HasNumbers (acts_left w) w.responder.live → is_act_to_end act ≡ true → (happens w act).0 ≡ Done
      → CanEnd days (after_day w act)
  after_act days next w act stands step few some asking lending ends done =
      let new : Parties = after_day w act in
      let day : Day w new = act_day txn one keep nights w act stands step (inr (omega (arith, some, lending))) ends done in
      let stands_new : Invariant txn new =
      run_stands txn nights.after (happens w act).1 (night_of (happens w act).1) (nights.after w act stands) in
      next new stands_new day.0 (omega (arith, few, day.1.fewer)) (omega (arith, day.1.asked, asking))
      (numbers_lent w.requester.live w.responder.live new.requester.live new.responder.live day.1 lending
      (responder_few txn new.responder.live new.requester.sent stands_new.responder.live))

  -- If `CanEndFrom` holds of `days` days and each world (`next`), it holds of one day more.
  one_more : (days : ℕ) → ((new : Parties) → CanEndFrom days new) → (w : Parties) → CanEndFrom (suc days) w
  unfolding CanEnd
  one_more days next w stands settled few asking lending = go (is_over w.requester.live) refl
    where
      -- If the loan is over, both sides are at rest. If not, one side acts, and a night follows.
      go : (over : Bool) → is_over w.requester.live ≡ over → CanEnd (suc days) w
      go true over = inl (rests w stands over)
      go false is_open =
          let step : AreConverged w = open_converged w.requester.live w.responder.live settled is_open in
          let some = some_left w.requester.live w.responder.live step is_open in
          elim (one_side_acts can_act w.requester.live w.responder.live step is_open (omega (arith, some, asking))
          (omega (arith, some, lending))) [
            | inl (wish, ends, is) ↦
                let done = done_is w.requester (acts w.requester.live (actions.Wish wish)) is in
                inr (
                  λ today. events.Wish wish,
                  λ today.
                      (ends, done, after_act days next w (events.Wish wish) stands step few some asking lending ends done),
                )
            | inr (deed, ends, is) ↦
                inr (
                  λ today. events.Deed deed today,
                  λ today.
                      let done = done_is w.responder (acts w.responder.live (actions.Deed deed today)) (is today) in
                      (ends, done, after_act days next w (events.Deed deed today) stands step few some asking lending ends done),
                )
          ]

  -- `CanEndFrom` holds of 0 days: if no act is left, both sides are at rest.
  none_more : (w : Parties) → CanEndFrom zero w
  unfolding CanEnd
  none_more w stands settled few asking lending = go (is_over w.requester.live) refl
    where
      -- If the loan were open, some act would be left.
      go : (over : Bool) → is_over w.requester.live ≡ over → AreAtRest w
      go true over = rests w stands over
      go false is_open =
          absurd (omega (
            arith,
            few,
            some_left w.requester.live w.responder.live
                (open_converged w.requester.live w.responder.live settled is_open) is_open,
          ))

  -- `CanEndFrom` holds of all `days` and each world, by induction on `days`.
  pub can_end : (days : ℕ) (w : Parties) → CanEndFrom days w
  can_end zero w = none_more w
  can_end (suc days) w = one_more days (can_end days) w
