-- Proves which two sides a night in which people act leads to, and that these are converged or at rest.
use Rattle.std.proofs.Common.{◌≡◌, Bool, true, false, List, [], ◌∷◌, ◌++◌, map, Result, Ok, Err}
use Rattle.std.proofs.Common.{if◌then◌else◌, refl, sym, ap, ◌∙◌, subst}
use Rattle.std.specs.List.{list_all}
use Rattle.ill_values.specs.Day.{Date}
use Rattle.ill_values.specs.TxnId.{Qualifiers}
use Rattle.ill_values.specs.declared.apdu.Apdu.{Apdu}
use Rattle.ill_core.specs.declared.refusal.Refusal.{Refusal}
use Rattle.ill_core.specs.declared.responder.Deed.{Deed}
use Rattle.ill_record.specs.declared.role.Role.TheVariants as who
use Rattle.ill_record.specs.declared.side.Side.{Side}
use Rattle.ill_record.specs.declared.side.Action.TheVariants as actions
use Rattle.ill_record.specs.Side.{issued_of, acts, takes}
use Rattle.ill_words.specs.Sending.{wants_sending}
use Rattle.ill_world.specs.declared.event.Event.{Event}
use Rattle.ill_world.specs.declared.event.Event.TheVariants as events
use Rattle.ill_world.specs.World.{Party, Parties, decides, happens, run_by, run_of}
use Rattle.ill_world.specs.Invariant.{Invariant}
use Rattle.ill_world.specs.Round.{CanAnswer}
use Rattle.ill_world.specs.Night.{asks, half_if, AreConvergedOrAtRest}
use Rattle.ill_world.proofs.Rounds.{takes_all, half_passes}
use Rattle.ill_world.proofs.Runs.{run_both, run_one, run_stands}
use Rattle.ill_progress.specs.NightWithPeople.{is_by_responder, asked_and_worked, answering_half, worked_night_of}
use Rattle.ill_progress.proofs.EndsNumbers.{requester_few, responder_few}
use Rattle.ill_nights.specs.Messages.{ConvergedOrAtRest, after_deeds_of, after_messages, decided, sent_by}

-- ---- deeds, one after another

-- A decision of a party leads its live side to `decided`.
pub decides_so : (p : Party) (result : Result Side Refusal) → (decides p result).1.live ≡ decided p.live result
decides_so p (Ok new) = refl
decides_so p (Err refusal) = refl

-- Deeds and then `more` lead to the side to which `more` lead after the deeds.
pub deeds_join : (side : Side) (deeds more : List (Deed × Date))
    → after_deeds_of side (deeds ++ more) ≡ after_deeds_of (after_deeds_of side deeds) more
unfolding after_deeds_of
deeds_join side [] more = refl
deeds_join side (deed ∷ deeds) more = deeds_join (decided side (acts side (actions.Deed deed.0 deed.1))) deeds more

-- Messages and then `more` lead to the side to which `more` lead after the messages.
pub takes_join : (side : Side) (apdus more : List Apdu) → takes_all side (apdus ++ more) ≡ takes_all (takes_all side apdus) more
unfolding takes_all
takes_join side [] more = refl
takes_join side (a ∷ apdus) more = takes_join (takes side a).1 apdus more

-- `takes_all` and `after_messages` give the same side.
pub takes_messages : (side : Side) (apdus : List Apdu) → takes_all side apdus ≡ after_messages side apdus
unfolding takes_all
takes_messages side [] = refl
takes_messages side (a ∷ apdus) = takes_messages (takes side a).1 apdus

-- Returns the event of a deed on its day.
abbrev event_of : Deed × Date → Event
event_of deed = events.Deed deed.0 deed.1

-- The events of deeds are events of people at the responder's library.
deeds_are_by : (deeds : List (Deed × Date)) → list_all is_by_responder (map event_of deeds) ≡ true
deeds_are_by [] = refl
deeds_are_by (deed ∷ deeds) = deeds_are_by deeds

-- The events of deeds lead the responder's live side on, and leave the requester's.
deeds_run : (w : Parties) (deeds : List (Deed × Date)) → let new = run_of w (map event_of deeds) in
    (new.requester.live ≡ w.requester.live) × (new.responder.live ≡ after_deeds_of w.responder.live deeds)
unfolding run_by after_deeds_of
deeds_run w [] = (refl, refl)
deeds_run w (deed ∷ deeds) =
    let next : Parties = (happens w (event_of deed)).1 in
    let rest = deeds_run next deeds in (
      rest.0,
      rest.1 ∙ ap (λ side. after_deeds_of side deeds)
          (decides_so w.responder (acts w.responder.live (actions.Deed deed.0 deed.1))),
    )

-- ---- the halves of a night

module _ (txn : Qualifiers) (after : (w : Parties) (event : Event) → Invariant txn w → Invariant txn (happens w event).1) where
  -- The requester's half leads the responder on by all messages of the requester, or by none.
  asking_leads : (wants : Bool) (w : Parties) → Invariant txn w → let new = run_of w (half_if wants who.Requester w) in
      (new.requester.live ≡ w.requester.live)
      × (new.responder.live ≡ takes_all w.responder.live (if wants then issued_of w.requester.live else []))
  unfolding run_by takes_all
  asking_leads true w stands =
      let passed = half_passes who.Requester w
      (requester_few txn w.requester.live w.responder.sent stands.requester.live) stands.requester.saved.places in
      (passed.live, passed.taken)
  asking_leads false w stands = (refl, refl)

  -- The responder's half leads the requester on by all messages of the responder, or by none.
  answering_leads : (wants : Bool) (w : Parties) → Invariant txn w → let new = run_of w (half_if wants who.Responder w) in
      (new.responder.live ≡ w.responder.live)
      × (new.requester.live ≡ takes_all w.requester.live (if wants then issued_of w.responder.live else []))
  unfolding run_by takes_all
  answering_leads true w stands =
      let passed = half_passes who.Responder w
      (responder_few txn w.responder.live w.requester.sent stands.responder.live) stands.responder.saved.places in
      (passed.live, passed.taken)
  answering_leads false w stands = (refl, refl)

  -- A save of the responder and then events lead to the world after these events.
  saved_then : (w : Parties) (people : List Event)
      → run_of w (events.Save who.Responder ∷ people) ≡ run_of (happens w (events.Save who.Responder)).1 people
  unfolding run_by
  saved_then w people = refl

  module _ (w : Parties) (stands : Invariant txn w) (deeds : List (Deed × Date)) where
    -- The deeds of the night, as events.
    abbrev people : List Event
    people = map event_of deeds

    -- The responder's side before its half.
    abbrev answers : Side
    answers = after_deeds_of (takes_all w.responder.live (sent_by false w.requester.live)) deeds

    -- The world in which the responder's half begins.
    abbrev now : Parties
    now = run_of w (asked_and_worked people w)

    -- The world after the night.
    abbrev morning : Parties
    morning = run_of w (worked_night_of people w)

    -- When the responder's half begins, the responder has taken the requester's messages and done its deeds.
    now_is : (now.requester.live ≡ w.requester.live) × (now.responder.live ≡ answers)
    now_is =
        let half : List Event = half_if (wants_sending false w.requester.live) who.Requester w in
        let asked : Parties = run_of w half in
        let first = asking_leads (wants_sending false w.requester.live) w stands in
        let done = deeds_run (happens asked (events.Save who.Responder)).1 deeds in
        let whole : now ≡ run_of (happens asked (events.Save who.Responder)).1 people =
        run_both happens w half (events.Save who.Responder ∷ people) ∙ saved_then asked people in (
          ap (λ (v : Parties). v.requester.live) whole ∙ done.0 ∙ first.0,
          ap (λ (v : Parties). v.responder.live) whole ∙ done.1 ∙ ap (λ side. after_deeds_of side deeds) first.1,
        )

    -- After the night the requester has taken the responder's messages.
    morning_is : (morning.requester.live ≡ takes_all w.requester.live (sent_by (asks w.requester.live) answers))
        × (morning.responder.live ≡ answers)
    morning_is =
        let wants : Bool = wants_sending (asks w.requester.live) now.responder.live in
        let answered : Parties = run_of now (half_if wants who.Responder now) in
        let second = answering_leads wants now (run_stands txn after w (asked_and_worked people w) stands) in
        let whole : morning ≡ (happens answered (events.Save who.Requester)).1 =
        run_both happens w (asked_and_worked people w) (answering_half (asks w.requester.live) now)
        ∙ run_both happens now (half_if wants who.Responder now) (events.Save who.Requester ∷ [])
        ∙ run_one happens answered (events.Save who.Requester) in (
          ap (λ (v : Parties). v.requester.live) whole ∙ second.1
              ∙ ap (λ side. takes_all side (sent_by (asks w.requester.live) now.responder.live)) now_is.0
              ∙ ap (λ side. takes_all w.requester.live (sent_by (asks w.requester.live) side)) now_is.1,
          ap (λ (v : Parties). v.responder.live) whole ∙ second.0 ∙ now_is.1,
        )

    -- If a night with any deeds of people is enough (first premise), this one is. So the sides of `morning_is` are
    -- converged or at rest.
    pub sides_converged : ((people : List Event) → list_all is_by_responder people ≡ true
        → CanAnswer (run_of w (asked_and_worked people w)).responder.live
        → AreConvergedOrAtRest (run_of w (worked_night_of people w))) → CanAnswer answers
        → ConvergedOrAtRest (takes_all w.requester.live (sent_by (asks w.requester.live) answers)) answers
    sides_converged night can =
        subst (λ (s : Side). ConvergedOrAtRest s answers) morning_is.0
        (subst (λ (s : Side). ConvergedOrAtRest morning.requester.live s) morning_is.1
        (night people (deeds_are_by deeds) (subst CanAnswer (sym now_is.1) can)))
