-- Proves the laws of the work without a day. Its verbs are possible on some day, and it agrees with the turn. On each
-- day the work is at least as pressing.
use Rattle.std.proofs.Common.{rules, ◌≡◌, ◌≤◌, ℕ, true, false, None, [], ◌∷◌, refl}
use Rattle.std.specs.Prelude.{◌||◌}
use Rattle.ill_values.specs.Day.{Date}
use Rattle.ill_core.specs.declared.turn.Turn.TheVariants.{Mine}
use Rattle.ill_core.specs.declared.verb.Verb.{Verb}
use Rattle.ill_core.specs.Requester.{is_declined, is_received_by}
use Rattle.ill_core.specs.Verbs.{is_verb_among}
use Rattle.ill_record.specs.declared.side.Side.{Side}
use Rattle.ill_record.specs.declared.side.Side.TheVariants as sides
use Rattle.ill_record.specs.SideVerbs.{turn_of}
use Rattle.ill_words.specs.Possible.{possible_on}
use Rattle.ill_words.specs.Waiting.{is_turn}
use Rattle.ill_work.specs.declared.dates.Dates.{Dates}
use Rattle.ill_work.specs.declared.work.Work.TheVariants as kinds
use Rattle.ill_work.specs.Work.{wants_a_hand, is_work_among, work_verbs, urgency_of}
use Rattle.ill_work.specs.Table.{work_on, dates_on, no_date_presses}
use Rattle.ill_work.specs.Order.{urgency_on}
use Rattle.ill_work.proofs.RequesterWork as asking
use Rattle.ill_work.proofs.ResponderWork as lending
use Rattle.ill_work.proofs.WaitingLemmas.{AreLater, requester_waits, responder_waits}

-- Each verb of the work without a day is possible on some day.
pub is_possible : (ahead : ℕ) (side : Side) (verb : Verb) → is_verb_among (work_verbs (work_on None ahead side)) verb ≡ true
    → is_verb_among (possible_on None side) verb ≡ true
is_possible ahead (sides.Requester x) verb =
    asking.is_possible_some_day x.state (is_declined x) (is_received_by x) x.checked_in no_date_presses (sides.Requester x) verb
is_possible ahead (sides.Responder y) verb = lending.is_possible_some_day y y.state y.received verb

-- A side is in its own turn if, and only if, its work without a day wants a hand, or its item is with a reader.
pub agrees : (ahead : ℕ) (side : Side) → is_turn Mine (turn_of side)
    ≡ (wants_a_hand (work_on None ahead side) || is_work_among (kinds.WithReader ∷ []) (work_on None ahead side))
agrees ahead (sides.Requester x) =
    asking.turn_alike x.state (is_declined x) (is_received_by x) x.checked_in no_date_presses false (λ later. refl)
    (λ open_still. refl)
agrees ahead (sides.Responder y) =
    lending.turn_alike y.state y.received no_date_presses false (λ later. refl) (λ open_still. refl)

-- Without a day no date is past or soon. So each date that is past or soon without a day is so by `on`.
press_more : (on : Dates) → AreLater no_date_presses on
press_more on = record {
  expired = λ is. search (rules, is);
  overdue = λ is. search (rules, is);
  soon = λ is. search (rules, is);
}

-- On each day the work is at least as pressing as without a day.
pub least_pressing : (today : Date) (ahead : ℕ) (side : Side)
    → urgency_on today ahead side ≤ urgency_of (work_on None ahead side)
least_pressing today ahead (sides.Requester x) =
    let side = sides.Requester x in
    requester_waits x.state (is_declined x) (is_received_by x) x.checked_in no_date_presses (dates_on today ahead side)
    (press_more (dates_on today ahead side))
least_pressing today ahead (sides.Responder y) =
    let side = sides.Responder y in
    responder_waits y.state y.received no_date_presses (dates_on today ahead side) (press_more (dates_on today ahead side))
