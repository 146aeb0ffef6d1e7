-- Proves that a responder's work can be done on its day, and that it agrees with the turn on that day.
use Rattle.std.proofs.Common.{rules, ◌≡◌, ℕ, Bool, true, false, Some, None, [], ◌∷◌, ap, sym, ◌∙◌}
use Rattle.std.specs.Prelude.{◌&&◌, ◌||◌, filter, nat_lt, length, if◌then◌else◌}
use Rattle.std.specs.Result.{is_ok}
use Rattle.ill_values.specs.Day.{Date}
use Rattle.ill_core.specs.declared.state.State.{State}
use Rattle.ill_core.specs.declared.responder.Deed.{Deed}
use Rattle.ill_core.specs.declared.responder.Deed.TheVariants as deeds
use Rattle.ill_core.specs.declared.turn.Turn.TheVariants.{Mine}
use Rattle.ill_core.specs.declared.verb.Verb.{Verb}
use Rattle.ill_core.specs.declared.verb.Verb.TheVariants as verbs
use Rattle.ill_core.specs.Dates.{is_after_due}
use Rattle.ill_core.specs.State.{is_among}
use Rattle.ill_core.specs.Responder.{ResponderRecord, later, due_of}
use Rattle.ill_core.specs.ResponderActions.{acts, expiry_of}
use Rattle.ill_core.specs.Verbs.{is_verb_among, is_now, responder_verbs, responder_verbs_in, responder_turn_in, deed_verb}
use Rattle.ill_record.specs.declared.side.Side.TheVariants as sides
use Rattle.ill_words.specs.Possible.{is_allowed}
use Rattle.ill_words.specs.Waiting.{is_turn}
use Rattle.ill_work.specs.declared.dates.Dates.{Dates}
use Rattle.ill_work.specs.declared.work.Work.TheVariants as kinds
use Rattle.ill_work.specs.Dates.{may_name_due}
use Rattle.ill_work.specs.Work.{work_verbs, wants_a_hand, is_work_among}
use Rattle.ill_work.specs.Table.{responder_work_in, responder_work, dates_on, no_date_presses}

-- A responder is in the state `s`. `received` says that it has the received mark, and `on` how its dates stand to the
-- day.
module _ (s : State) (received : Bool) (on : Dates) where
  -- Each verb of the work is one of the responder's verbs in this state.
  verbs_do : (verb : Verb) → is_verb_among (work_verbs (responder_work_in s received on)) verb ≡ true
      → is_verb_among (responder_verbs_in s) verb ≡ true
  verbs_do verb is = search rules

  -- An Overdue is work only if the item is overdue.
  is_overdue_for : is_verb_among (work_verbs (responder_work_in s received on)) verbs.Overdue ≡ true → on.is_overdue ≡ true
  is_overdue_for is = search rules

  -- An Expire is work only if the request has expired.
  has_expired_for : is_verb_among (work_verbs (responder_work_in s received on)) verbs.Expire ≡ true → on.has_expired ≡ true
  has_expired_for is = search rules

  -- Let `past` say that the deadline is past: the due date in SHIPPED or later, and else the expiry date. Then the turn
  -- is the responder's if, and only if, its work wants a hand. No work of a responder is `WithReader`.
  pub turn_alike : (past : Bool) → (is_among later s ≡ true → past ≡ on.is_overdue)
      → (is_among later s ≡ false → past ≡ on.has_expired)
      → is_turn Mine (if past && nat_lt 0 (length (responder_verbs_in s)) then Mine else responder_turn_in s)
      ≡ (wants_a_hand (responder_work_in s received on)
      || is_work_among (kinds.WithReader ∷ []) (responder_work_in s received on))
  turn_alike past at_due at_expiry = search rules

-- Each verb of a responder's work in the state `s` is possible on the day `today`. `received` says that it has the
-- received mark.
pub is_possible : (y : ResponderRecord) (s : State) (received : Bool) (today : Date) (ahead : ℕ) (verb : Verb)
    → is_verb_among (work_verbs (responder_work_in s received (dates_on today ahead (sides.Responder y)))) verb ≡ true
    → is_verb_among (filter (is_allowed (Some today) (sides.Responder y)) (responder_verbs_in s)) verb ≡ true
is_possible y s received today ahead verb is = search rules

-- If no date presses, each verb of a responder's work in the state `s` is possible on some day. `received` says that it
-- has the received mark.
pub is_possible_some_day : (y : ResponderRecord) (s : State) (received : Bool) (verb : Verb)
    → is_verb_among (work_verbs (responder_work_in s received no_date_presses)) verb ≡ true
    → is_verb_among (filter (is_allowed None (sides.Responder y)) (responder_verbs_in s)) verb ≡ true
is_possible_some_day y s received verb is = search rules

-- Let a deed not be refused as `NotNow`, and a number be left. Let the date of an Overdue or an Expire be past. Then
-- the deed is done if, and only if, it may name its due date.
deed_done : (y : ResponderRecord) (deed : Deed) (today : Date) → is_now (acts y deed today) ≡ true
    → nat_lt (length y.issued) 255 ≡ true
    → (deed_verb deed ≡ verbs.Overdue → is_after_due today (due_of y) ≡ true)
    → (deed_verb deed ≡ verbs.Expire → is_after_due today (expiry_of y.request) ≡ true)
    → is_ok (acts y deed today) ≡ may_name_due today y deed
deed_done y (deeds.Answer answer) today is few overdue expired = search rules
deed_done y (deeds.CancelReply is_yes) today is few overdue expired = search rules
deed_done y (deeds.Ship due) today is few overdue expired = search rules
deed_done y (deeds.RenewAnswer None) today is few overdue expired = search rules
deed_done y (deeds.RenewAnswer (Some due)) today is few overdue expired = search rules
deed_done y deeds.Overdue today is few overdue expired = search rules
deed_done y deeds.Recall today is few overdue expired = search rules
deed_done y deeds.CheckIn today is few overdue expired = search rules
deed_done y deeds.Expire today is few overdue expired = search rules

-- Let the verbs of responder `y` be exact, and a number be left. Then a deed of its work is done if, and only if, it
-- may name its due date.
pub work_done : (today : Date) (ahead : ℕ) (y : ResponderRecord) (deed : Deed)
    → is_verb_among (responder_verbs y) (deed_verb deed) ≡ is_now (acts y deed today)
    → is_verb_among (work_verbs (responder_work y (dates_on today ahead (sides.Responder y)))) (deed_verb deed) ≡ true
    → nat_lt (length y.issued) 255 ≡ true → is_ok (acts y deed today) ≡ may_name_due today y deed
work_done today ahead y deed exact is few =
    let on = dates_on today ahead (sides.Responder y) in
    let verbs_are = work_verbs (responder_work y on) in
    deed_done y deed today (sym exact ∙ verbs_do y.state y.received on (deed_verb deed) is) few
    (λ same. is_overdue_for y.state y.received on (ap (is_verb_among verbs_are) (sym same) ∙ is))
    (λ same. has_expired_for y.state y.received on (ap (is_verb_among verbs_are) (sym same) ∙ is))
