-- Proves that the deadline of a consistent side is its due date in SHIPPED or later, and else its expiry date. So its
-- work agrees with the turn on each day.
use Rattle.std.proofs.Common.{rules, arith, ◌≡◌, ℕ, Bool, true, false, Option, None, Some, [], ◌∷◌, refl, ap, ◌∙◌}
use Rattle.std.specs.Prelude.{◌||◌, is_some, if◌then◌else◌}
use Rattle.std.specs.List.{last_or}
use Rattle.std.specs.Option.{option_or}
use Rattle.ill_values.specs.Day.{Date}
use Rattle.ill_core.specs.declared.turn.Turn.TheVariants.{Mine}
use Rattle.ill_core.specs.Dates.{is_after_due}
use Rattle.ill_core.specs.State.{is_among}
use Rattle.ill_core.specs.Requester.{RequesterRecord, is_declined, is_received_by}
use Rattle.ill_core.specs.RequesterRules.{RequesterRules}
use Rattle.ill_core.specs.Responder as responders
use Rattle.ill_core.specs.Responder.{ResponderRecord, due_of}
use Rattle.ill_core.specs.ResponderRules.{ResponderRules}
use Rattle.ill_core.proofs.ResponderLists.{due_there, no_grants}
use Rattle.ill_core.proofs.Rules.{requester_rules, responder_rules}
use Rattle.ill_record.specs.declared.side.Side.{Side}
use Rattle.ill_record.specs.declared.side.Side.TheVariants as sides
use Rattle.ill_record.specs.Side.{IsConsistent}
use Rattle.ill_words.specs.Waiting.{deadline_of, is_sooner, is_turn, turn_on}
use Rattle.ill_work.specs.declared.work.Work.TheVariants as kinds
use Rattle.ill_work.specs.Work.{wants_a_hand, is_work_among}
use Rattle.ill_work.specs.Table.{kind_of_work, dates_on}
use Rattle.ill_work.proofs.RequesterWork as asking
use Rattle.ill_work.proofs.ResponderWork as lending

-- If there is a due date, the deadline is past if, and only if, the due date is.
past_due : (today : Date) (due expiry : Option Date) → is_some due ≡ true
    → is_sooner (option_or due expiry) (Some today) ≡ is_after_due today due
past_due today None expiry there = search rules
past_due today (Some due) expiry there = refl

-- If there is no due date, the deadline is past if, and only if, the expiry date is.
past_expiry : (today : Date) (due expiry : Option Date) → is_some due ≡ false
    → is_sooner (option_or due expiry) (Some today) ≡ is_after_due today expiry
past_expiry today None None none = refl
past_expiry today None (Some expiry) none = refl
past_expiry today (Some due) expiry none = search rules

-- A responder has a due date exactly in SHIPPED or later.
due_fits : (y : ResponderRecord) → ResponderRules y → is_some (due_of y) ≡ is_among responders.later y.state
due_fits y h = go (is_among responders.later y.state) refl
  where
    -- By cases of `is_later`, which says if the state is SHIPPED or later.
    go : (is_later : Bool) → is_among responders.later y.state ≡ is_later → is_some (due_of y) ≡ is_later
    go true is =
        let counted = h.issued.shipped ∙ ap (λ b. if b then 1 else 0) is in
        due_there y.issued (omega (arith, counted))
    go false is =
        ap (λ dates. is_some (last_or None dates))
        (no_grants y.issued h.ships_first (h.issued.shipped ∙ ap (λ b. if b then 1 else 0) is))

-- On each day a requester has the turn if, and only if, its work wants a hand, or its item is with a reader.
requester_agrees : (today : Date) (ahead : ℕ) (x : RequesterRecord) → RequesterRules x
    → is_turn Mine (turn_on (Some today) (sides.Requester x))
    ≡ (wants_a_hand (kind_of_work today ahead (sides.Requester x))
    || is_work_among (kinds.WithReader ∷ []) (kind_of_work today ahead (sides.Requester x)))
requester_agrees today ahead x h =
    let side = sides.Requester x in
    asking.turn_alike x.state (is_declined x) (is_received_by x) x.checked_in (dates_on today ahead side)
    (is_sooner (deadline_of side) (Some today))
    (λ later. past_due today x.due _ (h.parts.due ∙ later))
    (λ open_still. past_expiry today x.due _ (h.parts.due ∙ open_still))

-- On each day a responder has the turn if, and only if, its work wants a hand. No work of a responder is `WithReader`.
responder_agrees : (today : Date) (ahead : ℕ) (y : ResponderRecord) → ResponderRules y
    → is_turn Mine (turn_on (Some today) (sides.Responder y))
    ≡ (wants_a_hand (kind_of_work today ahead (sides.Responder y))
    || is_work_among (kinds.WithReader ∷ []) (kind_of_work today ahead (sides.Responder y)))
responder_agrees today ahead y h =
    let side = sides.Responder y in
    lending.turn_alike y.state y.received (dates_on today ahead side)
    (is_sooner (deadline_of side) (Some today))
    (λ later. past_due today (due_of y) _ (due_fits y h ∙ later))
    (λ open_still. past_expiry today (due_of y) _ (due_fits y h ∙ open_still))

-- On each day a consistent side has the turn if, and only if, its work wants a hand, or its item is with a reader.
pub side_agrees : (today : Date) (ahead : ℕ) (side : Side) → IsConsistent side
    → is_turn Mine (turn_on (Some today) side)
    ≡ (wants_a_hand (kind_of_work today ahead side) || is_work_among (kinds.WithReader ∷ []) (kind_of_work today ahead side))
side_agrees today ahead (sides.Requester x) kept = requester_agrees today ahead x (requester_rules x kept)
side_agrees today ahead (sides.Responder y) kept = responder_agrees today ahead y (responder_rules y kept)
