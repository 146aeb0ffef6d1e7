-- Proves that a requester's work is possible on its day, and that it agrees with the turn on that day.
use Rattle.std.proofs.Common.{rules, ◌≡◌, Bool, true, false, Some, None, [], ◌∷◌}
use Rattle.std.specs.Prelude.{◌&&◌, ◌||◌, filter, nat_lt, length, if◌then◌else◌}
use Rattle.ill_values.specs.Day.{Date}
use Rattle.ill_core.specs.declared.state.State.{State}
use Rattle.ill_core.specs.declared.turn.Turn.TheVariants.{Mine}
use Rattle.ill_core.specs.declared.verb.Verb.{Verb}
use Rattle.ill_core.specs.State.{is_among}
use Rattle.ill_core.specs.Requester.{later}
use Rattle.ill_core.specs.Verbs.{is_verb_among, requester_verbs_in, requester_turn_in}
use Rattle.ill_record.specs.declared.side.Side.{Side}
use Rattle.ill_words.specs.Possible.{is_allowed}
use Rattle.ill_words.specs.Waiting.{is_turn}
use Rattle.ill_work.specs.declared.dates.Dates.{Dates}
use Rattle.ill_work.specs.declared.work.Work.TheVariants as kinds
use Rattle.ill_work.specs.Work.{work_verbs, wants_a_hand, is_work_among}
use Rattle.ill_work.specs.Table.{requester_work_in}

-- A requester is in the state `s`. The tests are those of `requester_work_in`, and `on` says how its dates stand to the
-- day.
module _ (s : State) (declined received checked_in : Bool) (on : Dates) where
  -- Each verb of the work is possible on each day.
  pub is_possible : (today : Date) (side : Side) (verb : Verb)
      → is_verb_among (work_verbs (requester_work_in s declined received checked_in on)) verb ≡ true
      → is_verb_among (filter (is_allowed (Some today) side) (requester_verbs_in s declined received)) verb ≡ true
  is_possible today side verb is = search rules

  -- Each verb of the work is possible on some day.
  pub is_possible_some_day : (side : Side) (verb : Verb)
      → is_verb_among (work_verbs (requester_work_in s declined received checked_in on)) verb ≡ true
      → is_verb_among (filter (is_allowed None side) (requester_verbs_in s declined received)) verb ≡ true
  is_possible_some_day side verb is = search rules

  -- Let `past` say that the deadline is past: the due date in SHIPPED or later, and else the expiry date. Then the turn
  -- is the requester's if, and only if, its work wants a hand, or the item is with its reader.
  pub turn_alike : (past : Bool) → (is_among later s ≡ true → past ≡ on.is_overdue)
      → (is_among later s ≡ false → past ≡ on.has_expired)
      → is_turn Mine (if past && nat_lt 0 (length (requester_verbs_in s declined received)) then Mine
      else requester_turn_in s declined checked_in)
      ≡ (wants_a_hand (requester_work_in s declined received checked_in on)
      || is_work_among (kinds.WithReader ∷ []) (requester_work_in s declined received checked_in on))
  turn_alike past at_due at_expiry = search rules
