-- The library that has the turn can act, if it has a number left.
use Rattle.std.proofs.Common.{◌≡◌, ℕ, ◌+◌, ◌<◌, Bool, true, false, not, if◌then◌else◌, List, [], length, None, Result, Ok, Err}
use Rattle.std.proofs.Common.{refl, sym, ap, subst}
use Rattle.std.specs.Prelude.{IsOk}
use Rattle.std.proofs.lemmas.Bool.{lt-ltb}
use Rattle.ill_values.specs.Day.{Date}
use Rattle.ill_values.specs.declared.apdu.Apdu.{Apdu}
use Rattle.ill_values.specs.declared.apdu.AnswerResult.TheVariants as results
use Rattle.ill_values.specs.declared.apdu.BodyWith.TheVariants as types
use Rattle.ill_core.specs.declared.refusal.Refusal.{Refusal}
use Rattle.ill_core.specs.declared.refusal.Refusal.TheVariants.{NumbersUsed}
use Rattle.ill_core.specs.declared.state.State.{State}
use Rattle.ill_core.specs.declared.state.State.TheVariants as states
use Rattle.ill_core.specs.declared.turn.Turn.TheVariants.{Mine}
use Rattle.ill_core.specs.declared.requester.Wish.{Wish}
use Rattle.ill_core.specs.declared.requester.Wish.TheVariants as wishes
use Rattle.ill_core.specs.declared.responder.Deed.{Deed}
use Rattle.ill_core.specs.declared.responder.Deed.TheVariants as deeds
use Rattle.ill_core.specs.Issued.{next_number}
use Rattle.ill_core.specs.Requester.{RequesterRecord, is_declined, is_received_by}
use Rattle.ill_core.specs.RequesterActions.{acts, acts_by, Transition, not_now, answer_held, leads_to}
use Rattle.ill_core.specs.Responder.{ResponderRecord}
use Rattle.ill_core.specs.ResponderActions as responder
use Rattle.ill_core.specs.Verbs.{requester_turn, requester_turn_in, reply_turn, returned_turn, responder_turn, responder_turn_in}

-- ---- numbers

-- If fewer than 255 messages are issued, there is a next number.
number_left : (issued : List Apdu) → length issued < 255 → next_number issued ≡ Ok (length issued + 1)
number_left issued few =
    ap (λ (b : Bool). if b then Ok (length issued + 1) else Err NumbersUsed) (lt-ltb (length issued) 255 few)

-- ---- the requester

-- If a wish has a transition, and a number is left, the wish is done.
wish_done : (x : RequesterRecord) (t : Transition) → length x.issued < 255 → IsOk (acts_by x (Ok t) (next_number x.issued))
wish_done x t few = subst (λ (r : Result ℕ Refusal). IsOk (acts_by x (Ok t) r)) (sym (number_left x.issued few)) refl

-- The requester can act by a wish.
abbrev pub CanAsk : RequesterRecord → Type 0
CanAsk x = (wish : Wish) × IsOk (acts x wish)

-- The record `x` in the state `state`.
abbrev in_state : RequesterRecord → State → RequesterRecord
in_state x state = record x { state = state }

-- A requester in CONDITIONAL can reply, if it did not decline the conditions.
can_reply : (x : RequesterRecord) (declined : Bool) → is_declined (in_state x states.Conditional) ≡ declined
    → reply_turn declined ≡ Mine → length x.issued < 255 → CanAsk (in_state x states.Conditional)
can_reply x false is turn few = (
  wishes.Reply true,
  subst (λ (b : Bool). IsOk (acts_by (in_state x states.Conditional)
      (if not b then Ok (answer_held (in_state x states.Conditional) true) else not_now (in_state x states.Conditional))
      (next_number x.issued))) (sym is) (wish_done (in_state x states.Conditional) _ few),
)
can_reply x true is turn few = absurd cc

-- A requester in RECALL can return the item, or receive it first.
can_end : (x : RequesterRecord) (received : Bool) → is_received_by x ≡ received → length x.issued < 255
    → CanAsk (in_state x states.Recall)
can_end x true is few = (
  wishes.Return,
  subst (λ (b : Bool). IsOk (acts_by (in_state x states.Recall)
      (if b then leads_to states.Returned types.Returned (in_state x states.Recall) else not_now (in_state x states.Recall))
      (next_number x.issued))) (sym is) (wish_done (in_state x states.Recall) _ few),
)
can_end x false is few = (
  wishes.Receive,
  subst (λ (b : Bool). IsOk (acts_by (in_state x states.Recall)
      (if not b then leads_to states.Recall types.Received (in_state x states.Recall) else not_now (in_state x states.Recall))
      (next_number x.issued))) (sym is) (wish_done (in_state x states.Recall) _ few),
)

-- A requester in `state` that has the turn, and a number left, can act. Each state that has the turn has a wish.
asks_in : (x : RequesterRecord) (state : State)
    → requester_turn_in state (is_declined (in_state x state)) x.checked_in ≡ Mine → length x.issued < 255
    → CanAsk (in_state x state)
asks_in x states.Idle turn few = (wishes.Request None [], wish_done (in_state x states.Idle) _ few)
asks_in x states.Conditional turn few = can_reply x (is_declined (in_state x states.Conditional)) refl turn few
asks_in x states.Shipped turn few = (wishes.Receive, wish_done (in_state x states.Shipped) _ few)
asks_in x states.Received turn few = (wishes.Return, wish_done (in_state x states.Received) _ few)
asks_in x states.Overdue turn few = (wishes.Return, wish_done (in_state x states.Overdue) _ few)
asks_in x states.NotReceivedOverdue turn few = (wishes.Receive, wish_done (in_state x states.NotReceivedOverdue) _ few)
asks_in x states.Recall turn few = can_end x (is_received_by x) refl few
asks_in x states.Returned turn few = no_turn x.checked_in turn
  where
    -- A requester in RETURNED does not have the turn.
    no_turn : {X : Type 0} (checked_in : Bool) → returned_turn checked_in ≡ Mine → X
    no_turn true is = absurd cc
    no_turn false is = absurd cc
asks_in x states.Pending turn few = absurd cc
asks_in x states.CancelPending turn few = absurd cc
asks_in x states.Cancelled turn few = absurd cc
asks_in x states.NotSupplied turn few = absurd cc
asks_in x states.RenewPending turn few = absurd cc
asks_in x states.RenewOverdue turn few = absurd cc
asks_in x states.InProcess turn few = absurd cc
asks_in x states.CheckedIn turn few = absurd cc

-- A requester that has the turn, and a number left, can act.
pub can_ask : (x : RequesterRecord) → requester_turn x ≡ Mine → length x.issued < 255 → CanAsk x
can_ask x turn few = asks_in x x.state turn few

-- ---- the responder

-- If a deed has a transition, and a number is left, the deed is done.
deed_done : (y : ResponderRecord) (t : responder.Transition) → length y.issued < 255
    → IsOk (responder.acts_by y (Ok t) (next_number y.issued))
deed_done y t few =
    subst (λ (r : Result ℕ Refusal). IsOk (responder.acts_by y (Ok t) r)) (sym (number_left y.issued few)) refl

-- The responder can act by a deed, on each day.
abbrev pub CanLend : ResponderRecord → Type 0
CanLend y = (deed : Deed) × ((today : Date) → IsOk (responder.acts y deed today))

-- A responder in `state` that has the turn, and a number left, can act. Each state that has the turn has a deed.
lends_in : (y : ResponderRecord) (state : State) → responder_turn_in state ≡ Mine → length y.issued < 255
    → CanLend (record y { state = state })
lends_in y states.InProcess turn few =
    (deeds.Answer results.WillSupply, λ today. deed_done (record y { state = states.InProcess }) _ few)
lends_in y states.CancelPending turn few =
    (deeds.CancelReply true, λ today. deed_done (record y { state = states.CancelPending }) _ few)
lends_in y states.RenewPending turn few =
    (deeds.RenewAnswer None, λ today. deed_done (record y { state = states.RenewPending }) _ few)
lends_in y states.RenewOverdue turn few =
    (deeds.RenewAnswer None, λ today. deed_done (record y { state = states.RenewOverdue }) _ few)
lends_in y states.Returned turn few =
    (deeds.CheckIn, λ today. deed_done (record y { state = states.Returned }) _ few)
lends_in y states.Idle turn few = absurd cc
lends_in y states.Pending turn few = absurd cc
lends_in y states.Conditional turn few = absurd cc
lends_in y states.Cancelled turn few = absurd cc
lends_in y states.NotSupplied turn few = absurd cc
lends_in y states.Shipped turn few = absurd cc
lends_in y states.Received turn few = absurd cc
lends_in y states.Overdue turn few = absurd cc
lends_in y states.NotReceivedOverdue turn few = absurd cc
lends_in y states.Recall turn few = absurd cc
lends_in y states.CheckedIn turn few = absurd cc

-- A responder that has the turn, and a number left, can act.
pub can_lend : (y : ResponderRecord) → responder_turn y ≡ Mine → length y.issued < 255 → CanLend y
can_lend y turn few = lends_in y y.state turn few
