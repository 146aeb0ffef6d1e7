-- The library that has the turn can act towards the end, if it has a number left. After the last number it may not.
use Rattle.std.proofs.Common.{rules, ◌≡◌, ℕ, ◌+◌, ◌<◌, Bool, true, false, not, if◌then◌else◌, List, length, None, Result, Ok}
use Rattle.std.proofs.Common.{Err, refl, sym, ap, subst}
use Rattle.std.specs.Prelude.{IsOk, codes}
use Rattle.std.proofs.lemmas.Bool.{lt-ltb}
use Rattle.ill_values.specs.Day.{Date}
use Rattle.ill_values.specs.declared.apdu.Apdu.{Apdu}
use Rattle.ill_values.specs.declared.apdu.AnswerResult.TheVariants as results
use Rattle.ill_values.specs.declared.apdu.BodyWith.TheVariants as types
use Rattle.ill_core.specs.declared.refusal.Refusal.{Refusal}
use Rattle.ill_core.specs.declared.refusal.Refusal.TheVariants.{NotNow, NumbersUsed}
use Rattle.ill_core.specs.declared.state.State.{State}
use Rattle.ill_core.specs.declared.state.State.TheVariants as states
use Rattle.ill_core.specs.declared.turn.Turn.TheVariants.{Mine}
use Rattle.ill_core.specs.declared.requester.Wish.{Wish}
use Rattle.ill_core.specs.declared.requester.Wish.TheVariants as wishes
use Rattle.ill_core.specs.declared.responder.Deed.{Deed}
use Rattle.ill_core.specs.declared.responder.Deed.TheVariants as deeds
use Rattle.ill_core.specs.State.{is_among}
use Rattle.ill_core.specs.Issued.{next_number}
use Rattle.ill_core.specs.Requester.{RequesterRecord, is_declined, is_received_by}
use Rattle.ill_core.specs.RequesterActions.{acts, acts_by, Transition, not_now, answer_held, leads_to}
use Rattle.ill_core.specs.Responder.{ResponderRecord}
use Rattle.ill_core.specs.ResponderActions as responder
use Rattle.ill_core.specs.Verbs.{requester_turn, requester_turn_in, reply_turn, returned_turn, responder_turn}
use Rattle.ill_core.specs.Verbs.{responder_turn_in}
use Rattle.ill_world.specs.Round.{faced_in, HaveConverged}
use Rattle.ill_progress.specs.Ends.{is_wish_to_end, is_deed_to_end}

-- ---- actions that are done

-- If fewer than 255 messages are issued, there is a next number.
number_left : (issued : List Apdu) → length issued < 255 → next_number issued ≡ Ok (length issued + 1)
number_left issued few =
    ap (λ (b : Bool). if b then Ok (length issued + 1) else Err NumbersUsed) (lt-ltb (length issued) 255 few)

-- If a wish has a transition, and a number is left, it is done.
wish_done : (x : RequesterRecord) (t : Transition) → length x.issued < 255 → IsOk (acts_by x (Ok t) (next_number x.issued))
wish_done x t few = subst (λ (r : Result ℕ Refusal). IsOk (acts_by x (Ok t) r)) (sym (number_left x.issued few)) refl

-- If a deed has a transition, and a number is left, it is done.
deed_done : (y : ResponderRecord) (t : responder.Transition) → length y.issued < 255
    → IsOk (responder.acts_by y (Ok t) (next_number y.issued))
deed_done y t few =
    subst (λ (r : Result ℕ Refusal). IsOk (responder.acts_by y (Ok t) r)) (sym (number_left y.issued few)) refl

-- The requester can act towards the end by a wish.
abbrev pub CanWish : RequesterRecord → Type 0
CanWish x = (wish : Wish) × (is_wish_to_end wish ≡ true) × IsOk (acts x wish)

-- The responder can act towards the end by a deed, on each day.
abbrev pub CanDo : ResponderRecord → Type 0
CanDo y = (deed : Deed) × (is_deed_to_end deed ≡ true) × ((today : Date) → IsOk (responder.acts y deed today))

-- ---- the requester

-- The record `x` in the state `s`.
abbrev asks_in : RequesterRecord → State → RequesterRecord
asks_in x s = record x { state = s }

-- A requester in CONDITIONAL that did not decline the conditions can decline them.
can_decline : (x : RequesterRecord) (declined : Bool) → is_declined (asks_in x states.Conditional) ≡ declined
    → reply_turn declined ≡ Mine → length x.issued < 255 → CanWish (asks_in x states.Conditional)
can_decline x false is turn few = (
  wishes.Reply false,
  refl,
  subst (λ (b : Bool). IsOk (acts_by (asks_in x states.Conditional)
      (if not b then Ok (answer_held (asks_in x states.Conditional) false) else not_now (asks_in x states.Conditional))
      (next_number x.issued))) (sym is) (wish_done (asks_in x states.Conditional) _ few),
)
can_decline x true is turn few = absurd cc

-- A requester in RECALL can return the item, or receive it first.
can_end_recall : (x : RequesterRecord) (received : Bool) → is_received_by x ≡ received → length x.issued < 255
    → CanWish (asks_in x states.Recall)
can_end_recall x true is few = (
  wishes.Return,
  refl,
  subst (λ (b : Bool). IsOk (acts_by (asks_in x states.Recall)
      (if b then leads_to states.Returned types.Returned (asks_in x states.Recall) else not_now (asks_in x states.Recall))
      (next_number x.issued))) (sym is) (wish_done (asks_in x states.Recall) _ few),
)
can_end_recall x false is few = (
  wishes.Receive,
  refl,
  subst (λ (b : Bool). IsOk (acts_by (asks_in x states.Recall)
      (if not b then leads_to states.Recall types.Received (asks_in x states.Recall) else not_now (asks_in x states.Recall))
      (next_number x.issued))) (sym is) (wish_done (asks_in x states.Recall) _ few),
)

-- In RETURNED the turn is not the requester's.
returned_waits : {P : Type 0} (checked_in : Bool) → returned_turn checked_in ≡ Mine → P
returned_waits true turn = absurd cc
returned_waits false turn = absurd cc

-- A requester in a state in which it has the turn can act towards the end, if it has a number left.
wish_in : (x : RequesterRecord) (s : State) → requester_turn_in s (is_declined (asks_in x s)) x.checked_in ≡ Mine
    → length x.issued < 255 → CanWish (asks_in x s)
wish_in x states.Idle turn few = (wishes.Request None (codes "a book"), refl, wish_done (asks_in x states.Idle) _ few)
wish_in x states.Conditional turn few = can_decline x (is_declined (asks_in x states.Conditional)) refl turn few
wish_in x states.Shipped turn few = (wishes.Receive, refl, wish_done (asks_in x states.Shipped) _ few)
wish_in x states.NotReceivedOverdue turn few = (wishes.Receive, refl, wish_done (asks_in x states.NotReceivedOverdue) _ few)
wish_in x states.Received turn few = (wishes.Return, refl, wish_done (asks_in x states.Received) _ few)
wish_in x states.Overdue turn few = (wishes.Return, refl, wish_done (asks_in x states.Overdue) _ few)
wish_in x states.Recall turn few = can_end_recall x (is_received_by x) refl few
wish_in x states.Returned turn few = returned_waits x.checked_in turn
wish_in x states.Pending turn few = absurd cc
wish_in x states.CancelPending turn few = absurd cc
wish_in x states.RenewPending turn few = absurd cc
wish_in x states.RenewOverdue turn few = absurd cc
wish_in x states.Cancelled turn few = absurd cc
wish_in x states.NotSupplied turn few = absurd cc
wish_in x states.InProcess turn few = absurd cc
wish_in x states.CheckedIn turn few = absurd cc

-- A requester that has the turn can act towards the end, if it has a number left.
pub can_wish : (x : RequesterRecord) → requester_turn x ≡ Mine → length x.issued < 255 → CanWish x
can_wish x turn few = wish_in x x.state turn few

-- ---- the responder

-- The record `y` in the state `t`.
abbrev lends_in : ResponderRecord → State → ResponderRecord
lends_in y t = record y { state = t }

-- A responder in a state in which it has the turn can act towards the end, if it has a number left.
deed_in : (y : ResponderRecord) (t : State) → responder_turn_in t ≡ Mine → length y.issued < 255 → CanDo (lends_in y t)
deed_in y states.InProcess turn few =
    (deeds.Answer results.Unfilled, refl, λ today. deed_done (lends_in y states.InProcess) _ few)
deed_in y states.CancelPending turn few =
    (deeds.CancelReply true, refl, λ today. deed_done (lends_in y states.CancelPending) _ few)
deed_in y states.RenewPending turn few =
    (deeds.RenewAnswer None, refl, λ today. deed_done (lends_in y states.RenewPending) _ few)
deed_in y states.RenewOverdue turn few =
    (deeds.RenewAnswer None, refl, λ today. deed_done (lends_in y states.RenewOverdue) _ few)
deed_in y states.Returned turn few = (deeds.CheckIn, refl, λ today. deed_done (lends_in y states.Returned) _ few)
deed_in y states.Idle turn few = absurd cc
deed_in y states.Pending turn few = absurd cc
deed_in y states.Conditional turn few = absurd cc
deed_in y states.Cancelled turn few = absurd cc
deed_in y states.NotSupplied turn few = absurd cc
deed_in y states.Shipped turn few = absurd cc
deed_in y states.Received turn few = absurd cc
deed_in y states.Overdue turn few = absurd cc
deed_in y states.NotReceivedOverdue turn few = absurd cc
deed_in y states.Recall turn few = absurd cc
deed_in y states.CheckedIn turn few = absurd cc

-- A responder that has the turn can act towards the end, if it has a number left.
pub can_do : (y : ResponderRecord) → responder_turn y ≡ Mine → length y.issued < 255 → CanDo y
can_do y turn few = deed_in y y.state turn few

-- ---- the last number

-- A responder that a requester in RECALL faces is in RECALL.
faces_recall : (s t : State) → s ≡ states.Recall → is_among (faced_in s) t ≡ true → t ≡ states.Recall
faces_recall s states.Recall is faced = refl
faces_recall s t is faced = search rules

-- A responder in RECALL refuses each deed.
recall_refuses : (y : ResponderRecord) (t : State) (deed : Deed) (today : Date) → t ≡ states.Recall
    → responder.acts (lends_in y t) deed today ≡ Err (NotNow t)
recall_refuses y states.Recall (deeds.Answer answer) today is = refl
recall_refuses y states.Recall (deeds.CancelReply is_yes) today is = refl
recall_refuses y states.Recall (deeds.Ship due) today is = refl
recall_refuses y states.Recall (deeds.RenewAnswer granted) today is = refl
recall_refuses y states.Recall deeds.Overdue today is = refl
recall_refuses y states.Recall deeds.Recall today is = refl
recall_refuses y states.Recall deeds.CheckIn today is = refl
recall_refuses y states.Recall deeds.Expire today is = refl
recall_refuses y t deed today is = search rules

-- If two records are converged and the requester is in RECALL, the responder refuses each deed.
pub recalled_refuses : (x : RequesterRecord) (y : ResponderRecord) (deed : Deed) (today : Date) → HaveConverged x y
    → x.state ≡ states.Recall → responder.acts y deed today ≡ Err (NotNow y.state)
recalled_refuses x y deed today step is =
    recall_refuses y y.state deed today (faces_recall x.state y.state is step.faced)
