-- Proves that a message, once delivered to a requester, would change nothing if it came again. This holds until another
-- message reopens it.
use Rattle.std.proofs.Common.{rules, ◌≡◌, ℕ, Bool, true, false, not, ◌&&◌, ◌||◌, [], ◌∷◌, Some, None, Result, if◌then◌else◌, ap}
use Rattle.std.proofs.Common.{refl}
use Rattle.std.proofs.lemmas.Bool.{cond_both}
use Rattle.ill_values.specs.Day.{Date}
use Rattle.ill_values.specs.declared.apdu.Apdu.{Apdu}
use Rattle.ill_values.specs.Body.{Body}
use Rattle.ill_values.specs.declared.apdu.BodyWith.TheVariants as types
use Rattle.ill_values.specs.declared.apdu.AnswerResult.TheVariants as results
use Rattle.ill_core.specs.declared.state.State.TheVariants.{Pending, Returned}
use Rattle.ill_core.specs.declared.taking.Taking.{Taking}
use Rattle.ill_core.specs.declared.refusal.Refusal.{Refusal}
use Rattle.ill_core.specs.declared.refusal.Refusal.TheVariants.{OtherTransaction, WrongRole}
use Rattle.ill_core.specs.State.{is_among}
use Rattle.ill_core.specs.Rules.{implies}
use Rattle.ill_core.specs.Numbers.{is_at_most}
use Rattle.ill_values.specs.Bodies.{is_renew, is_requesters}
use Rattle.ill_core.specs.Dates.{is_due_on, is_after_due}
use Rattle.ill_core.specs.Issued.{is_same_txn, is_message_with}
use Rattle.ill_core.specs.Answers.{unless_refused}
use Rattle.ill_core.specs.Requester.{RequesterRecord, accepted_number}
use Rattle.ill_core.specs.RequesterDeliveries.{take_message, takes}
use Rattle.ill_core.specs.RequesterNotices.{is_awaiting_answer, is_awaiting_cancel_reply, undecided, lent, states_before_overdue}
use Rattle.ill_core.specs.RequesterNotices.{has_heard, reopens}
use Rattle.ill_core.proofs.RequesterMoves.{Leads, nowhere, holds_conditions, ends, cancels, keeps_request, ships, misses, reminds}
use Rattle.ill_core.proofs.RequesterMoves.{reminds_renewing, renews, refuses_renewal, recalls, checks_in, delivery_leads}

-- ---- a message that comes again

-- `has_heard` is true after a choice by `fits`, if it is after `here` when `fits` is true, else after `others`.
transition : (number : ℕ) (body : Body) (fits : Bool) (here others : Result Taking Refusal × RequesterRecord)
    → (fits ≡ true → has_heard here.1 number body ≡ true) → (fits ≡ false → has_heard others.1 number body ≡ true)
    → has_heard (if fits then here else others).1 number body ≡ true
transition number body fits here others = cond_both fits here others (λ r. has_heard r.1 number body ≡ true)

-- The record after an admitted message of a responder would not change if the message came again.
message_heard : (x : RequesterRecord) (a : Apdu) (body : Body) → is_requesters body ≡ false
    → has_heard (take_message x a body).1 a.number body ≡ true
message_heard x a (types.IllAnswer results.Conditional) theirs = search rules
message_heard x a (types.IllAnswer results.WillSupply) theirs = search rules
message_heard x a (types.IllAnswer results.HoldPlaced) theirs = search rules
message_heard x a (types.IllAnswer other) theirs = search rules
message_heard x a types.Expired theirs = search rules
message_heard x a (types.CancelReply cancel is_yes) theirs = search rules
message_heard x a (types.Shipped due) theirs = search rules
message_heard x a (types.Overdue due) theirs = search rules
message_heard x a (types.RenewAnswer renew (Some due)) theirs =
    transition a.number (types.RenewAnswer renew (Some due)) (is_awaiting_answer x renew) _ _ (λ waits.
    transition a.number (types.RenewAnswer renew (Some due)) (is_after_due due x.due) _ _ (λ _. refl) (λ later_not. search rules))
    (λ waits_not.
    transition a.number (types.RenewAnswer renew (Some due)) (is_message_with is_renew x.issued renew) _ _
    (λ _. ap (λ waits. not (waits && is_after_due due x.due)) waits_not)
    (λ _. ap (λ waits. not (waits && is_after_due due x.due)) waits_not))
message_heard x a (types.RenewAnswer renew None) theirs = search rules
message_heard x a types.Recall theirs = search rules
message_heard x a types.CheckedIn theirs = search rules
message_heard x a other theirs = refl

-- If `is_same` is true and `is_own` is false, the message is not refused. So, if `has_heard` is true after `answer`, it
-- is true after the answer that may be a refusal.
admitted_heard : (x : RequesterRecord) (answer : Result Taking Refusal × RequesterRecord) (number : ℕ) (body : Body)
    (is_same is_own : Bool)
    → is_same ≡ true → is_own ≡ false
    → has_heard answer.1 number body ≡ true
    → has_heard (unless_refused (if is_same then (if is_own then Some WrongRole else None) else Some OtherTransaction) x answer).1
    number body ≡ true
admitted_heard x answer number body true false same own heard = heard
admitted_heard x answer number body true true same own heard = search rules
admitted_heard x answer number body false is_own same own heard = search rules

-- The record after a responder's message of the transaction would not change if the message came again.
pub takes_heard : (x : RequesterRecord) (a : Apdu) → is_same_txn a.txn x.txn ≡ true → is_requesters a.body ≡ false
    → has_heard (takes x a).1 a.number a.body ≡ true
takes_heard x a same theirs =
    admitted_heard x (take_message x a a.body) a.number a.body (is_same_txn a.txn x.txn) (is_requesters a.body) same theirs
    (message_heard x a a.body theirs)

-- ---- a later message

-- Each message that would not change `x` would not change `new`, unless `body` reopens it. There is one field for each
-- type of message.
record StaysWithoutEffect (x : RequesterRecord) (body : Body) (new : RequesterRecord) : Type 0 where
  conditions : (number : ℕ) → reopens body (types.IllAnswer results.Conditional) ≡ false
      → not (is_among (Pending ∷ []) x.state) || is_at_most number (accepted_number x) ≡ true
      → not (is_among (Pending ∷ []) new.state) || is_at_most number (accepted_number new) ≡ true
  end : not (is_among undecided x.state) ≡ true → not (is_among undecided new.state) ≡ true
  cancel_reply : (cancel : ℕ) → not (is_awaiting_cancel_reply x cancel) ≡ true → not (is_awaiting_cancel_reply new cancel) ≡ true
  refusal : (renew : ℕ) → not (is_awaiting_answer x renew) ≡ true → not (is_awaiting_answer new renew) ≡ true
  renewal : (renew : ℕ) (due : Date) → not (is_awaiting_answer x renew && is_after_due due x.due) ≡ true
      → not (is_awaiting_answer new renew && is_after_due due new.due) ≡ true
  overdue : (day : Date) → reopens body (types.Overdue day) ≡ false
      → not (is_among states_before_overdue x.state && is_due_on day x.due) ≡ true
      → not (is_among states_before_overdue new.state && is_due_on day new.due) ≡ true
  recall : reopens body types.Recall ≡ false → not (is_among lent x.state) ≡ true → not (is_among lent new.state) ≡ true
  checked_in : implies (is_among (Returned ∷ []) x.state) x.checked_in ≡ true
      → implies (is_among (Returned ∷ []) new.state) new.checked_in ≡ true

-- The record after each row of deliveries satisfies `StaysWithoutEffect`.
hears : (x : RequesterRecord) (number : ℕ) (body : Body) (new : RequesterRecord) → Leads x number body new
    → StaysWithoutEffect x body new
hears x number _ _ (nowhere body) = search rules
hears x number _ _ (holds_conditions is) = search rules
hears x number _ _ (ends body is_end is) = search rules
hears x number _ _ (cancels cancel is) = search rules
hears x number _ _ (keeps_request cancel is) = search rules
hears x number _ _ (ships due is) = search rules
hears x number _ _ (misses due is on) = search rules
hears x number _ _ (reminds due is on) = search rules
hears x number _ _ (reminds_renewing due is on) = search rules
hears x number _ _ (renews renew due waits after) = search rules
hears x number _ _ (refuses_renewal renew waits) = search rules
hears x number _ _ (recalls is) = search rules
hears x number _ _ (checks_in is) = search rules

-- If `new` satisfies `StaysWithoutEffect`, a message that would not change `x` would not change `new`, unless `first`
-- reopens it.
still_heard : (x : RequesterRecord) (first : Body) (new : RequesterRecord) → StaysWithoutEffect x first new
    → (number : ℕ) (second : Body) → reopens first second ≡ false
    → has_heard x number second ≡ true → has_heard new number second ≡ true
still_heard x first new how number (types.IllAnswer results.Conditional) stays heard = how.conditions number stays heard
still_heard x first new how number (types.IllAnswer results.WillSupply) stays heard = refl
still_heard x first new how number (types.IllAnswer results.HoldPlaced) stays heard = refl
still_heard x first new how number (types.IllAnswer other) stays heard = how.end heard
still_heard x first new how number types.Expired stays heard = how.end heard
still_heard x first new how number (types.CancelReply cancel is_yes) stays heard = how.cancel_reply cancel heard
still_heard x first new how number (types.Shipped due) stays heard = how.end heard
still_heard x first new how number (types.RenewAnswer renew None) stays heard = how.refusal renew heard
still_heard x first new how number (types.RenewAnswer renew (Some due)) stays heard = how.renewal renew due heard
still_heard x first new how number (types.Overdue day) stays heard = how.overdue day stays heard
still_heard x first new how number types.Recall stays heard = how.recall stays heard
still_heard x first new how number types.CheckedIn stays heard = how.checked_in heard
still_heard x first new how number other stays heard = refl

-- If a message would not change a record, it would not change it after APDU `a`, unless `a` reopens it.
pub takes_hearing : (x : RequesterRecord) (a : Apdu) (number : ℕ) (body : Body) → reopens a.body body ≡ false
    → has_heard x number body ≡ true
    → has_heard (takes x a).1 number body ≡ true
takes_hearing x a = still_heard x a.body (takes x a).1 (hears x a.number a.body (takes x a).1 (delivery_leads x a))
