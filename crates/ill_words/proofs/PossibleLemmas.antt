-- Proves that the actions which a day allows are those that `act` does not refuse for a state or a date.
use Rattle.std.proofs.Common.{◌≡◌, Bool, true, false, cond, if◌then◌else◌, List, [], ◌∷◌, Some, Option, refl}
use Rattle.std.specs.Prelude.{filter}
use Rattle.std.specs.Result.{is_ok}
use Rattle.ill_values.specs.Day.{Date}
use Rattle.ill_values.specs.Body.{Body}
use Rattle.ill_values.specs.declared.apdu.BodyWith.TheVariants as bodies
use Rattle.ill_core.specs.declared.refusal.Refusal.{Refusal}
use Rattle.ill_core.specs.declared.refusal.Refusal.TheVariants as refusals
use Rattle.ill_core.specs.declared.state.State.{State}
use Rattle.ill_core.specs.declared.state.State.TheVariants as states
use Rattle.ill_core.specs.declared.verb.Verb.{Verb}
use Rattle.ill_core.specs.declared.verb.Verb.TheVariants as verbs
use Rattle.ill_core.specs.State.{is_among}
use Rattle.ill_core.specs.Requester.{RequesterRecord, is_declined, is_received_by}
use Rattle.ill_core.specs.Responder.{ResponderRecord}
use Rattle.ill_core.specs.ResponderActions.{if_allowed, leads_to, not_now, overdue_transition_to, transition_of, expiry_of}
use Rattle.ill_core.specs.Dates.{is_after_due}
use Rattle.ill_core.specs.Verbs.{is_verb_among, requester_verbs, requester_verbs_in, responder_verbs_in}
use Rattle.ill_core.specs.declared.responder.Deed.TheVariants as deeds
use Rattle.ill_record.specs.declared.side.Side.{Side}
use Rattle.ill_record.specs.declared.side.Side.TheVariants as sides
use Rattle.ill_words.specs.Possible.{is_allowed, possible_on}

-- On the day `today`, or without a day, no date forbids an action of a requester in `state`.
requester_by_state : (today : Option Date) (side : Side) (state : State) (declined received : Bool)
    → filter (is_allowed today side) (requester_verbs_in state declined received) ≡ requester_verbs_in state declined received
requester_by_state today side states.Conditional true received = refl
requester_by_state today side states.Conditional false received = refl
requester_by_state today side states.Recall declined true = refl
requester_by_state today side states.Recall declined false = refl
requester_by_state today side states.Idle declined received = refl
requester_by_state today side states.Pending declined received = refl
requester_by_state today side states.InProcess declined received = refl
requester_by_state today side states.CancelPending declined received = refl
requester_by_state today side states.Cancelled declined received = refl
requester_by_state today side states.NotSupplied declined received = refl
requester_by_state today side states.Shipped declined received = refl
requester_by_state today side states.Received declined received = refl
requester_by_state today side states.RenewPending declined received = refl
requester_by_state today side states.Overdue declined received = refl
requester_by_state today side states.RenewOverdue declined received = refl
requester_by_state today side states.NotReceivedOverdue declined received = refl
requester_by_state today side states.Returned declined received = refl
requester_by_state today side states.CheckedIn declined received = refl

-- Each of a requester's actions is possible on each day.
pub all_of_requester : (today : Option Date) (x : RequesterRecord) → possible_on today (sides.Requester x) ≡ requester_verbs x
all_of_requester today x = requester_by_state today (sides.Requester x) x.state (is_declined x) (is_received_by x)

-- The list is `others`, which lack `verb`, with `verb` before them if the date `allows` the action. So the list has
-- `verb` if and only if the transition is not refused.
first_by_date : (verb : Verb) (others : List Verb) (refusal : Refusal) (next : State) (body : Body) (allows : Bool)
    → is_verb_among (verb ∷ others) verb ≡ true → is_verb_among others verb ≡ false
    → is_verb_among (cond allows (verb ∷ others) others) verb ≡ is_ok (if_allowed allows refusal (leads_to next body))
first_by_date verb others refusal next body true first no_other = first
first_by_date verb others refusal next body false first no_other = no_other

-- A list that has only an Expire, or nothing if the date does not allow it, has no Overdue.
no_overdue : (allows : Bool) → is_verb_among (cond allows (verbs.Expire ∷ []) []) verbs.Overdue ≡ false
no_overdue true = refl
no_overdue false = refl

-- If `others` have no Expire, the list has none, with an Overdue before them or without it.
no_expire : (others : List Verb) (allows : Bool) → is_verb_among others verbs.Expire ≡ false
    → is_verb_among (cond allows (verbs.Overdue ∷ others) others) verbs.Expire ≡ false
no_expire others true none = none
no_expire others false none = none

-- In `state`, an Overdue is possible on `today` if and only if the responder's table does not refuse it.
overdue_by_state : (today : Date) (y : ResponderRecord) (state : State)
    → is_verb_among (filter (is_allowed (Some today) (sides.Responder y)) (responder_verbs_in state)) verbs.Overdue
    ≡ is_ok (if is_among (states.Shipped ∷ []) state then overdue_transition_to y today states.Overdue
    else (if is_among (states.RenewPending ∷ []) state then overdue_transition_to y today states.RenewOverdue
    else not_now y))
overdue_by_state today y states.Shipped = first_by_date verbs.Overdue (verbs.Recall ∷ []) _ _ _ _ refl refl
overdue_by_state today y states.RenewPending = first_by_date verbs.Overdue [] _ _ _ _ refl refl
overdue_by_state today y states.InProcess = no_overdue (is_after_due today (expiry_of y.request))
overdue_by_state today y states.Conditional = no_overdue (is_after_due today (expiry_of y.request))
overdue_by_state today y states.Idle = refl
overdue_by_state today y states.Pending = refl
overdue_by_state today y states.CancelPending = refl
overdue_by_state today y states.Cancelled = refl
overdue_by_state today y states.NotSupplied = refl
overdue_by_state today y states.Received = refl
overdue_by_state today y states.Overdue = refl
overdue_by_state today y states.RenewOverdue = refl
overdue_by_state today y states.NotReceivedOverdue = refl
overdue_by_state today y states.Recall = refl
overdue_by_state today y states.Returned = refl
overdue_by_state today y states.CheckedIn = refl

-- An Overdue is possible on a day if, and only if, the responder's table does not refuse it on that day.
pub overdue_possible : (today : Date) (y : ResponderRecord)
    → is_verb_among (possible_on (Some today) (sides.Responder y)) verbs.Overdue ≡ is_ok (transition_of y deeds.Overdue today)
overdue_possible today y = overdue_by_state today y y.state

-- In `state`, an Expire is possible on `today` if and only if the responder's table does not refuse it.
expire_by_state : (today : Date) (y : ResponderRecord) (state : State)
    → is_verb_among (filter (is_allowed (Some today) (sides.Responder y)) (responder_verbs_in state)) verbs.Expire
    ≡ is_ok (if is_among (states.InProcess ∷ states.Conditional ∷ []) state
    then if_allowed (is_after_due today (expiry_of y.request)) refusals.NotExpired (leads_to states.NotSupplied bodies.Expired)
    else not_now y)
expire_by_state today y states.InProcess = first_by_date verbs.Expire [] _ _ _ _ refl refl
expire_by_state today y states.Conditional = first_by_date verbs.Expire [] _ _ _ _ refl refl
expire_by_state today y states.Shipped = no_expire (verbs.Recall ∷ []) _ refl
expire_by_state today y states.RenewPending = no_expire [] _ refl
expire_by_state today y states.Idle = refl
expire_by_state today y states.Pending = refl
expire_by_state today y states.CancelPending = refl
expire_by_state today y states.Cancelled = refl
expire_by_state today y states.NotSupplied = refl
expire_by_state today y states.Received = refl
expire_by_state today y states.Overdue = refl
expire_by_state today y states.RenewOverdue = refl
expire_by_state today y states.NotReceivedOverdue = refl
expire_by_state today y states.Recall = refl
expire_by_state today y states.Returned = refl
expire_by_state today y states.CheckedIn = refl

-- An Expire is possible on a day if, and only if, the responder's table does not refuse it on that day.
pub expire_possible : (today : Date) (y : ResponderRecord)
    → is_verb_among (possible_on (Some today) (sides.Responder y)) verbs.Expire ≡ is_ok (transition_of y deeds.Expire today)
expire_possible today y = expire_by_state today y y.state
