-- Proves the changes that each row of a requester's two tables makes.
use Rattle.std.proofs.Common.{rules, ◌≡◌, ◌⊎◌, ℕ, ◌+◌, ◌≤◌, Bool, true, false, not, ◌&&◌, [], ◌∷◌, ◌++◌, length, Option, Some}
use Rattle.std.proofs.Common.{None, is_some, Result, Ok, Err, if◌then◌else◌, refl, subst, ◌∙◌}
use Rattle.std.specs.Option.{unwrap_or}
use Rattle.std.proofs.lemmas.Bool.{and_parts, cond_both}
use Rattle.ill_values.specs.Day.{Date}
use Rattle.ill_values.specs.declared.apdu.Apdu.{Apdu}
use Rattle.ill_values.specs.Body.{Body}
use Rattle.ill_values.specs.declared.apdu.BodyWith.TheVariants as types
use Rattle.ill_values.specs.declared.apdu.AnswerResult.TheVariants as results
use Rattle.ill_core.specs.declared.state.State.{State}
use Rattle.ill_core.specs.declared.requester.Wish.{Wish}
use Rattle.ill_core.specs.declared.requester.Wish.TheVariants as wishes
use Rattle.ill_core.specs.declared.state.State.TheVariants.{Idle, Pending, Conditional, CancelPending, Cancelled, NotSupplied}
use Rattle.ill_core.specs.declared.state.State.TheVariants.{Shipped, Received, RenewPending, Overdue, RenewOverdue}
use Rattle.ill_core.specs.declared.state.State.TheVariants.{NotReceivedOverdue, Recall, Returned}
use Rattle.ill_core.specs.declared.taking.Taking.{Taking}
use Rattle.ill_core.specs.declared.taking.Taking.TheVariants as takings
use Rattle.ill_core.specs.State.{is_among}
use Rattle.ill_core.specs.Numbers.{is_at_most, is_equal_number}
use Rattle.ill_values.specs.Bodies.{is_requesters, is_cancel, is_renew, declines, accepts}
use Rattle.ill_core.specs.Issued.{first_refusal, is_message_with, has_message_with, next_number, next_apdu, number_of_cancel}
use Rattle.ill_core.specs.Issued.{last_of}
use Rattle.ill_core.specs.RequesterRules.{RequesterRules}
use Rattle.ill_core.specs.Requester.{RequesterRecord, later, accepted_number, is_declined, is_received_by, last_cancel}
use Rattle.ill_core.specs.Requester.{last_renew}
use Rattle.ill_core.specs.RequesterActions.{Transition, acts, acts_by, transition_of, record_after, answer_held}
use Rattle.ill_core.specs.Answers.{taken, unless_refused}
use Rattle.ill_core.specs.RequesterDeliveries.{take_message, takes, take_end, take_cancel_reply, take_renew_answer, take_renewal}
use Rattle.ill_core.specs.Dates.{is_after_due, is_due_on}
use Rattle.ill_core.specs.declared.refusal.Refusal.{Refusal}
use Rattle.ill_core.specs.RequesterEvidence.{Fact, Claims, IsEvidence, KeepsDue, Holds, ClaimsRefusal, AnswersOnce}
use Rattle.ill_core.specs.RequesterEvidence.{replied_number}
use Rattle.ill_core.specs.RequesterEvidence as evidence
use Rattle.ill_core.proofs.IssuedLemmas.{was_more, still_cancel, last_cancel_more, older_cancel}
use Rattle.ill_core.proofs.TransitionLemmas.{at_transition, few_with_next, is_this, no_more}
use Rattle.ill_core.proofs.RequesterAnswers.{silent_once, reply_once, held_number}

-- No test is both false and true. If one were, any `P` would hold.
not_both : {P : Type 0} (b : Bool) → b ≡ false → b ≡ true → P
not_both b is_false is_true = search rules

-- ---- deliveries

-- A row of deliveries gives `answer` to message `k` with `body`. It issues nothing, preserves the rules, and does not
-- lower the due date. It does not lead back to IDLE, nor out of a final state or out of SHIPPED and later. Only `Taken`
-- changes the record, and the message is evidence of each new claim.
pub record Moves (x : RequesterRecord) (k : ℕ) (body : Body) (answer : Result Taking Refusal × RequesterRecord) : Type 0 where
  pub txn : answer.1.txn ≡ x.txn
  pub issued : answer.1.issued ≡ x.issued
  pub kept : RequesterRules x → RequesterRules answer.1
  pub quiet : (answer.0 ≡ Ok takings.Taken) ⊎ (answer.1 ≡ x)
  pub begun : is_among (Idle ∷ []) x.state ≡ false → is_among (Idle ∷ []) answer.1.state ≡ false
  pub final : is_among (Cancelled ∷ NotSupplied ∷ Returned ∷ []) x.state ≡ true → answer.1.state ≡ x.state
  pub stays : is_among later x.state ≡ true → is_among later answer.1.state ≡ true
  pub due : is_some x.due ≡ is_among later x.state → KeepsDue x.due answer.1.due
  pub holds : Holds x k answer.1
  pub cancelled : answer.1.state ≡ Cancelled → (x.state ≡ Cancelled) ⊎ IsEvidence body evidence.Cancelled
  pub ended : answer.1.state ≡ NotSupplied → (x.state ≡ NotSupplied) ⊎ IsEvidence body evidence.Ended
  pub granted : (d : Date) → answer.1.due ≡ Some d → (x.due ≡ Some d) ⊎ IsEvidence body (evidence.Granted d)
  pub refused : (c : ℕ) → ClaimsRefusal answer.1 c → ClaimsRefusal x c ⊎ IsEvidence body (evidence.Refused c)
  pub given_back : answer.1.checked_in ≡ true → (x.checked_in ≡ true) ⊎ IsEvidence body evidence.GivenBack

-- An answer that does not change the record satisfies `Moves`.
left : (x : RequesterRecord) (k : ℕ) (body : Body) (answer : Result Taking Refusal) → Moves x k body (answer, x)
left x k body answer = search rules

-- The change by which PENDING takes conditions with a number above the accepted one satisfies `Moves`.
conditions_held : (x : RequesterRecord) (k : ℕ) (body : Body) → is_among (Pending ∷ []) x.state ≡ true
    → is_at_most k (accepted_number x) ≡ false
    → Moves x k body (taken (record x { state = Conditional; held = Some k }))
conditions_held x k body is above = search rules

-- The change to NOT-SUPPLIED by a message that ends the request satisfies `Moves`.
ended : (x : RequesterRecord) (k : ℕ) (body : Body) → IsEvidence body evidence.Ended
    → is_among (Pending ∷ Conditional ∷ CancelPending ∷ []) x.state ≡ true
    → Moves x k body (taken (record x { state = NotSupplied; held = None }))
ended x k body is_end is = search rules

-- The change from CANCEL-PENDING to CANCELLED by a yes to the last Cancel satisfies `Moves`.
cancelled : (x : RequesterRecord) (k : ℕ) (c : ℕ)
    → is_among (CancelPending ∷ []) x.state && is_equal_number c (last_cancel x) ≡ true
    → Moves x k (types.CancelReply c true) (taken (record x { state = Cancelled }))
cancelled x k c is = search rules

-- The change from SHIPPED to NOT-RECEIVED/OVERDUE satisfies `Moves`.
not_received : (x : RequesterRecord) (k : ℕ) (body : Body) → is_among (Shipped ∷ []) x.state ≡ true
    → Moves x k body (taken (record x { state = NotReceivedOverdue }))
not_received x k body is = search rules

-- The change from RECEIVED to OVERDUE satisfies `Moves`.
overdue : (x : RequesterRecord) (k : ℕ) (body : Body) → is_among (Received ∷ []) x.state ≡ true
    → Moves x k body (taken (record x { state = Overdue }))
overdue x k body is = search rules

-- The change from RENEW/PENDING to RENEW/OVERDUE satisfies `Moves`.
renewal_overdue : (x : RequesterRecord) (k : ℕ) (body : Body) → is_among (RenewPending ∷ []) x.state ≡ true
    → Moves x k body (taken (record x { state = RenewOverdue }))
renewal_overdue x k body is = search rules

-- The change from RENEW/PENDING to RECEIVED, or from RENEW/OVERDUE to OVERDUE, satisfies `Moves`.
not_renewed : (x : RequesterRecord) (k : ℕ) (body : Body) → is_among (RenewPending ∷ RenewOverdue ∷ []) x.state ≡ true
    → Moves x k body (taken (record x { state = (if is_among (RenewPending ∷ []) x.state then Received else Overdue) }))
not_renewed x k body is = search rules

-- The change to RECALL from SHIPPED or later, except from RECALL and RETURNED, satisfies `Moves`.
recalled : (x : RequesterRecord) (k : ℕ) (body : Body)
    → is_among (Shipped ∷ NotReceivedOverdue ∷ Received ∷ Overdue ∷ RenewPending ∷ RenewOverdue ∷ []) x.state ≡ true
    → Moves x k body (taken (record x { state = Recall }))
recalled x k body is = search rules

-- The change by which a Checked-In sets the mark in RETURNED satisfies `Moves`.
given_back : (x : RequesterRecord) (k : ℕ) → is_among (Returned ∷ []) x.state ≡ true
    → Moves x k types.CheckedIn (taken (record x { checked_in = true }))
given_back x k is = search rules

-- The change to SHIPPED by a Shipped with due date `d` satisfies `Moves`.
shipped : (x : RequesterRecord) (k : ℕ) (d : Date)
    → is_among (Pending ∷ Conditional ∷ CancelPending ∷ []) x.state ≡ true
    → Moves x k (types.Shipped d) (taken (record x { state = Shipped; due = Some d; held = None }))
shipped x k d is = search rules

-- The change to RECEIVED by a Renew-Answer yes with a later date `d` satisfies `Moves`.
renewed : (x : RequesterRecord) (k : ℕ) (c : ℕ) (d : Date)
    → is_among (RenewPending ∷ RenewOverdue ∷ []) x.state ≡ true → is_after_due d x.due ≡ true
    → Moves x k (types.RenewAnswer c (Some d)) (taken (record x { state = Received; due = Some d }))
renewed x k c d is after = search rules

-- The change from CANCEL-PENDING to PENDING by a no to the last Cancel satisfies `Moves`.
cancel_refused : (x : RequesterRecord) (k c : ℕ)
    → is_among (CancelPending ∷ []) x.state && is_equal_number c (last_cancel x) ≡ true
    → Moves x k (types.CancelReply c false) (taken (record x { state = Pending }))
cancel_refused x k c is = search rules

-- A choice by the test `fits` satisfies `Moves`, if `here` does when `fits` is true, and else `others`.
transition : (x : RequesterRecord) (k : ℕ) (body : Body) (fits : Bool) (here others : Result Taking Refusal × RequesterRecord)
    → (fits ≡ true → Moves x k body here) → (fits ≡ false → Moves x k body others)
    → Moves x k body (if fits then here else others)
transition x k body fits here others = cond_both fits here others (Moves x k body)

-- The answer to a message that ends the request without the item satisfies `Moves`.
end_row : (x : RequesterRecord) (k : ℕ) (body : Body) → IsEvidence body evidence.Ended → Moves x k body (take_end x)
end_row x k body is_end =
    transition x k _ (is_among (NotSupplied ∷ []) x.state) _ _ (λ _. left x k _ _) (λ _.
    transition x k _ (is_among (Pending ∷ Conditional ∷ CancelPending ∷ []) x.state) _ _ (ended x k body is_end)
    (λ _. left x k _ _))

-- If the answer to a Cancel-Reply satisfies `Moves` when the last Cancel waits, it satisfies `Moves` always.
cancel_reply_row : (x : RequesterRecord) (k c : ℕ) (is_yes : Bool)
    → (is_among (CancelPending ∷ []) x.state && is_equal_number c (last_cancel x) ≡ true
    → Moves x k (types.CancelReply c is_yes) (taken (record x { state = (if is_yes then Cancelled else Pending) })))
    → Moves x k (types.CancelReply c is_yes) (take_cancel_reply x c is_yes)
cancel_reply_row x k c is_yes decided =
    transition x k _ (is_among (CancelPending ∷ []) x.state && is_equal_number c (last_cancel x)) _ _ decided (λ _.
    transition x k _ (is_among (Cancelled ∷ []) x.state && (is_yes && is_equal_number c (last_cancel x))) _ _ (λ _. left x k _ _)
    (λ _.
    transition x k _ (is_message_with is_cancel x.issued c) _ _ (λ _. left x k _ _) (λ _. left x k _ _)))

-- If the answer to a Renew-Answer satisfies `Moves` when a Renew waits, it satisfies `Moves` always.
renew_answer_row : (x : RequesterRecord) (k c : ℕ) (granted : Option Date)
    → (is_among (RenewPending ∷ RenewOverdue ∷ []) x.state ≡ true
    → Moves x k (types.RenewAnswer c granted) (take_renewal x granted))
    → Moves x k (types.RenewAnswer c granted) (take_renew_answer x c granted)
renew_answer_row x k c granted decided =
    transition x k _ (is_among (RenewPending ∷ RenewOverdue ∷ []) x.state && is_equal_number c (last_renew x)) _ _
    (λ is. decided (and_parts _ _ is).0) (λ _.
    transition x k _ (is_message_with is_renew x.issued c) _ _ (λ _. left x k _ _) (λ _. left x k _ _))

-- The answer to an admitted APDU satisfies `Moves`. Each case follows the tests of `take_message`, one by one.
pub message_row : (x : RequesterRecord) (a : Apdu) (body : Body) → Moves x a.number body (take_message x a body)
message_row x a (types.IllAnswer results.Conditional) =
    transition x a.number _ (is_at_most a.number (accepted_number x)) _ _ (λ _. left x a.number _ _) (λ above.
    transition x a.number _ (is_among (Conditional ∷ []) x.state && is_equal_number a.number x.held) _ _
    (λ _. left x a.number _ _) (λ _.
    transition x a.number _ (is_among (Pending ∷ []) x.state) _ _ (λ is. conditions_held x a.number _ is above)
    (λ _. left x a.number _ _)))
message_row x a (types.IllAnswer results.WillSupply) =
    transition x a.number _ (is_among (Pending ∷ []) x.state) _ _ (λ _. left x a.number _ _) (λ _. left x a.number _ _)
message_row x a (types.IllAnswer results.HoldPlaced) =
    transition x a.number _ (is_among (Pending ∷ []) x.state) _ _ (λ _. left x a.number _ _) (λ _. left x a.number _ _)
message_row x a (types.IllAnswer other) = end_row x a.number _ refl
message_row x a types.Expired = end_row x a.number _ tt
message_row x a (types.CancelReply c true) = cancel_reply_row x a.number c true (cancelled x a.number c)
message_row x a (types.CancelReply c false) = cancel_reply_row x a.number c false (cancel_refused x a.number c)
message_row x a (types.Shipped d) =
    transition x a.number _ (is_among (Pending ∷ Conditional ∷ CancelPending ∷ []) x.state) _ _ (shipped x a.number d) (λ _.
    transition x a.number _ (is_among later x.state) _ _ (λ _. left x a.number _ _) (λ _. left x a.number _ _))
message_row x a (types.Overdue d) =
    transition x a.number _ (is_among later x.state && not (is_due_on d x.due)) _ _ (λ _. left x a.number _ _) (λ _.
    transition x a.number _ (is_among (Shipped ∷ []) x.state) _ _ (not_received x a.number _) (λ _.
    transition x a.number _ (is_among (Received ∷ []) x.state) _ _ (overdue x a.number _) (λ _.
    transition x a.number _ (is_among (RenewPending ∷ []) x.state) _ _ (renewal_overdue x a.number _) (λ _.
    transition x a.number _ (is_among (NotReceivedOverdue ∷ Overdue ∷ RenewOverdue ∷ []) x.state) _ _ (λ _. left x a.number _ _)
    (λ _. left x a.number _ _)))))
message_row x a (types.RenewAnswer c (Some d)) =
    renew_answer_row x a.number c (Some d)
    (λ is. transition x a.number _ (is_after_due d x.due) _ _ (renewed x a.number c d is) (λ _. left x a.number _ _))
message_row x a (types.RenewAnswer c None) = renew_answer_row x a.number c None (not_renewed x a.number _)
message_row x a types.Recall =
    transition x a.number _ (is_among (Shipped ∷ NotReceivedOverdue ∷ Received ∷ Overdue ∷ RenewPending ∷ RenewOverdue ∷ [])
    x.state) _ _ (recalled x a.number _) (λ _.
    transition x a.number _ (is_among (Recall ∷ []) x.state) _ _ (λ _. left x a.number _ _) (λ _. left x a.number _ _))
message_row x a types.CheckedIn =
    transition x a.number _ (is_among (Returned ∷ []) x.state && not x.checked_in) _ _
    (λ is. given_back x a.number (and_parts _ _ is).0) (λ _.
    transition x a.number _ (is_among (Returned ∷ []) x.state) _ _ (λ _. left x a.number _ _) (λ _. left x a.number _ _))
message_row x a other = left x a.number _ _

-- If the answer to an admitted APDU satisfies `Moves`, so does the answer to one that may be refused.
admitted : (x : RequesterRecord) (k : ℕ) (body : Body) (refused : Option Refusal)
    (answer : Result Taking Refusal × RequesterRecord)
    → Moves x k body answer → Moves x k body (unless_refused refused x answer)
admitted x k body None answer row = row
admitted x k body (Some refusal) answer row = left x k body (Err refusal)

-- The answer to each APDU satisfies `Moves`.
pub delivery_row : (x : RequesterRecord) (a : Apdu) → Moves x a.number a.body (takes x a)
delivery_row x a = admitted x a.number a.body (first_refusal x.txn (is_requesters a.body) a) (take_message x a a.body)
    (message_row x a a.body)

-- ---- actions

-- A row of wishes leads out of IDLE. It does not leave a final state, nor SHIPPED or later. It adds no claim, and
-- answers only held conditions, once.
pub record Issues (x : RequesterRecord) (row : Transition) : Type 0 where
  pub begun : is_among (Idle ∷ []) row.next ≡ false
  pub final : is_among (Cancelled ∷ NotSupplied ∷ Returned ∷ []) x.state ≡ true → row.next ≡ x.state
  pub stays : is_among later x.state ≡ true → is_among later row.next ≡ true
  pub shows : (fact : Fact) → Claims (record_after x row) fact → Claims x fact
  pub replies : (n : ℕ) (is_yes : Bool) → row.body ≡ types.ConditionalReply n is_yes
      → (is_among (Conditional ∷ []) x.state ≡ true) × (has_message_with declines x.issued ≡ false) × (n ≡ unwrap_or x.held 0)
  pub once : is_some x.held ≡ is_among (Conditional ∷ []) x.state → AnswersOnce x → AnswersOnce (record_after x row)

-- A state that is none of IDLE, CANCELLED and NOT-SUPPLIED is not IDLE.
no_more_idle : (next : State) → is_among (Idle ∷ Cancelled ∷ NotSupplied ∷ []) next ≡ false → is_among (Idle ∷ []) next ≡ false
no_more_idle Idle on = search rules
no_more_idle next on = refl

-- A row to none of IDLE, CANCELLED and NOT-SUPPLIED adds no claim, if it claims no further refusal.
goes_on : (x : RequesterRecord) (row : Transition) → is_among (Idle ∷ Cancelled ∷ NotSupplied ∷ []) row.next ≡ false
    → ((c : ℕ) → ClaimsRefusal (record_after x row) c → ClaimsRefusal x c) → (fact : Fact)
    → Claims (record_after x row) fact → Claims x fact
goes_on x row away refused evidence.Cancelled shown = search rules
goes_on x row away refused evidence.Ended shown = search rules
goes_on x row away refused (evidence.Granted due) shown = shown
goes_on x row away refused (evidence.Refused cancel) shown = refused cancel shown
goes_on x row away refused evidence.GivenBack shown = shown

-- An APDU that answers no conditions is not a Conditional-Reply. If it were one, any `P` would hold.
no_reply : {P : Type 0} (body : Body) (n : ℕ) (is_yes : Bool) → replied_number body ≡ None
    → body ≡ types.ConditionalReply n is_yes → P
no_reply body n is_yes silent is = search rules

-- A row satisfies `Issues` if it answers no conditions, starts in no final state, and stays in SHIPPED or later. It
-- must lead to none of IDLE, CONDITIONAL, CANCELLED and NOT-SUPPLIED, and claim no further refusal.
silent_row : (x : RequesterRecord) (next : State) (body : Body) → replied_number body ≡ None → accepts body ≡ None
    → declines body ≡ false
    → is_among (Conditional ∷ []) next ≡ false → is_among (Idle ∷ Cancelled ∷ NotSupplied ∷ []) next ≡ false
    → is_among (Cancelled ∷ NotSupplied ∷ Returned ∷ []) x.state ≡ false
    → (is_among later x.state ≡ true → is_among later next ≡ true)
    → ((c : ℕ) → ClaimsRefusal (record_after x (record { next = next; body = body; held = x.held })) c → ClaimsRefusal x c)
    → Issues x (record { next = next; body = body; held = x.held })
silent_row x next body silent accepts_none declines_not held_no_more on settled_not stays refused =
    record {
      begun = no_more_idle next on;
      final = λ is. not_both _ settled_not is;
      stays = stays;
      shows = goes_on x (record { next = next; body = body; held = x.held }) on refused;
      replies = λ n is_yes is. no_reply body n is_yes silent is;
      once = λ held once. silent_once x body next x.held silent accepts_none declines_not held_no_more once;
    }

-- A row from SHIPPED or later, except RETURNED, to SHIPPED or later satisfies `Issues`, if it answers no conditions.
loan_row : (x : RequesterRecord) (next : State) (body : Body) → replied_number body ≡ None → accepts body ≡ None
    → declines body ≡ false
    → is_among (Shipped ∷ Received ∷ RenewPending ∷ Overdue ∷ RenewOverdue ∷ NotReceivedOverdue ∷ Recall ∷ []) x.state ≡ true
    → is_among later next ≡ true
    → Issues x (record { next = next; body = body; held = x.held })
loan_row x next body silent accepts_none declines_not here there =
    silent_row x next body silent accepts_none declines_not (search rules) (search rules) (search rules) (λ _. there)
    (λ c shown. search rules)

-- If a record claims after the wish Cancel that Cancel `c` was refused, it made this claim before.
cancel_refused_before : (x : RequesterRecord) (c : ℕ) → is_among (Pending ∷ []) x.state ≡ true
    → ClaimsRefusal (record_after x (record { next = CancelPending; body = types.Cancel; held = x.held })) c → ClaimsRefusal x c
cancel_refused_before x c is shown =
    let a : Apdu = next_apdu x.txn x.issued types.Cancel in (
      older_cancel c (length x.issued + 1) (last_of number_of_cancel (x.issued ++ a ∷ [])) (is_message_with is_cancel x.issued c)
          (last_cancel_more x.issued a refl) shown.2
          (was_more is_cancel x.issued a c shown.0),
      search (rules, is),
      search (rules, is),
    )

-- A reply leads to none of IDLE, CANCELLED and NOT-SUPPLIED.
answer_goes_on : (is_yes : Bool)
    → is_among (Idle ∷ Cancelled ∷ NotSupplied ∷ []) (if is_yes then Pending else Conditional) ≡ false
answer_goes_on true = refl
answer_goes_on false = refl

-- A reply to the held conditions in CONDITIONAL satisfies `Issues`, if none were declined.
answers_held : (x : RequesterRecord) (is_yes : Bool) → is_among (Conditional ∷ []) x.state ≡ true
    → has_message_with declines x.issued ≡ false → Issues x (answer_held x is_yes)
answers_held x is_yes here undeclined =
    record {
      begun = no_more_idle (answer_held x is_yes).next (answer_goes_on is_yes);
      final = λ is. search rules;
      stays = λ is. search rules;
      shows = goes_on x (answer_held x is_yes) (answer_goes_on is_yes)
          (λ c shown. (still_cancel x.issued _ c refl shown.0, search (rules, here), search (rules, here)));
      replies = λ n is_yes is. (here, undeclined, search rules);
      once = λ held once. reply_once x is_yes (unwrap_or x.held 0) (held_number x.held (held ∙ here)) here undeclined once;
    }

-- If a requester is in CONDITIONAL and has not declined, its list has no Conditional-Reply no. `conditional` says that
-- the state is CONDITIONAL, `declined` that the list has a Conditional-Reply no.
undeclined_there : (conditional declined : Bool) → conditional && not (conditional && declined) ≡ true
    → (conditional ≡ true) × (declined ≡ false)
undeclined_there true false h = (refl, refl)
undeclined_there conditional declined h = search rules

-- The transition of each wish satisfies `Issues`. Each case follows the tests of `transition_of`, one by one.
wish_row : (x : RequesterRecord) (wish : Wish) (row : Transition) → transition_of x wish ≡ Ok row → Issues x row
wish_row x (wishes.Request expiry item) row =
    at_transition (Issues x) (is_among (Idle ∷ []) x.state) _ _ row (λ is. is_this (Issues x) _ row
    (silent_row x Pending (types.IllRequest expiry item) refl refl refl refl refl (search (rules, is)) (search (rules, is))
    (λ c shown. (still_cancel x.issued _ c refl shown.0, search (rules, is), search (rules, is))))) (no_more (Issues x) _ row)
wish_row x wishes.Cancel row =
    at_transition (Issues x) (is_among (Pending ∷ []) x.state) _ _ row (λ is. is_this (Issues x) _ row
    (silent_row x CancelPending types.Cancel refl refl refl refl refl (search (rules, is)) (search (rules, is))
    (λ c. cancel_refused_before x c is))) (no_more (Issues x) _ row)
wish_row x (wishes.Reply is_yes) row =
    at_transition (Issues x) (is_among (Conditional ∷ []) x.state && not (is_declined x)) _ _ row (λ is.
    let there = undeclined_there (is_among (Conditional ∷ []) x.state) (has_message_with declines x.issued) is in
    is_this (Issues x) _ row (answers_held x is_yes there.0 there.1)) (no_more (Issues x) _ row)
wish_row x wishes.Receive row =
    at_transition (Issues x) (is_among (Shipped ∷ []) x.state) _ _ row
    (λ is. is_this (Issues x) _ row (loan_row x Received types.Received refl refl refl (search (rules, is)) refl)) (
    at_transition (Issues x) (is_among (NotReceivedOverdue ∷ []) x.state) _ _ row
    (λ is. is_this (Issues x) _ row (loan_row x Overdue types.Received refl refl refl (search (rules, is)) refl)) (
    at_transition (Issues x) (is_among (Recall ∷ []) x.state && not (is_received_by x)) _ _ row (λ is. is_this (Issues x) _ row
    (loan_row x Recall types.Received refl refl refl
    (search (rules, (and_parts (is_among (Recall ∷ []) x.state) (not (is_received_by x)) is).0)) refl))
    (no_more (Issues x) _ row)))
wish_row x (wishes.Renew wished) row =
    at_transition (Issues x) (is_among (Received ∷ []) x.state) _ _ row
    (λ is. is_this (Issues x) _ row (loan_row x RenewPending (types.Renew wished) refl refl refl (search (rules, is)) refl)) (
    at_transition (Issues x) (is_among (Overdue ∷ []) x.state) _ _ row
    (λ is. is_this (Issues x) _ row (loan_row x RenewOverdue (types.Renew wished) refl refl refl (search (rules, is)) refl))
    (no_more (Issues x) _ row))
wish_row x wishes.Return row =
    at_transition (Issues x) (is_among (Received ∷ RenewPending ∷ Overdue ∷ RenewOverdue ∷ []) x.state) _ _ row
    (λ is. is_this (Issues x) _ row
    (loan_row x Returned types.Returned refl refl refl (search (rules, is)) refl)) (
    at_transition (Issues x) (is_among (Recall ∷ []) x.state && is_received_by x) _ _ row (λ is. is_this (Issues x) _ row
    (loan_row x Returned types.Returned refl refl refl
    (search (rules, (and_parts (is_among (Recall ∷ []) x.state) (is_received_by x) is).0)) refl)) (no_more (Issues x) _ row))

-- If two records are equal as results, they are equal.
ok_is : (x y : RequesterRecord) → ◌≡◌ {A = Result RequesterRecord Refusal} (Ok x) (Ok y) → x ≡ y
ok_is x y h = search rules

-- If `P` holds of the record after the transition `found`, and the wish succeeds with `new`, `P` holds of `new`.
by_row : (P : RequesterRecord → Type 0) (x new : RequesterRecord) (found : Result Transition Refusal) (number : Result ℕ Refusal)
    → ((row : Transition) → found ≡ Ok row → P (record_after x row)) → acts_by x found number ≡ Ok new → P new
by_row P x new (Err refusal) number leads acted = search rules
by_row P x new (Ok row) (Err refusal) leads acted = search rules
by_row P x new (Ok row) (Ok n) leads acted = subst P (ok_is (record_after x row) new acted) (leads row refl)

-- If `P` holds after each transition that satisfies `Issues`, it holds after a wish.
pub of_acts : (P : RequesterRecord → Type 0) (x new : RequesterRecord) (wish : Wish)
    → ((row : Transition) → transition_of x wish ≡ Ok row → Issues x row → P (record_after x row)) → acts x wish ≡ Ok new → P new
of_acts P x new wish leads acted =
    by_row P x new (transition_of x wish) (next_number x.issued) (λ row there. leads row there (wish_row x wish row there)) acted

-- If a transition succeeds, the record after it has at most 255 messages, because a number was left.
by_few : (x new : RequesterRecord) (found : Result Transition Refusal) (number : Result ℕ Refusal)
    → next_number x.issued ≡ number → acts_by x found number ≡ Ok new → length new.issued ≤ 255
by_few x new (Err refusal) number next acted = search rules
by_few x new (Ok row) (Err refusal) next acted = search rules
by_few x new (Ok row) (Ok n) next acted =
    subst (λ (r : RequesterRecord). length r.issued ≤ 255) (ok_is (record_after x row) new acted)
    (few_with_next x.txn x.issued row.body n next)

-- The record after a wish has at most 255 messages.
pub acts_few : (x new : RequesterRecord) (wish : Wish) → acts x wish ≡ Ok new → length new.issued ≤ 255
acts_few x new wish = by_few x new (transition_of x wish) (next_number x.issued) refl
