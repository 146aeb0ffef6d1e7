-- Proves that after a deed of the responder `has_heard` still holds at the responder of each message of the requester.
use Rattle.std.proofs.Common.{rules, arith, ◌≡◌, ◌⊎◌, inl, inr, ℕ, ◌+◌, ◌≤◌, ◌<◌, Bool, true, false, not, ◌&&◌, ◌||◌, nat_lt}
use Rattle.std.proofs.Common.{List}
use Rattle.std.proofs.Common.{[], ◌∷◌, length, length-append, Option, Some, None, is_some, Result, Ok, Err, if◌then◌else◌}
use Rattle.std.proofs.Common.{refl}
use Rattle.std.proofs.Common.{sym, ap, ◌∙◌, subst}
use Rattle.std.proofs.lemmas.Bool.{and_parts, not-true, both_ways, false_from_ne_true, true_from_ne_false, le-leb, eqb-true}
use Rattle.ill_values.specs.Day.{Date}
use Rattle.ill_values.specs.TxnId.{Qualifiers}
use Rattle.ill_values.specs.declared.apdu.Apdu.{Apdu}
use Rattle.ill_values.specs.Body.{Body}
use Rattle.ill_values.specs.declared.apdu.BodyWith.TheVariants as types
use Rattle.ill_values.specs.declared.apdu.AnswerResult.{AnswerResult}
use Rattle.ill_values.specs.declared.apdu.AnswerResult.TheVariants as results
use Rattle.ill_values.specs.Bodies.{is_cancel, is_received, is_renew, is_returned, declines}
use Rattle.ill_core.specs.declared.refusal.Refusal.{Refusal}
use Rattle.ill_core.specs.declared.refusal.Refusal.TheVariants.{NumbersUsed}
use Rattle.ill_core.specs.declared.responder.Deed.{Deed}
use Rattle.ill_core.specs.declared.state.State.{State}
use Rattle.ill_core.specs.declared.state.State.TheVariants as states
use Rattle.ill_core.specs.State.{is_among}
use Rattle.ill_core.specs.Numbers.{is_equal_number, is_at_most, is_below}
use Rattle.ill_core.specs.Issued.{message, has_message_with, is_message_with, is_there, is_none, with_next, next_apdu}
use Rattle.ill_core.specs.Requester.{RequesterRecord, later, accepted_number, last_cancel, last_renew}
use Rattle.ill_core.specs.RequesterEvidence as requester
use Rattle.ill_core.specs.RequesterEvidence.{replied_number}
use Rattle.ill_core.specs.RequesterNotices as notices
use Rattle.ill_core.specs.RequesterNotices.{is_awaiting_answer, is_due_after}
use Rattle.ill_core.specs.Responder.{ResponderRecord, later as shipped_states}
use Rattle.ill_core.specs.ResponderActions.{acts, acts_by, transition_of, record_after, Transition, after_answer, no_date}
use Rattle.ill_core.specs.ResponderEvidence as responder
use Rattle.ill_core.specs.ResponderEvidence.{MayCancel, MayRenew, answered_number}
use Rattle.ill_core.specs.ResponderNotices as records
use Rattle.ill_world.specs.Invariant.{RequesterInvariant, ResponderInvariant}
use Rattle.ill_core.proofs.MessageLemmas.{message_says, says_message}
use Rattle.ill_core.proofs.ResponderTransitions.{IsTransition, is_transition, answers, allows_cancel, refuses_cancel, ships}
use Rattle.ill_core.proofs.ResponderTransitions.{renews, refuses_renewal, refuses_late, reminds, reminds_renewing, recalls}
use Rattle.ill_core.proofs.ResponderTransitions.{checks_in, expires}
use Rattle.ill_core.proofs.GrantLemmas.{itself_not_before}
use Rattle.ill_world.proofs.Agreements.{tells_cancel, tells_refused}
use Rattle.ill_world.proofs.Claims.{AreIssued, is_in_not_supplied, not_supplied_faces, shipped_by}
use Rattle.ill_world.proofs.Finds.{all_found, not_above_last}
use Rattle.ill_world.proofs.Pairs.{attests_answered, attests_named, attests_recall, cancel_heard, cancel_pending_alone, implied}
use Rattle.ill_world.proofs.Pairs.{message_within, most, neither, no_heard, received_heard, renew_heard}
use Rattle.ill_world.proofs.Pairs.{not_below, returned_heard, some_of}
use Rattle.ill_world.proofs.Uniqueness.{message_number}

-- ---- the states to which a deed may lead, and a deed that is done

-- Returns the states to which a deed may lead from this state.
abbrev may_lead : State → List State
may_lead states.InProcess = states.Conditional ∷ states.InProcess ∷ states.NotSupplied ∷ states.Shipped ∷ []
may_lead states.Conditional = states.NotSupplied ∷ []
may_lead states.CancelPending = states.Cancelled ∷ states.InProcess ∷ []
may_lead states.Shipped = states.Overdue ∷ states.Recall ∷ []
may_lead states.RenewPending = states.Shipped ∷ states.RenewOverdue ∷ []
may_lead states.Overdue = states.Recall ∷ []
may_lead states.RenewOverdue = states.Shipped ∷ states.Overdue ∷ []
may_lead states.Returned = states.CheckedIn ∷ []
may_lead other = []

-- A deed may lead from the state of `y` to this one.
abbrev Leads : ResponderRecord → State → Type 0
Leads y next = is_among (may_lead y.state) next ≡ true

-- A deed may lead from IN-PROCESS to each state of an answer.
answer_leads : (s : State) (answer : AnswerResult) → is_among (states.InProcess ∷ []) s ≡ true
    → is_among (may_lead s) (after_answer answer) ≡ true
answer_leads states.InProcess results.Conditional is = refl
answer_leads states.InProcess results.WillSupply is = refl
answer_leads states.InProcess results.HoldPlaced is = refl
answer_leads states.InProcess answer is = refl
answer_leads s answer is = search rules

-- A deed may lead from CANCEL-PENDING to CANCELLED and to IN-PROCESS.
cancel_leads : (s : State) → is_among (states.CancelPending ∷ []) s ≡ true
    → (is_among (may_lead s) states.Cancelled ≡ true) × (is_among (may_lead s) states.InProcess ≡ true)
cancel_leads states.CancelPending is = (refl, refl)
cancel_leads s is = search rules

-- A deed may lead from IN-PROCESS to SHIPPED.
ship_leads : (s : State) → is_among (states.InProcess ∷ []) s ≡ true → is_among (may_lead s) states.Shipped ≡ true
ship_leads states.InProcess is = refl
ship_leads s is = search rules

-- A deed may lead from RENEW/PENDING and from RENEW/OVERDUE to SHIPPED.
renew_leads : (s : State) → is_among (states.RenewPending ∷ states.RenewOverdue ∷ []) s ≡ true
    → is_among (may_lead s) states.Shipped ≡ true
renew_leads states.RenewPending is = refl
renew_leads states.RenewOverdue is = refl
renew_leads s is = search rules

-- A deed may lead from RENEW/PENDING to SHIPPED and to RENEW/OVERDUE.
pending_leads : (s : State) → is_among (states.RenewPending ∷ []) s ≡ true
    → (is_among (may_lead s) states.Shipped ≡ true) × (is_among (may_lead s) states.RenewOverdue ≡ true)
pending_leads states.RenewPending is = (refl, refl)
pending_leads s is = search rules

-- A deed may lead from RENEW/OVERDUE to OVERDUE.
late_leads : (s : State) → is_among (states.RenewOverdue ∷ []) s ≡ true → is_among (may_lead s) states.Overdue ≡ true
late_leads states.RenewOverdue is = refl
late_leads s is = search rules

-- A deed may lead from SHIPPED to OVERDUE.
overdue_leads : (s : State) → is_among (states.Shipped ∷ []) s ≡ true → is_among (may_lead s) states.Overdue ≡ true
overdue_leads states.Shipped is = refl
overdue_leads s is = search rules

-- A deed may lead from SHIPPED and from OVERDUE to RECALL.
recall_leads : (s : State) → is_among (states.Shipped ∷ states.Overdue ∷ []) s ≡ true
    → is_among (may_lead s) states.Recall ≡ true
recall_leads states.Shipped is = refl
recall_leads states.Overdue is = refl
recall_leads s is = search rules

-- A deed may lead from RETURNED to CHECKED-IN.
check_in_leads : (s : State) → is_among (states.Returned ∷ []) s ≡ true → is_among (may_lead s) states.CheckedIn ≡ true
check_in_leads states.Returned is = refl
check_in_leads s is = search rules

-- A deed may lead from IN-PROCESS and from CONDITIONAL to NOT-SUPPLIED.
expire_leads : (s : State) → is_among (states.InProcess ∷ states.Conditional ∷ []) s ≡ true
    → is_among (may_lead s) states.NotSupplied ≡ true
expire_leads states.InProcess is = refl
expire_leads states.Conditional is = refl
expire_leads s is = search rules

-- A transition of a deed leads to a state to which a deed may lead.
leads : (y : ResponderRecord) (t : Transition) → IsTransition y t → Leads y t.next
leads y _ (answers answer at) = answer_leads y.state answer at
leads y _ (allows_cancel at) = (cancel_leads y.state at).0
leads y _ (refuses_cancel at) = (cancel_leads y.state at).1
leads y _ (ships due at) = ship_leads y.state at
leads y _ (renews due at _) = renew_leads y.state at
leads y _ (refuses_renewal at) = (pending_leads y.state at).0
leads y _ (refuses_late at) = late_leads y.state at
leads y _ (reminds at) = overdue_leads y.state at
leads y _ (reminds_renewing at) = (pending_leads y.state at).1
leads y _ (recalls at) = recall_leads y.state at
leads y _ (checks_in at) = check_in_leads y.state at
leads y _ (expires at) = expire_leads y.state at

-- Equal results at Ok have equal values.
same_ok : {X F : Type 0} (x y : X) → ◌≡◌ {A = Result X F} (Ok x) (Ok y) → x ≡ y
same_ok x y is = search rules

-- A deed that is done has a transition, and a number was left for its message.
done_by : (y : ResponderRecord) (found : Result Transition Refusal) (left : Bool) (new : ResponderRecord)
    → acts_by y found (if left then Ok (length y.issued + 1) else Err NumbersUsed) ≡ Ok new
    → (t : Transition) × (found ≡ Ok t) × (left ≡ true) × (new ≡ record_after y t)
done_by y (Ok t) true new is = (t, refl, refl, sym (same_ok (record_after y t) new is))
done_by y (Ok t) false new is = search rules
done_by y (Err refusal) left new is = search rules

-- ---- from the state after a deed to the one before

-- No deed leads to IDLE.
not_idle : (s next : State) → is_among (may_lead s) next ≡ true → is_among (states.Idle ∷ []) next ≡ false
not_idle s next leads = search rules

-- A deed leads to CONDITIONAL from IN-PROCESS alone.
from_in_process : (s next : State) → is_among (may_lead s) next ≡ true → is_among (states.Conditional ∷ []) next ≡ true
    → is_among (states.InProcess ∷ []) s ≡ true
from_in_process states.InProcess next leads is = refl
from_in_process states.Conditional next leads is = search rules
from_in_process states.CancelPending next leads is = search rules
from_in_process states.Shipped next leads is = search rules
from_in_process states.RenewPending next leads is = search rules
from_in_process states.Overdue next leads is = search rules
from_in_process states.RenewOverdue next leads is = search rules
from_in_process states.Returned next leads is = search rules
from_in_process s next leads is = search rules

-- A deed leads to an undecided state from an undecided state, or from CANCEL-PENDING.
from_undecided : (s next : State) → is_among (may_lead s) next ≡ true → is_among records.undecided next ≡ true
    → (is_among records.undecided s ≡ true) ⊎ (is_among (states.CancelPending ∷ []) s ≡ true)
from_undecided states.InProcess next leads is = inl refl
from_undecided states.Conditional next leads is = inl refl
from_undecided states.CancelPending next leads is = inr refl
from_undecided states.Shipped next leads is = search rules
from_undecided states.RenewPending next leads is = search rules
from_undecided states.Overdue next leads is = search rules
from_undecided states.RenewOverdue next leads is = search rules
from_undecided states.Returned next leads is = search rules
from_undecided s next leads is = search rules

-- A deed leads to SHIPPED or later from SHIPPED or later, or from IN-PROCESS.
from_later : (s next : State) → is_among (may_lead s) next ≡ true → is_among shipped_states next ≡ true
    → (is_among shipped_states s ≡ true) ⊎ (is_among (states.InProcess ∷ []) s ≡ true)
from_later states.InProcess next leads is = inr refl
from_later states.Conditional next leads is = search rules
from_later states.CancelPending next leads is = search rules
from_later states.Shipped next leads is = inl refl
from_later states.RenewPending next leads is = inl refl
from_later states.Overdue next leads is = inl refl
from_later states.RenewOverdue next leads is = inl refl
from_later states.Returned next leads is = inl refl
from_later s next leads is = search rules

-- A deed leads to a lent state from a lent state, or from IN-PROCESS.
from_lent : (s next : State) → is_among (may_lead s) next ≡ true → is_among records.lent next ≡ true
    → (is_among records.lent s ≡ true) ⊎ (is_among (states.InProcess ∷ []) s ≡ true)
from_lent states.InProcess next leads is = inr refl
from_lent states.Conditional next leads is = search rules
from_lent states.CancelPending next leads is = search rules
from_lent states.Shipped next leads is = inl refl
from_lent states.RenewPending next leads is = inl refl
from_lent states.Overdue next leads is = inl refl
from_lent states.RenewOverdue next leads is = inl refl
from_lent states.Returned next leads is = search rules
from_lent s next leads is = search rules

-- A deed leads to SHIPPED or OVERDUE from SHIPPED or OVERDUE, from a Renew that waits, or from IN-PROCESS.
from_settled : (s next : State) → is_among (may_lead s) next ≡ true
    → is_among (states.Shipped ∷ states.Overdue ∷ []) next ≡ true
    → (is_among (states.Shipped ∷ states.Overdue ∷ []) s ≡ true)
    ⊎ (is_among (states.RenewPending ∷ states.RenewOverdue ∷ []) s ≡ true) ⊎ (is_among (states.InProcess ∷ []) s ≡ true)
from_settled states.InProcess next leads is = inr (inr refl)
from_settled states.Conditional next leads is = search rules
from_settled states.CancelPending next leads is = search rules
from_settled states.Shipped next leads is = inl refl
from_settled states.RenewPending next leads is = inr (inl refl)
from_settled states.Overdue next leads is = inl refl
from_settled states.RenewOverdue next leads is = inr (inl refl)
from_settled states.Returned next leads is = search rules
from_settled s next leads is = search rules

-- ---- a state of one list, and other lists

-- A side in CANCEL-PENDING or CANCELLED is in PENDING, CANCEL-PENDING or CANCELLED.
cancel_is_among : (s : State) → is_among (states.CancelPending ∷ states.Cancelled ∷ []) s ≡ true
    → is_among (states.Pending ∷ states.CancelPending ∷ states.Cancelled ∷ []) s ≡ true
cancel_is_among states.CancelPending is = refl
cancel_is_among states.Cancelled is = refl
cancel_is_among s is = search rules

-- A responder in IN-PROCESS has not shipped, and is undecided.
in_process : (s : State) → is_among (states.InProcess ∷ []) s ≡ true
    → (is_among shipped_states s ≡ false) × (is_among records.undecided s ≡ true)
in_process states.InProcess is = (refl, refl)
in_process s is = search rules

-- A side in RECALL is in the state RECALL.
is_in_recall : (s : State) → is_among (states.Recall ∷ []) s ≡ true → s ≡ states.Recall
is_in_recall states.Recall is = refl
is_in_recall s is = search rules

-- A responder with a Renew that waits has lent the item, and is in none of RECALL, RETURNED and CHECKED-IN.
renew_is_lent : (s : State) → is_among (states.RenewPending ∷ states.RenewOverdue ∷ []) s ≡ true
    → (is_among records.lent s ≡ true) × (is_among (states.Recall ∷ states.Returned ∷ states.CheckedIn ∷ []) s ≡ false)
renew_is_lent states.RenewPending is = (refl, refl)
renew_is_lent states.RenewOverdue is = (refl, refl)
renew_is_lent s is = search rules

-- A requester that is not in SHIPPED or later is in none of the states of these four lists.
before_shipped : (s : State) → is_among later s ≡ false
    → (is_among (states.Recall ∷ states.Returned ∷ []) s ≡ false)
    × (is_among (states.RenewPending ∷ states.RenewOverdue ∷ []) s ≡ false) × (is_among (states.Returned ∷ []) s ≡ false)
    × (is_among (states.Received ∷ states.RenewPending ∷ states.Overdue ∷ states.RenewOverdue ∷ states.Recall ∷ states.Returned
    ∷ []) s ≡ false)
before_shipped s is = search rules

-- A side that is in neither RECALL nor RETURNED is not in the list of both.
not_back : (s : State) → is_among (states.Recall ∷ []) s ≡ false → is_among (states.Returned ∷ []) s ≡ false
    → is_among (states.Recall ∷ states.Returned ∷ []) s ≡ false
not_back states.Recall recalled returned = search rules
not_back s recalled returned = returned

-- ---- numbers

-- If `is_equal_number` holds of n and `o`, the value of `o` is n.
equal_is : (n : ℕ) (o : Option ℕ) → is_equal_number n o ≡ true → o ≡ Some n
equal_is n None is = search rules
equal_is n (Some m) is = ap Some (sym (eqb-true n m is))

-- If the option `o` has the value `m`, each number `k` up to `m` is at most `o`.
at_most : (k m : ℕ) (o : Option ℕ) → o ≡ Some m → k ≤ m → is_at_most k o ≡ true
at_most k m o is few = subst (λ (p : Option ℕ). is_at_most k p ≡ true) (sym is) (le-leb k m few)

-- If there is no `due` date, it is not after `day`.
no_due : (day : Date) (due : Option Date) → is_some due ≡ false → is_due_after day due ≡ false
no_due day None none = refl
no_due day (Some d) none = search rules

-- If the last number is outstanding in CONDITIONAL, it is that of the last message. So a number `c` below it is not
-- outstanding.
not_outstanding : (c : ℕ) (conditional : Bool) (apdus : List Apdu) → (conditional ≡ true → c < length apdus)
    → is_equal_number c (if conditional then (if is_none apdus then None else Some (length apdus)) else None) ≡ false
not_outstanding c false apdus below = refl
not_outstanding c true [] below = refl
not_outstanding c true (a ∷ apdus) below =
    false_from_ne_true _ (λ same. absurd (omega (arith, eqb-true c (length (a ∷ apdus)) same, below refl)))

-- If the `premise` implies the `conclusion`, the test of the implication is true.
holds_if : (premise conclusion : Bool) → (premise ≡ true → conclusion ≡ true) → (not premise || conclusion) ≡ true
holds_if true conclusion has = has refl
holds_if false conclusion has = refl

-- For each `due`, a date or none, there is a day that it is not after.
not_after : (due : Option Date) → (day : Date) × (is_due_after day due ≡ false)
not_after None = (no_date, refl)
not_after (Some due) = (due, itself_not_before due)

-- ---- a requester's record and a responder's

-- Premises: both records satisfy their invariants, and each has issued what it has sent (`issued`, `heeded`). The
-- responder has heard each message of the requester (`heard`).
module _ (txn : Qualifiers) (x : RequesterRecord) (y : ResponderRecord) (responder_sent requester_sent : List (Option Apdu))
    (borrower : RequesterInvariant txn x responder_sent) (lender : ResponderInvariant txn y requester_sent)
    (issued : AreIssued responder_sent y.issued) (heeded : AreIssued requester_sent x.issued)
    (heard : (n : ℕ) (a : Apdu) → message x.issued n ≡ Some a → records.has_heard y a.number a.body ≡ true) where
  -- If the responder has not shipped, the requester is not in SHIPPED or later.
  not_shipped : is_among shipped_states y.state ≡ false → is_among later x.state ≡ false
  not_shipped before = false_from_ne_true _ (λ is. both_ways _ before (sym lender.ends.shipped
      ∙ shipped_by txn x y responder_sent requester_sent x.due borrower lender issued refl (borrower.rules.parts.due ∙ is)))

  -- If the responder is not in NOT-SUPPLIED, the requester is not.
  not_unsupplied : is_among (states.NotSupplied ∷ []) y.state ≡ false → is_among (states.NotSupplied ∷ []) x.state ≡ false
  not_unsupplied supplied = false_from_ne_true _ (λ is. both_ways _ supplied (ap (is_among (states.NotSupplied ∷ []))
      (not_supplied_faces txn x y responder_sent requester_sent borrower lender issued (is_in_not_supplied x.state is))))

  -- ---- CANCEL-PENDING

  -- The last Cancel of a responder in CANCEL-PENDING is open at the requester. If it were closed, the requester would
  -- know a refusal. The responder has refused only earlier ones.
  cancel_waits : (c : ℕ) → is_among (states.CancelPending ∷ []) y.state ≡ true → y.last_cancel ≡ Some c
      → requester.is_open x c ≡ true
  cancel_waits c is last =
      let no = cancel_pending_alone y.state is in
      let known = lender.knows (responder.CancelAsked c) (inl last) in
      let at = heeded known.0 known.1 in
      let says = tells_cancel known.0.number c known.0.body known.2 in
      let number = sym (message_number x.txn x.issued at.0 known.0 borrower.rules.numbered at.1).1 ∙ says.1 in
      let issued_it : is_message_with is_cancel x.issued c ≡ true =
      ap (is_there is_cancel) (ap (message x.issued) (sym number) ∙ at.1) ∙ says.0 in
      true_from_ne_false _ (λ closed.
      let refused = borrower.knows (requester.Refused c)
      (issued_it, neither x.state (not_unsupplied no.2) (not_shipped no.4), closed) in
      let there = issued refused.0 refused.1 in
      not_below c y.last_cancel last (all_found (λ a. answered_number MayCancel a.body) (λ n. is_below n y.last_cancel) y.issued
      there.0 refused.0 c (lender.cancels.below is) there.1
      (ap (answered_number MayCancel) (tells_refused refused.0.body c refused.2))))

  -- The last Cancel of a responder in CANCEL-PENDING, which is open at the requester.
  open_cancel : is_among (states.CancelPending ∷ []) y.state ≡ true
      → (c : ℕ) × (y.last_cancel ≡ Some c) × (requester.is_open x c ≡ true)
  open_cancel is =
      let last = some_of y.last_cancel (implied _ _ lender.rules.parts.cancel (cancel_pending_alone y.state is).5) in
      (last.0, last.1, cancel_waits last.0 is last.1)

  -- If the responder is in CANCEL-PENDING, the requester has declined no conditions.
  none_declined : (n : ℕ) (a : Apdu) → message x.issued n ≡ Some a → declines a.body ≡ true
      → is_among (states.CancelPending ∷ []) y.state ≡ true → ⊥
  none_declined n a at says is =
      let has = message_says declines x.issued n a at says in
      both_ways _ (not-true _ (implied _ _ borrower.rules.issued.declined has))
      (cancel_is_among x.state (and_parts _ _ (open_cancel is).2).0)

  -- If the responder is in CANCEL-PENDING, it has taken the last Cancel of the requester.
  last_cancel_taken : (n : ℕ) (a : Apdu) → message x.issued n ≡ Some a → is_cancel a.body ≡ true
      → is_among (states.CancelPending ∷ []) y.state ≡ true → is_at_most a.number y.last_cancel ≡ true
  last_cancel_taken n a at says is =
      let waits = open_cancel is in
      let own = equal_is waits.0 (last_cancel x) (and_parts _ _ waits.2).1 in
      at_most a.number waits.0 y.last_cancel waits.1
      (not_above_last is_cancel x.txn x.issued n waits.0 a borrower.rules.numbered at says own)

  -- ---- RENEW/PENDING and RENEW/OVERDUE

  -- If a Renew waits at the responder, the requester is not in RECALL.
  not_recalled : is_among (states.RenewPending ∷ states.RenewOverdue ∷ []) y.state ≡ true
      → is_among (states.Recall ∷ []) x.state ≡ false
  not_recalled is = false_from_ne_true _ (λ recalled.
      let known = borrower.notices notices.Recalled (is_in_recall x.state recalled) in
      let there = issued known.0 known.1 in
      both_ways _ (renew_is_lent y.state is).1 (lender.recall.after (message_says records.is_recall y.issued there.0 known.0
      there.1 (attests_recall known.0.number known.0.body known.2))))

  -- If a Renew waits at the responder, the requester has not returned the item.
  not_returned : is_among (states.RenewPending ∷ states.RenewOverdue ∷ []) y.state ≡ true
      → is_among (states.Returned ∷ []) x.state ≡ false
  not_returned is = false_from_ne_true _ (λ returned.
      let at = says_message is_returned x.issued (borrower.rules.issued.returned ∙ returned) in
      both_ways _ (returned_heard y at.1.number at.1.body at.3 (heard at.0 at.1 at.2)) (renew_is_lent y.state is).0)

  -- The last Renew of the responder, if one waits there, waits for its answer at the requester. Otherwise the requester
  -- would know an answer. The responder has answered only earlier ones.
  renew_waits : (m : ℕ) → is_among (states.RenewPending ∷ states.RenewOverdue ∷ []) y.state ≡ true → y.last_renew ≡ Some m
      → (is_awaiting_answer x m ≡ false → ⊥)
  renew_waits m is last over =
      let asked = lender.asked MayRenew m (inl last) in
      let at = heeded asked.0 asked.1 in
      let number = sym (message_number x.txn x.issued at.0 asked.0 borrower.rules.numbered at.1).1 ∙ asked.3 in
      let issued_it : is_message_with is_renew x.issued m ≡ true =
      ap (is_there is_renew) (ap (message x.issued) (sym number) ∙ at.1) ∙ asked.2 in
      let day = not_after x.due in
      let known = borrower.notices (notices.Answered m day.0)
      (issued_it, not_back x.state (not_recalled is) (not_returned is), over, day.1) in
      let there = issued known.0 known.1 in
      not_below m y.last_renew last (all_found (λ a. answered_number MayRenew a.body) (λ k. is_below k y.last_renew) y.issued
      there.0 known.0 m (lender.renewals.below is) there.1 (attests_answered known.0.number m day.0 known.0.body known.2))

  -- If a Renew waits at the responder, it has taken the last Renew of the requester.
  last_renew_taken : (n : ℕ) (a : Apdu) → message x.issued n ≡ Some a → is_renew a.body ≡ true
      → is_among (states.RenewPending ∷ states.RenewOverdue ∷ []) y.state ≡ true → is_at_most a.number y.last_renew ≡ true
  last_renew_taken n a at says is =
      let last = some_of y.last_renew (implied _ _ lender.rules.parts.renew is) in
      let waits = true_from_ne_false _ (renew_waits last.0 is last.1) in
      let own = equal_is last.0 (last_renew x) (and_parts _ _ waits).1 in
      at_most a.number last.0 y.last_renew last.1
      (not_above_last is_renew x.txn x.issued n last.0 a borrower.rules.numbered at says own)

  -- ---- IN-PROCESS

  -- If the responder is in IN-PROCESS, the requester is not in SHIPPED or later, so it has no due date.
  none_due : is_among (states.InProcess ∷ []) y.state ≡ true → is_among later x.state ≡ false
  none_due is = not_shipped (in_process y.state is).0

  -- A responder in IN-PROCESS has answered each Renew of the requester: none waits there, so the requester knows each
  -- answer.
  renew_answered_before : (n : ℕ) (a : Apdu) → message x.issued n ≡ Some a → is_renew a.body ≡ true
      → is_among (states.InProcess ∷ []) y.state ≡ true → is_at_most a.number y.last_renew ≡ true
  renew_answered_before n a at says is =
      let no = before_shipped x.state (none_due is) in
      let number = (message_number x.txn x.issued n a borrower.rules.numbered at).1 in
      let issued_it : is_message_with is_renew x.issued a.number ≡ true =
      ap (is_there is_renew) (ap (message x.issued) number ∙ at) ∙ says in
      let not_waiting : is_awaiting_answer x a.number ≡ false = ap (λ b. b && is_equal_number a.number (last_renew x)) no.1 in
      let known = borrower.notices (notices.Answered a.number no_date)
      (issued_it, no.0, not_waiting, no_due no_date x.due (borrower.rules.parts.due ∙ none_due is)) in
      let there = issued known.0 known.1 in
      all_found (λ b. answered_number MayRenew b.body) (λ k. is_at_most k y.last_renew) y.issued there.0 known.0 a.number
      lender.renewals.most there.1 (attests_answered known.0.number a.number no_date known.0.body known.2)

  -- A responder in IN-PROCESS faces a requester that has issued no Received.
  none_received : (n : ℕ) (a : Apdu) → message x.issued n ≡ Some a → is_received a.body ≡ true
      → is_among (states.InProcess ∷ []) y.state ≡ true → ⊥
  none_received n a at says is =
      both_ways _ (before_shipped x.state (none_due is)).3
      (implied _ _ borrower.rules.issued.not_received (message_says is_received x.issued n a at says))

  -- A responder in IN-PROCESS faces a requester that has issued no Returned.
  none_returned : (n : ℕ) (a : Apdu) → message x.issued n ≡ Some a → is_returned a.body ≡ true
      → is_among (states.InProcess ∷ []) y.state ≡ true → ⊥
  none_returned n a at says is =
      both_ways _ (before_shipped x.state (none_due is)).2
      (sym borrower.rules.issued.returned ∙ message_says is_returned x.issued n a at says)

  -- If a responder in IN-PROCESS has a number left, each accepted number is that of a message that it has issued. The
  -- requester knows the conditions that it accepts.
  accepted_before : (n c : ℕ) (a : Apdu) → message x.issued n ≡ Some a → a.body ≡ types.ConditionalReply c true
      → is_among (states.InProcess ∷ []) y.state ≡ true → nat_lt (length y.issued) 255 ≡ true → c ≤ length y.issued
  accepted_before n c a at body is left =
      let none : has_message_with declines x.issued ≡ false = false_from_ne_true _ (λ has.
      let no = says_message declines x.issued has in
      both_ways _ (no_heard y no.1.number no.1.body no.3 (heard no.0 no.1 no.2) (in_process y.state is).1) left) in
      let few = all_found (λ b. replied_number b.body) (λ k. is_at_most k (accepted_number x)) x.issued n a c
      (borrower.replies.above none) at (ap replied_number body) in
      let accepted = most c (accepted_number x) few in
      let known = borrower.notices (notices.Named accepted.0) (inr accepted.1) in
      let there = issued known.0 known.1 in
      let number = message_number y.txn y.issued there.0 known.0 lender.rules.numbered there.1 in
      let within = message_within y.issued there.0 known.0 there.1 in
      omega (arith, accepted.2, number.1, within, attests_named known.0.number accepted.0 known.0.body known.2)

  -- ---- after a deed

  -- If a deed leads to the state after `t`, `has_heard` then holds of each message of the requester. A number was left
  -- (`left`). Each case is one kind of message. It looks at the states from which a deed leads there.
  heard_then : (t : Transition) → Leads y t.next → nat_lt (length y.issued) 255 ≡ true → (n : ℕ) (a : Apdu)
      → message x.issued n ≡ Some a → (body : Body) → a.body ≡ body → records.has_heard (record_after y t) a.number body ≡ true
  heard_then t leads_to_it left n a at (types.IllRequest expiry item) is = ap not (not_idle y.state t.next leads_to_it)
  heard_then t leads_to_it left n a at (types.ConditionalReply c true) is =
      ap not (not_outstanding c (is_among (states.Conditional ∷ []) t.next) (with_next y.txn y.issued t.body) (λ conditional.
      omega (
        arith,
        accepted_before n c a at is (from_in_process y.state t.next leads_to_it conditional) left,
        length-append y.issued (next_apdu y.txn y.issued t.body ∷ []),
      )))
  heard_then t leads_to_it left n a at (types.ConditionalReply c false) is =
      holds_if (is_among records.undecided t.next) _ (λ is_open. elim (from_undecided y.state t.next leads_to_it is_open) [
        | inl before ↦
            absurd (both_ways _ (no_heard y a.number a.body (ap declines is) (heard n a at) before) left)
        | inr waits ↦ absurd (none_declined n a at (ap declines is) waits)
      ])
  heard_then t leads_to_it left n a at types.Cancel is =
      holds_if (is_among records.undecided t.next) _ (λ is_open. elim (from_undecided y.state t.next leads_to_it is_open) [
        | inl before ↦ cancel_heard y a.number a.body (ap is_cancel is) (heard n a at) before
        | inr waits ↦ last_cancel_taken n a at (ap is_cancel is) waits
      ])
  heard_then t leads_to_it left n a at types.Received is =
      holds_if (is_among shipped_states t.next) _ (λ shipped. elim (from_later y.state t.next leads_to_it shipped) [
        | inl before ↦ received_heard y a.number a.body (ap is_received is) (heard n a at) before
        | inr first ↦ absurd (none_received n a at (ap is_received is) first)
      ])
  heard_then t leads_to_it left n a at (types.Renew wished) is =
      holds_if (is_among (states.Shipped ∷ states.Overdue ∷ []) t.next) _ (λ settled.
      elim (from_settled y.state t.next leads_to_it settled) [
        | inl before ↦ renew_heard y a.number a.body (ap is_renew is) (heard n a at) before
        | inr (inl waits) ↦ last_renew_taken n a at (ap is_renew is) waits
        | inr (inr first) ↦ renew_answered_before n a at (ap is_renew is) first
      ])
  heard_then t leads_to_it left n a at types.Returned is =
      ap not (false_from_ne_true _ (λ lent. elim (from_lent y.state t.next leads_to_it lent) [
        | inl before ↦ both_ways _ (returned_heard y a.number a.body (ap is_returned is) (heard n a at)) before
        | inr first ↦ none_returned n a at (ap is_returned is) first
      ]))
  heard_then t leads_to_it left n a at body is = refl

  -- If a deed is done, `has_heard` holds of each message of the requester in the record `new`.
  pub heard_after_deed : (deed : Deed) (today : Date) (new : ResponderRecord) → acts y deed today ≡ Ok new → (n : ℕ) (a : Apdu)
      → message x.issued n ≡ Some a → records.has_heard new a.number a.body ≡ true
  heard_after_deed deed today new is n a at =
      let done = done_by y (transition_of y deed today) (nat_lt (length y.issued) 255) new is in
      subst (λ (r : ResponderRecord). records.has_heard r a.number a.body ≡ true) (sym done.3)
      (heard_then done.0 (leads y done.0 (is_transition y deed today done.0 done.1)) done.2 n a at a.body refl)
