-- After each record has taken all messages of the other, the two records are converged. Either then satisfies
-- `has_heard`: no message of the other would change it now.
use Rattle.std.proofs.Common.{rules, arith, ◌≡◌, ◌⊎◌, inl, inr, ℕ, zero, suc, ◌≤◌, ◌<◌, Bool, true, false, not, ◌&&◌, nat_lt}
use Rattle.std.proofs.Common.{List, [], ◌∷◌, length, Option, Some, None, is_some, refl, sym, ap, ◌∙◌, subst}
use Rattle.std.specs.Prelude.{◌==◌}
use Rattle.std.specs.List.{list_any, filter_map}
use Rattle.std.proofs.lemmas.Bool.{and_parts, and_from, not-true, false_from_ne_true, true_from_ne_false, both_ways, leb-true}
use Rattle.std.proofs.lemmas.Bool.{le-leb}
use Rattle.std.proofs.lemmas.Option.{same_Some, slice_get_within}
use Rattle.ill_values.specs.Day.{Date}
use Rattle.ill_values.specs.TxnId.{Qualifiers}
use Rattle.ill_values.specs.declared.apdu.Apdu.{Apdu}
use Rattle.ill_values.specs.Body.{Body}
use Rattle.ill_values.specs.declared.apdu.BodyWith.TheVariants as types
use Rattle.ill_values.specs.declared.apdu.AnswerResult.TheVariants as results
use Rattle.ill_core.specs.declared.state.State.{State}
use Rattle.ill_core.specs.declared.state.State.TheVariants as states
use Rattle.ill_core.specs.State.{is_among}
use Rattle.ill_core.specs.Dates.{is_same_day, is_due_on, is_before, is_after_due}
use Rattle.ill_core.specs.Rules.{implies}
use Rattle.ill_core.specs.Numbers.{is_equal_number, is_at_most, is_below}
use Rattle.ill_values.specs.Bodies.{is_ill_request, is_cancel, is_received, is_renew, is_returned, is_shipped, is_checked_in}
use Rattle.ill_values.specs.Bodies.{is_cancelled, is_unsupplied, is_end, is_renewal, grant_in, names_conditions, declines}
use Rattle.ill_values.specs.Bodies.{accepts}
use Rattle.ill_core.specs.Issued.{message, has_message_with, is_message_with, is_there, is_none, last_of, accepted_in}
use Rattle.ill_core.specs.Issued.{granted_day}
use Rattle.ill_core.specs.Requester.{RequesterRecord, later, begins_with_request, is_declined, is_received_by, accepted_number}
use Rattle.ill_core.specs.Requester.{last_cancel, last_renew}
use Rattle.ill_core.specs.RequesterEvidence as requester
use Rattle.ill_core.specs.RequesterNotices as notices
use Rattle.ill_core.specs.RequesterNotices.{is_awaiting_answer, is_awaiting_cancel_reply, is_due_after, states_before_overdue}
use Rattle.ill_core.specs.RequesterNotices.{undecided, lent}
use Rattle.ill_core.specs.Responder.{ResponderRecord, due_of, later as shipped_states, outstanding_number, ships_first}
use Rattle.ill_core.specs.ResponderEvidence as responder
use Rattle.ill_core.specs.ResponderEvidence.{Question, MayCancel, MayRenew, answered_number}
use Rattle.ill_core.specs.ResponderNotices as records
use Rattle.ill_core.specs.ResponderNotices.{is_recall, is_overdue_of, grant, grant_of}
use Rattle.ill_world.specs.Invariant.{RequesterInvariant, ResponderInvariant}
use Rattle.ill_world.specs.Round.{faced_in, HaveConverged}
use Rattle.ill_core.proofs.MessageLemmas.{message_says, says_message}
use Rattle.ill_core.proofs.GrantLemmas.{same_itself, itself_not_before, granted_not_later}
use Rattle.ill_world.proofs.Uniqueness.{message_number, same_apdu, found_among, answers_once, one_end}
use Rattle.ill_world.proofs.Finds.{Finds, finds_last, finds_any, all_found, number_if, was_last, not_above_last, has_last}
use Rattle.ill_world.proofs.Claims.{AreIssued, has_issued, is_in_cancelled, is_in_not_supplied, cancelled_faces}
use Rattle.ill_world.proofs.Claims.{not_supplied_faces, shipped_by, ships_before, tells_grant}
use Rattle.ill_world.proofs.Agreements.{says_true, cancel_is_open, cancels_with, tells_cancel, tells_refused, at_most_one}
use Rattle.ill_world.proofs.Arrivals.{not_none}

-- A message that names no conditions is plain. At the requester `has_heard` holds of each plain message of the
-- responder, and of the last message. At the responder it holds of each message of the requester. An undecided
-- responder has a number left.
pub record HaveHeard (x : RequesterRecord) (y : ResponderRecord) : Type 0 where
  pub requester : (n : ℕ) (a : Apdu) → message y.issued n ≡ Some a → names_conditions a.body ≡ false
      → notices.has_heard x a.number a.body ≡ true
  pub last : (a : Apdu) → message y.issued (length y.issued) ≡ Some a → notices.has_heard x a.number a.body ≡ true
  pub responder : (n : ℕ) (a : Apdu) → message x.issued n ≡ Some a → records.has_heard y a.number a.body ≡ true
  pub can_answer : is_among records.undecided y.state ≡ true → length y.issued < 255

-- ---- Bools

-- Two Bools are equal if each implies the other.
pub alike : (a b : Bool) → (a ≡ true → b ≡ true) → (b ≡ true → a ≡ true) → a ≡ b
alike true b there back = sym (there refl)
alike false true there back = back refl
alike false false there back = refl

-- If `implies a b` and `a` are true, `b` is true.
pub implied : (a b : Bool) → implies a b ≡ true → a ≡ true → b ≡ true
implied a b implies_it is = search rules

-- ---- a message of which `has_heard` holds

-- If `has_heard` holds of an ILL-Request, the responder is not in IDLE.
pub request_heard : (y : ResponderRecord) (n : ℕ) (body : Body) → is_ill_request body ≡ true
    → records.has_heard y n body ≡ true → is_among (states.Idle ∷ []) y.state ≡ false
request_heard y n (types.IllRequest expiry item) is heard = not-true _ heard
request_heard y n body is heard = search rules

-- If `has_heard` holds of a message that ends the request without the item, the requester is in no undecided state.
end_heard : (x : RequesterRecord) (n : ℕ) (body : Body) → is_unsupplied body ≡ true
    → notices.has_heard x n body ≡ true → is_among undecided x.state ≡ false
end_heard x n (types.IllAnswer answer) is heard = search rules
end_heard x n types.Expired is heard = not-true _ heard
end_heard x n body is heard = search rules

-- If `has_heard` holds of a Shipped, the requester is in no undecided state.
shipped_heard : (x : RequesterRecord) (n : ℕ) (body : Body) → is_shipped body ≡ true
    → notices.has_heard x n body ≡ true → is_among undecided x.state ≡ false
shipped_heard x n (types.Shipped due) is heard = not-true _ heard
shipped_heard x n body is heard = search rules

-- If `has_heard` holds of a Cancel, an undecided responder has taken this one or a later one.
pub cancel_heard : (y : ResponderRecord) (n : ℕ) (body : Body) → is_cancel body ≡ true → records.has_heard y n body ≡ true
    → is_among records.undecided y.state ≡ true → is_at_most n y.last_cancel ≡ true
cancel_heard y n types.Cancel is heard is_open = implied _ _ heard is_open
cancel_heard y n body is heard is_open = search rules

-- If `has_heard` holds of a Renew, a responder in SHIPPED or OVERDUE has taken this one or a later one.
pub renew_heard : (y : ResponderRecord) (n : ℕ) (body : Body) → is_renew body ≡ true → records.has_heard y n body ≡ true
    → is_among (states.Shipped ∷ states.Overdue ∷ []) y.state ≡ true
    → is_at_most n y.last_renew ≡ true
renew_heard y n (types.Renew wished) is heard here = implied _ _ heard here
renew_heard y n body is heard here = search rules

-- If `has_heard` holds of a Returned, the responder is in no lent state.
pub returned_heard : (y : ResponderRecord) (n : ℕ) (body : Body) → is_returned body ≡ true
    → records.has_heard y n body ≡ true → is_among records.lent y.state ≡ false
returned_heard y n types.Returned is heard = not-true _ heard
returned_heard y n body is heard = search rules

-- If `has_heard` holds of a Received, a responder in SHIPPED or later has the received mark.
pub received_heard : (y : ResponderRecord) (n : ℕ) (body : Body) → is_received body ≡ true
    → records.has_heard y n body ≡ true → is_among shipped_states y.state ≡ true → y.received ≡ true
received_heard y n types.Received is heard shipped = implied _ _ heard shipped
received_heard y n body is heard shipped = search rules

-- If `has_heard` holds of a Conditional-Reply no, an undecided responder has no number left.
pub no_heard : (y : ResponderRecord) (n : ℕ) (body : Body) → declines body ≡ true → records.has_heard y n body ≡ true
    → is_among records.undecided y.state ≡ true → nat_lt (length y.issued) 255 ≡ false
no_heard y n (types.ConditionalReply c false) is heard is_open = not-true _ (implied _ _ heard is_open)
no_heard y n (types.ConditionalReply c true) is heard is_open = search rules
no_heard y n body is heard is_open = search rules

-- If `has_heard` holds of a Conditional-Reply yes, the responder does not wait for an answer to these conditions.
pub yes_heard : (y : ResponderRecord) (n c : ℕ) (body : Body) → accepts body ≡ Some c → records.has_heard y n body ≡ true
    → is_equal_number c (outstanding_number y) ≡ false
yes_heard y n c (types.ConditionalReply k true) is heard = let same : k ≡ c = search rules in
    subst (λ i. is_equal_number i (outstanding_number y) ≡ false) same (not-true _ heard)
yes_heard y n c (types.ConditionalReply k false) is heard = search rules
yes_heard y n c body is heard = search rules

-- If `has_heard` holds of a Recall, the requester is in no lent state.
recall_heard : (x : RequesterRecord) (n : ℕ) (body : Body) → is_recall body ≡ true → notices.has_heard x n body ≡ true
    → is_among lent x.state ≡ false
recall_heard x n types.Recall is heard = not-true _ heard
recall_heard x n body is heard = search rules

-- If `has_heard` holds of a Checked-In, a requester in RETURNED has the checked-in mark.
checked_in_heard : (x : RequesterRecord) (n : ℕ) (body : Body) → is_checked_in body ≡ true
    → notices.has_heard x n body ≡ true → is_among (states.Returned ∷ []) x.state ≡ true → x.checked_in ≡ true
checked_in_heard x n types.CheckedIn is heard back = implied _ _ heard back
checked_in_heard x n body is heard back = search rules

-- If `has_heard` holds of an answer to Cancel c, the requester does not wait for an answer to Cancel c.
cancel_reply_heard : (x : RequesterRecord) (n c : ℕ) (body : Body) → answered_number MayCancel body ≡ Some c
    → notices.has_heard x n body ≡ true → is_awaiting_cancel_reply x c ≡ false
cancel_reply_heard x n c (types.CancelReply k is_yes) is heard = let same : k ≡ c = search rules in
    subst (λ i. is_awaiting_cancel_reply x i ≡ false) same (not-true _ heard)
cancel_reply_heard x n c body is heard = search rules

-- ---- states

-- `s` is the state of a requester and `t` that of a responder. Each group of states has `s` exactly if the matching
-- group has `t`. If `t` is CONDITIONAL, so is `s`.
record StatesFit (s t : State) : Type 0 where
  role : is_among (states.InProcess ∷ states.CheckedIn ∷ []) s ≡ false
  other_role : is_among (states.Pending ∷ states.Received ∷ states.NotReceivedOverdue ∷ []) t ≡ false
  idle : is_among (states.Idle ∷ []) s ≡ is_among (states.Idle ∷ []) t
  cancelled : is_among (states.Cancelled ∷ []) s ≡ is_among (states.Cancelled ∷ []) t
  unsupplied : is_among (states.NotSupplied ∷ []) s ≡ is_among (states.NotSupplied ∷ []) t
  cancel_waits : is_among (states.CancelPending ∷ []) s ≡ is_among (states.CancelPending ∷ []) t
  shipped : is_among later s ≡ is_among shipped_states t
  renew_waits : is_among (states.RenewPending ∷ states.RenewOverdue ∷ []) s
      ≡ is_among (states.RenewPending ∷ states.RenewOverdue ∷ []) t
  recalled : is_among (states.Recall ∷ []) s ≡ is_among (states.Recall ∷ []) t
  returned : is_among (states.Returned ∷ []) s ≡ is_among (states.Returned ∷ states.CheckedIn ∷ []) t
  overdue : is_among (states.NotReceivedOverdue ∷ states.Overdue ∷ states.RenewOverdue ∷ []) s
      ≡ is_among (states.Overdue ∷ states.RenewOverdue ∷ []) t
  conditions : is_among (states.Conditional ∷ []) t ≡ true → is_among (states.Conditional ∷ []) s ≡ true

-- ---- kinds of messages, and the facts that they attest

-- A message that ends the request without the item names no conditions.
unsupplied_is_plain : (body : Body) → is_unsupplied body ≡ true → names_conditions body ≡ false
unsupplied_is_plain (types.IllAnswer answer) is = search rules
unsupplied_is_plain types.Expired is = refl
unsupplied_is_plain body is = search rules

-- A Shipped names no conditions.
shipped_is_plain : (body : Body) → is_shipped body ≡ true → names_conditions body ≡ false
shipped_is_plain (types.Shipped due) is = refl
shipped_is_plain body is = search rules

-- A Recall names no conditions.
recall_is_plain : (body : Body) → is_recall body ≡ true → names_conditions body ≡ false
recall_is_plain types.Recall is = refl
recall_is_plain body is = search rules

-- A Checked-In names no conditions.
checked_in_is_plain : (body : Body) → is_checked_in body ≡ true → names_conditions body ≡ false
checked_in_is_plain types.CheckedIn is = refl
checked_in_is_plain body is = search rules

-- An answer to a Cancel names no conditions.
cancel_reply_is_plain : (body : Body) (c : ℕ) → answered_number MayCancel body ≡ Some c → names_conditions body ≡ false
cancel_reply_is_plain (types.CancelReply k is_yes) c is = refl
cancel_reply_is_plain body c is = search rules

-- An answer to a Renew is a Renew-Answer.
renew_answer : (body : Body) (c : ℕ) → answered_number MayRenew body ≡ Some c
    → (granted : Option Date) × (body ≡ types.RenewAnswer c granted)
renew_answer (types.RenewAnswer k granted) c is = let same : k ≡ c = search rules in
    (granted, ap (λ i. types.RenewAnswer i granted) same)
renew_answer body c is = search rules

-- A message that is evidence of a request is an ILL-Request.
tells_requested : (n : ℕ) (body : Body) → responder.IsEvidence n body responder.Requested → is_ill_request body ≡ true
tells_requested n (types.IllRequest expiry item) tells = refl
tells_requested n body tells = search rules

-- A message that attests a recall is a Recall.
pub attests_recall : (n : ℕ) (body : Body) → notices.Attests n body notices.Recalled → is_recall body ≡ true
attests_recall n types.Recall attests = refl
attests_recall n body attests = search rules

-- A message that attests conditions has their number.
pub attests_named : (n c : ℕ) (body : Body) → notices.Attests n body (notices.Named c) → n ≡ c
attests_named n c (types.IllAnswer results.Conditional) attests = attests
attests_named n c body attests = search rules

-- A message that attests an answer to Renew `renew` answers this Renew.
pub attests_answered : (n renew : ℕ) (day : Date) (body : Body) → notices.Attests n body (notices.Answered renew day)
    → answered_number MayRenew body ≡ Some renew
attests_answered n renew day (types.RenewAnswer c granted) attests = ap Some attests.0
attests_answered n renew day body attests = search rules

-- A message that attests a date granted before a Renew grants this date, and answers a lower number.
attests_grant : (n renew : ℕ) (due : Date) (body : Body) → 0 < renew
    → notices.Attests n body (notices.GrantedBefore renew due)
    → (c : ℕ) × (grant_of body ≡ Some (grant c due)) × (c < renew)
attests_grant n renew due (types.Shipped d) some attests = (0, ap (λ e. Some (grant 0 e)) attests, some)
attests_grant n renew due (types.RenewAnswer c (Some d)) some attests = (c, ap (λ e. Some (grant c e)) attests.0, attests.1)
attests_grant n renew due (types.RenewAnswer c None) some attests = absurd attests
attests_grant n renew due body some attests = search rules

-- ---- a state, by the groups that have it or lack it

-- A requester with an open Cancel that does not wait for its answer is in CANCELLED. `the` tells if this Cancel is its
-- last one.
cancelled_left : (s : State) (the : Bool) → (is_among (states.CancelPending ∷ states.Cancelled ∷ []) s && the) ≡ true
    → (is_among (states.CancelPending ∷ []) s && the) ≡ false → is_among (states.Cancelled ∷ []) s ≡ true
cancelled_left states.CancelPending true may waits = search rules
cancelled_left states.CancelPending false may waits = search rules
cancelled_left states.Cancelled the may waits = refl
cancelled_left s the may waits = search rules

-- A requester that may have an open Cancel, and is not in CANCELLED, is in CANCEL-PENDING.
waits_left : (s : State) → is_among (states.CancelPending ∷ states.Cancelled ∷ []) s ≡ true
    → is_among (states.Cancelled ∷ []) s ≡ false → is_among (states.CancelPending ∷ []) s ≡ true
waits_left states.CancelPending may cancelled = refl
waits_left s may cancelled = search rules

-- A responder in SHIPPED or later is in none of IDLE, CANCELLED and NOT-SUPPLIED.
shipped_has_not_ended : (t : State) → is_among shipped_states t ≡ true
    → (is_among (states.Idle ∷ []) t ≡ false) × (is_among (states.Cancelled ∷ []) t ≡ false)
    × (is_among (states.NotSupplied ∷ []) t ≡ false)
shipped_has_not_ended t is = search rules

-- A requester in none of IDLE, CANCELLED, NOT-SUPPLIED and the undecided states is in SHIPPED or later.
later_left : (s : State) → is_among (states.InProcess ∷ states.CheckedIn ∷ []) s ≡ false
    → is_among (states.Idle ∷ []) s ≡ false → is_among (states.Cancelled ∷ []) s ≡ false
    → is_among (states.NotSupplied ∷ []) s ≡ false → is_among undecided s ≡ false → is_among later s ≡ true
later_left s role idle cancelled unsupplied decided = search rules

-- A requester in no undecided state, and in none of IDLE, CANCELLED, SHIPPED or later, is in NOT-SUPPLIED.
unsupplied_left : (s : State) → is_among (states.InProcess ∷ states.CheckedIn ∷ []) s ≡ false
    → is_among (states.Idle ∷ []) s ≡ false → is_among (states.Cancelled ∷ []) s ≡ false
    → is_among later s ≡ false → is_among undecided s ≡ false → is_among (states.NotSupplied ∷ []) s ≡ true
unsupplied_left states.NotSupplied role idle cancelled shipped decided = refl
unsupplied_left s role idle cancelled shipped decided = search rules

-- A responder in NOT-SUPPLIED is in none of IDLE, CANCELLED, SHIPPED or later.
not_supplied_alone : (t : State) → is_among (states.NotSupplied ∷ []) t ≡ true
    → (is_among (states.Idle ∷ []) t ≡ false) × (is_among (states.Cancelled ∷ []) t ≡ false) × (is_among shipped_states t ≡ false)
not_supplied_alone states.NotSupplied is = (refl, refl, refl)
not_supplied_alone t is = search rules

-- A side in CANCEL-PENDING may have an open Cancel, and is in no other group of states.
pub cancel_pending_alone : (s : State) → is_among (states.CancelPending ∷ []) s ≡ true
    → (is_among (states.Idle ∷ []) s ≡ false) × (is_among (states.Cancelled ∷ []) s ≡ false)
    × (is_among (states.NotSupplied ∷ []) s ≡ false) × (is_among later s ≡ false) × (is_among shipped_states s ≡ false)
    × (is_among (states.CancelPending ∷ states.Cancelled ∷ []) s ≡ true)
cancel_pending_alone states.CancelPending is = (refl, refl, refl, refl, refl, refl)
cancel_pending_alone s is = search rules

-- A responder that has begun, has not ended or shipped, and is not undecided, is in CANCEL-PENDING.
cancel_left : (t : State) → is_among (states.Pending ∷ states.Received ∷ states.NotReceivedOverdue ∷ []) t ≡ false
    → is_among (states.Idle ∷ []) t ≡ false → is_among (states.Cancelled ∷ []) t ≡ false
    → is_among (states.NotSupplied ∷ []) t ≡ false → is_among shipped_states t ≡ false
    → is_among records.undecided t ≡ false → is_among (states.CancelPending ∷ []) t ≡ true
cancel_left states.CancelPending role idle cancelled unsupplied shipped decided = refl
cancel_left t role idle cancelled unsupplied shipped decided = search rules

-- An undecided state is none of those in which the last Cancel may have no answer.
open_answers : (t : State) → is_among records.undecided t ≡ true → is_among (records.unanswered MayCancel) t ≡ false
open_answers states.CancelPending is = search rules
open_answers t is = search rules

-- SHIPPED and OVERDUE are none of the states in which the last Renew may have no answer.
settled_answers : (t : State) → is_among (states.Shipped ∷ states.Overdue ∷ []) t ≡ true
    → is_among (records.unanswered MayRenew) t ≡ false
settled_answers states.Shipped is = refl
settled_answers states.Overdue is = refl
settled_answers t is = search rules

-- If a responder has shipped, and is in none of the other states, it is in RENEW/PENDING or RENEW/OVERDUE. The other
-- states are SHIPPED, OVERDUE, RECALL, RETURNED and CHECKED-IN.
renew_left : (t : State) → is_among shipped_states t ≡ true → is_among (states.Recall ∷ []) t ≡ false
    → is_among (states.Returned ∷ states.CheckedIn ∷ []) t ≡ false
    → is_among (states.Shipped ∷ states.Overdue ∷ []) t ≡ false
    → is_among (states.RenewPending ∷ states.RenewOverdue ∷ []) t ≡ true
renew_left states.RenewPending shipped recalled returned settled = refl
renew_left states.RenewOverdue shipped recalled returned settled = refl
renew_left t shipped recalled returned settled = search rules

-- A side in RENEW/PENDING or RENEW/OVERDUE is in SHIPPED or later, and in none of RECALL, RETURNED and CHECKED-IN.
pub renewing : (s : State) → is_among (states.RenewPending ∷ states.RenewOverdue ∷ []) s ≡ true
    → (is_among later s ≡ true) × (is_among shipped_states s ≡ true) × (is_among (states.Recall ∷ []) s ≡ false)
    × (is_among (states.Returned ∷ []) s ≡ false)
    × (is_among (states.Returned ∷ states.CheckedIn ∷ []) s ≡ false) × (is_among (states.Recall ∷ states.Returned ∷ []) s ≡ false)
renewing states.RenewPending is = (refl, refl, refl, refl, refl, refl)
renewing states.RenewOverdue is = (refl, refl, refl, refl, refl, refl)
renewing s is = search rules

-- A responder that has shipped, and is in no lent state, is in RETURNED or CHECKED-IN.
returned_left : (t : State) → is_among shipped_states t ≡ true → is_among records.lent t ≡ false
    → is_among (states.Returned ∷ states.CheckedIn ∷ []) t ≡ true
returned_left states.Returned shipped home = refl
returned_left states.CheckedIn shipped home = refl
returned_left t shipped home = search rules

-- A requester in RETURNED is in SHIPPED or later.
returned_is_out : (s : State) → is_among (states.Returned ∷ []) s ≡ true → is_among later s ≡ true
returned_is_out states.Returned is = refl
returned_is_out s is = search rules

-- A side in RECALL is in SHIPPED or later, and in neither RETURNED nor CHECKED-IN.
recalled_is_out : (s : State) → is_among (states.Recall ∷ []) s ≡ true
    → (s ≡ states.Recall) × (is_among later s ≡ true) × (is_among shipped_states s ≡ true)
    × (is_among (states.Returned ∷ []) s ≡ false) × (is_among (states.Returned ∷ states.CheckedIn ∷ []) s ≡ false)
recalled_is_out states.Recall is = (refl, refl, refl, refl, refl)
recalled_is_out s is = search rules

-- A responder in RECALL, RETURNED or CHECKED-IN, and in none of the last two, is in RECALL.
recall_left : (t : State) → is_among (states.Recall ∷ states.Returned ∷ states.CheckedIn ∷ []) t ≡ true
    → is_among (states.Returned ∷ states.CheckedIn ∷ []) t ≡ false → is_among (states.Recall ∷ []) t ≡ true
recall_left states.Recall may returned = refl
recall_left t may returned = search rules

-- A requester in SHIPPED or later, in no lent state and not in RETURNED, is in RECALL.
recall_at : (s : State) → is_among later s ≡ true → is_among (states.Returned ∷ []) s ≡ false
    → is_among lent s ≡ false → is_among (states.Recall ∷ []) s ≡ true
recall_at states.Recall shipped returned home = refl
recall_at s shipped returned home = search rules

-- A responder in CONDITIONAL is in no other group of states.
conditional : (t : State) → is_among (states.Conditional ∷ []) t ≡ true
    → (is_among (states.Idle ∷ []) t ≡ false) × (is_among (states.Cancelled ∷ []) t ≡ false)
    × (is_among (states.NotSupplied ∷ []) t ≡ false) × (is_among (states.CancelPending ∷ []) t ≡ false)
    × (is_among shipped_states t ≡ false)
conditional states.Conditional is = (refl, refl, refl, refl, refl)
conditional t is = search rules

-- A requester in no other group of states is in CONDITIONAL.
conditional_left : (s : State) → is_among (states.InProcess ∷ states.CheckedIn ∷ []) s ≡ false
    → is_among (states.Idle ∷ []) s ≡ false → is_among (states.Cancelled ∷ []) s ≡ false
    → is_among (states.NotSupplied ∷ []) s ≡ false → is_among (states.CancelPending ∷ []) s ≡ false
    → is_among later s ≡ false → is_among (states.Pending ∷ []) s ≡ false
    → is_among (states.Conditional ∷ []) s ≡ true
conditional_left states.Conditional role idle cancelled unsupplied waits shipped pending = refl
conditional_left s role idle cancelled unsupplied waits shipped pending = search rules

-- A requester in CONDITIONAL faces an undecided responder.
open_left : (s t : State) → is_among (states.Conditional ∷ []) s ≡ true → is_among (faced_in s) t ≡ true
    → is_among records.undecided t ≡ true
open_left states.Conditional states.Conditional is faced = refl
open_left states.Conditional states.InProcess is faced = refl
open_left states.Conditional t is faced = search rules
open_left s t is faced = search rules

-- ---- options, numbers and conditions, and further facts of states

-- An option that is not empty has a value.
pub some_of : {X : Type 0} (o : Option X) → is_some o ≡ true → (v : X) × (o ≡ Some v)
some_of None is = search rules
some_of (Some v) is = (v, refl)

-- A number that is at most an option is at most the value of this option.
pub most : (k : ℕ) (o : Option ℕ) → is_at_most k o ≡ true → (m : ℕ) × (o ≡ Some m) × (k ≤ m)
most k None is = search rules
most k (Some m) is = (m, refl, leb-true k m is)

-- If `o` has the value n, `is_equal_number` holds of n and `o`.
pub itself : (n : ℕ) (o : Option ℕ) → o ≡ Some n → is_equal_number n o ≡ true
itself n None is = search rules
itself n (Some m) is = search rules

-- If `o` has the value n, n is not below `o`.
pub not_below : (n : ℕ) (o : Option ℕ) → o ≡ Some n → is_below n o ≡ true → ⊥
not_below n None is below = search rules
not_below n (Some m) is below = search rules

-- A state that is neither NOT-SUPPLIED, nor SHIPPED or later, is not in the list of all these.
pub neither : (s : State) → is_among (states.NotSupplied ∷ []) s ≡ false → is_among later s ≡ false
    → is_among (states.NotSupplied ∷ later) s ≡ false
neither states.NotSupplied unsupplied shipped = search rules
neither s unsupplied shipped = shipped

-- A state that is neither RECALL nor RETURNED is not in the list of both.
pub either_gone : (s : State) → is_among (states.Recall ∷ []) s ≡ false → is_among (states.Returned ∷ []) s ≡ false
    → is_among (states.Recall ∷ states.Returned ∷ []) s ≡ false
either_gone states.Recall recalled returned = search rules
either_gone s recalled returned = returned

-- A responder in CHECKED-IN is in RETURNED or CHECKED-IN.
home_is_back : (t : State) → is_among (states.CheckedIn ∷ []) t ≡ true
    → is_among (states.Returned ∷ states.CheckedIn ∷ []) t ≡ true
home_is_back states.CheckedIn is = refl
home_is_back t is = search rules

-- If `a && b` is false and `a` is true, `b` is false.
pub second_false : (a b : Bool) → (a && b) ≡ false → a ≡ true → b ≡ false
second_false a b none is = search rules

-- If the last message of a list names conditions, the list has a last message, and it names them.
last_names : (apdus : List Apdu) → is_message_with names_conditions apdus (length apdus) ≡ true
    → (a : Apdu) × (message apdus (length apdus) ≡ Some a) × (names_conditions a.body ≡ true)
last_names apdus is = go (message apdus (length apdus)) refl is
  where
    -- If no message is found, `is_there` is false.
    go : (found : Option Apdu) → message apdus (length apdus) ≡ found → is_there names_conditions found ≡ true → (a : Apdu)
        × (message apdus (length apdus) ≡ Some a) × (names_conditions a.body ≡ true)
    go None e is = search rules
    go (Some a) e is = (a, e, is)

-- If `has_heard` holds of conditions, a requester in PENDING has accepted these or later ones.
conditions_heard : (x : RequesterRecord) (n : ℕ) (body : Body) → names_conditions body ≡ true
    → notices.has_heard x n body ≡ true → is_among (states.Pending ∷ []) x.state ≡ true
    → is_at_most n (accepted_number x) ≡ true
conditions_heard x n (types.IllAnswer results.Conditional) is heard pending = implied _ _ heard pending
conditions_heard x n body is heard pending = search rules

-- The number of a message is at most the length of the list.
pub message_within : (apdus : List Apdu) (n : ℕ) (a : Apdu) → message apdus n ≡ Some a → n ≤ length apdus
message_within apdus zero a at = search rules
message_within apdus (suc i) a at = omega (arith, slice_get_within apdus i a at)

-- If message n is the last and the responder is in CONDITIONAL, n is outstanding.
waits_outstanding : (y : ResponderRecord) (n : ℕ) {a : Apdu} → is_among (states.Conditional ∷ []) y.state ≡ true
    → n ≡ length y.issued → message y.issued (length y.issued) ≡ Some a
    → is_equal_number n (outstanding_number y) ≡ true
waits_outstanding y n is same at = search rules

-- The state of a requester faces each state that fits it.
fits_face : (s t : State) → StatesFit s t → is_among (faced_in s) t ≡ true
fits_face s t fit = search rules

-- ---- due dates, and states that are overdue

-- Two days of which neither is before the other are equal.
same_date : (d e : Date) → is_before d e ≡ false → is_before e d ≡ false → d ≡ e
same_date d e first other = search rules

-- A message that grants a date is a Shipped or an answer to a Renew.
grant_kind : (body : Body) (due : Date) → grant_in body ≡ Some due
    → (body ≡ types.Shipped due) ⊎ ((c : ℕ) × (body ≡ types.RenewAnswer c (Some due)))
grant_kind (types.Shipped d) due is = inl (ap types.Shipped (same_Some d due is))
grant_kind (types.RenewAnswer c (Some d)) due is = inr (c, ap (λ e. types.RenewAnswer c (Some e)) (same_Some d due is))
grant_kind (types.RenewAnswer c None) due is = search rules
grant_kind body due is = search rules

-- A responder that has granted a date has issued a Shipped.
grants_shipped : (apdus : List Apdu) (n : ℕ) (a : Apdu) (due : Date) → ships_first apdus ≡ true
    → message apdus n ≡ Some a → grant_in a.body ≡ Some due → has_message_with is_shipped apdus ≡ true
grants_shipped apdus n a due first at is = elim (grant_kind a.body due is) [
  | inl shipped ↦ message_says is_shipped apdus n a at (ap is_shipped shipped)
  | inr renewal ↦ ships_before apdus first (message_says is_renewal apdus n a at (ap is_renewal renewal.1))
]

-- If a message answers Renew c, c is among the answered numbers.
is_among_answers : (apdus : List Apdu) (n : ℕ) (a : Apdu) (c : ℕ) → message apdus n ≡ Some a
    → answered_number MayRenew a.body ≡ Some c
    → list_any (λ m. m == c) (filter_map (λ b. answered_number MayRenew b.body) apdus) ≡ true
is_among_answers apdus zero a c at answers = search rules
is_among_answers apdus (suc i) a c at answers = found_among (λ b. answered_number MayRenew b.body) apdus i a c at answers

-- A Renew-Answer that attests the due date `due` grants no later date.
attests_not_after : (n c : ℕ) (due granted : Date) (body : Body) → body ≡ types.RenewAnswer c (Some granted)
    → notices.Attests n body (notices.Answered c due) → is_before due granted ≡ false
attests_not_after n c due granted body is attests = (subst (λ b. notices.Attests n b (notices.Answered c due)) is attests).1

-- A message that attests that a due date is past is an Overdue for it.
attests_overdue : (n : ℕ) (due : Date) (body : Body) → notices.Attests n body (notices.PastDue due)
    → is_overdue_of due body ≡ true
attests_overdue n due (types.Overdue day) attests = subst (λ d. is_same_day day d ≡ true) attests (same_itself day)
attests_overdue n due body attests = search rules

-- If `a && b` is false and `b` is true, `a` is false.
first_false : (a b : Bool) → (a && b) ≡ false → b ≡ true → a ≡ false
first_false a b none is = search rules

-- If `has_heard` holds of an Overdue for the requester's due date, the requester is in no state of
-- `states_before_overdue`.
overdue_heard : (x : RequesterRecord) (n : ℕ) (due : Date) (body : Body) → is_overdue_of due body ≡ true
    → x.due ≡ Some due → notices.has_heard x n body ≡ true → is_among states_before_overdue x.state ≡ false
overdue_heard x n due (types.Overdue day) is its heard =
    first_false _ _ (not-true _ heard) (subst (λ o. is_due_on day o ≡ true) (sym its) is)
overdue_heard x n due body is its heard = search rules

-- An Overdue names no conditions.
overdue_is_plain : (due : Date) (body : Body) → is_overdue_of due body ≡ true → names_conditions body ≡ false
overdue_is_plain due (types.Overdue day) is = refl
overdue_is_plain due body is = search rules

-- A requester that is overdue is in SHIPPED or later, and in neither RECALL nor RETURNED.
overdue_is_out : (s : State) → is_among (states.NotReceivedOverdue ∷ states.Overdue ∷ states.RenewOverdue ∷ []) s ≡ true
    → (is_among later s ≡ true) × (is_among (states.Recall ∷ states.Returned ∷ []) s ≡ false)
    × (is_among (states.Recall ∷ []) s ≡ false) × (is_among (states.Returned ∷ []) s ≡ false)
overdue_is_out states.NotReceivedOverdue is = (refl, refl, refl, refl)
overdue_is_out states.Overdue is = (refl, refl, refl, refl)
overdue_is_out states.RenewOverdue is = (refl, refl, refl, refl)
overdue_is_out s is = search rules

-- A responder that is overdue is in SHIPPED or later, and in none of RECALL, RETURNED, CHECKED-IN.
late_is_out : (t : State) → is_among (states.Overdue ∷ states.RenewOverdue ∷ []) t ≡ true
    → (is_among shipped_states t ≡ true) × (is_among (states.Recall ∷ []) t ≡ false)
    × (is_among (states.Returned ∷ states.CheckedIn ∷ []) t ≡ false)
late_is_out states.Overdue is = (refl, refl, refl)
late_is_out states.RenewOverdue is = (refl, refl, refl)
late_is_out t is = search rules

-- A responder in OVERDUE, RENEW/OVERDUE, RECALL, RETURNED or CHECKED-IN, and in none of the last three, is overdue: it
-- is in OVERDUE or RENEW/OVERDUE.
overdue_left : (t : State)
    → is_among (states.Overdue ∷ states.RenewOverdue ∷ states.Recall ∷ states.Returned ∷ states.CheckedIn ∷ []) t ≡ true
    → is_among (states.Recall ∷ []) t ≡ false
    → is_among (states.Returned ∷ states.CheckedIn ∷ []) t ≡ false → is_among (states.Overdue ∷ states.RenewOverdue ∷ []) t ≡ true
overdue_left states.Overdue may recalled returned = refl
overdue_left states.RenewOverdue may recalled returned = refl
overdue_left t may recalled returned = search rules

-- A requester in SHIPPED or later, and in no state of `states_before_overdue`, nor in RECALL or RETURNED, is overdue.
overdue_at : (s : State) → is_among later s ≡ true → is_among (states.Recall ∷ []) s ≡ false
    → is_among (states.Returned ∷ []) s ≡ false → is_among states_before_overdue s ≡ false
    → is_among (states.NotReceivedOverdue ∷ states.Overdue ∷ states.RenewOverdue ∷ []) s ≡ true
overdue_at states.NotReceivedOverdue shipped recalled returned late = refl
overdue_at states.Overdue shipped recalled returned late = refl
overdue_at states.RenewOverdue shipped recalled returned late = refl
overdue_at s shipped recalled returned late = search rules

-- ---- a requester's record and a responder's

-- Both records satisfy their invariants, and have issued all messages that were sent. `HaveHeard` holds of them.
module _ (txn : Qualifiers) (x : RequesterRecord) (y : ResponderRecord) (responder_sent requester_sent : List (Option Apdu))
    (borrower : RequesterInvariant txn x responder_sent) (lender : ResponderInvariant txn y requester_sent)
    (issued : AreIssued responder_sent y.issued) (heeded : AreIssued requester_sent x.issued) (hear : HaveHeard x y) where
  -- ---- IDLE

  -- The first message of a requester that has begun is an ILL-Request.
  first_request : (apdus : List Apdu) → is_none apdus ≡ false → begins_with_request apdus ≡ true → (a : Apdu)
      × (message apdus 1 ≡ Some a) × (is_ill_request a.body ≡ true)
  first_request [] some begins = search rules
  first_request (a ∷ apdus) some begins = (a, refl, (and_parts _ _ begins).0)

  -- The responder is not in IDLE if the requester is not.
  begun : is_among (states.Idle ∷ []) x.state ≡ false → is_among (states.Idle ∷ []) y.state ≡ false
  begun is =
      let first = first_request x.issued (borrower.rules.issued.idle ∙ is) borrower.rules.request in
      request_heard y first.0.number first.0.body first.2 (hear.responder 1 first.0 first.1)

  -- The requester is not in IDLE if the responder is not.
  was_asked : is_among (states.Idle ∷ []) y.state ≡ false → is_among (states.Idle ∷ []) x.state ≡ false
  was_asked is =
      let known = lender.knows responder.Requested is in
      sym borrower.rules.issued.idle ∙ not_none is_ill_request x.issued
      (has_issued x.issued requester_sent is_ill_request known.0 heeded known.1
      (tells_requested known.0.number known.0.body known.2))

  -- The requester is in IDLE exactly if the responder is.
  idle_alike : is_among (states.Idle ∷ []) x.state ≡ is_among (states.Idle ∷ []) y.state
  idle_alike =
      alike _ _ (λ is. true_from_ne_false _ (λ is_not. both_ways _ (was_asked is_not) is))
      (λ is. true_from_ne_false _ (λ is_not. both_ways _ (begun is_not) is))

  -- ---- CANCELLED

  -- The responder is in CANCELLED if the requester is.
  cancelled_there : is_among (states.Cancelled ∷ []) x.state ≡ true → is_among (states.Cancelled ∷ []) y.state ≡ true
  cancelled_there is = ap (is_among (states.Cancelled ∷ []))
      (cancelled_faces txn x y responder_sent requester_sent borrower lender issued (is_in_cancelled x.state is))

  -- The requester is in CANCELLED if the responder is.
  cancelled_here : is_among (states.Cancelled ∷ []) y.state ≡ true → is_among (states.Cancelled ∷ []) x.state ≡ true
  cancelled_here is =
      let at = says_message is_cancelled y.issued (lender.ends.cancelled ∙ is) in
      let by = cancels_with at.1.body at.3 in
      let is_open = cancel_is_open txn x y responder_sent requester_sent borrower lender issued heeded at.0 by.0 at.1 at.2 by.1 in
      let answers : answered_number MayCancel at.1.body ≡ Some by.0 = ap (answered_number MayCancel) by.1 in
      cancelled_left x.state _ is_open
      (cancel_reply_heard x at.1.number by.0 at.1.body answers
      (hear.requester at.0 at.1 at.2 (cancel_reply_is_plain at.1.body by.0 answers)))

  -- The requester is in CANCELLED exactly if the responder is.
  cancelled_alike : is_among (states.Cancelled ∷ []) x.state ≡ is_among (states.Cancelled ∷ []) y.state
  cancelled_alike = alike _ _ cancelled_there cancelled_here

  -- ---- SHIPPED or later, and NOT-SUPPLIED

  -- The responder is in SHIPPED or later if the requester is.
  later_there : is_among later x.state ≡ true → is_among shipped_states y.state ≡ true
  later_there is = sym lender.ends.shipped
      ∙ shipped_by txn x y responder_sent requester_sent x.due borrower lender issued refl (borrower.rules.parts.due ∙ is)

  -- The responder is in NOT-SUPPLIED if the requester is.
  unsupplied_there : is_among (states.NotSupplied ∷ []) x.state ≡ true → is_among (states.NotSupplied ∷ []) y.state ≡ true
  unsupplied_there is = ap (is_among (states.NotSupplied ∷ []))
      (not_supplied_faces txn x y responder_sent requester_sent borrower lender issued (is_in_not_supplied x.state is))

  -- The requester is in SHIPPED or later if the responder is.
  later_here : is_among shipped_states y.state ≡ true → is_among later x.state ≡ true
  later_here is =
      let at = says_message is_shipped y.issued (lender.ends.shipped ∙ is) in
      let no = shipped_has_not_ended y.state is in
      later_left x.state borrower.rules.parts.role (idle_alike ∙ no.0) (cancelled_alike ∙ no.1)
      (false_from_ne_true _ (λ ended. both_ways _ no.2 (unsupplied_there ended)))
      (shipped_heard x at.1.number at.1.body at.3 (hear.requester at.0 at.1 at.2 (shipped_is_plain at.1.body at.3)))

  -- The requester is in SHIPPED or later exactly if the responder is.
  later_alike : is_among later x.state ≡ is_among shipped_states y.state
  later_alike = alike _ _ later_there later_here

  -- The requester is in NOT-SUPPLIED if the responder is.
  unsupplied_here : is_among (states.NotSupplied ∷ []) y.state ≡ true → is_among (states.NotSupplied ∷ []) x.state ≡ true
  unsupplied_here is =
      let at = says_message is_unsupplied y.issued (lender.ends.unsupplied ∙ is) in
      let no = not_supplied_alone y.state is in
      unsupplied_left x.state borrower.rules.parts.role (idle_alike ∙ no.0) (cancelled_alike ∙ no.1) (later_alike ∙ no.2)
      (end_heard x at.1.number at.1.body at.3 (hear.requester at.0 at.1 at.2 (unsupplied_is_plain at.1.body at.3)))

  -- The requester is in NOT-SUPPLIED exactly if the responder is.
  unsupplied_alike : is_among (states.NotSupplied ∷ []) x.state ≡ is_among (states.NotSupplied ∷ []) y.state
  unsupplied_alike = alike _ _ unsupplied_there unsupplied_here

  -- ---- questions

  -- The last Cancel or Renew that the responder took is not later than the last one that the requester issued.
  asked_last : (question : Question) (says : Body → Bool) (m n : ℕ)
      → ((body : Body) → responder.asks question body ≡ true → says body ≡ true) → responder.last_asked question y ≡ Some m
      → last_of (number_if says) x.issued ≡ Some n → m ≤ n
  asked_last question says m n is_so last own =
      let asked = lender.asked question m (inl last) in
      let at = heeded asked.0 asked.1 in
      subst (λ k. k ≤ n) asked.3 (not_above_last says x.txn x.issued at.0 n asked.0 borrower.rules.numbered at.1
      (is_so asked.0.body asked.2) own)

  -- If the responder's state is none in which the last question may have no answer, the responder has answered it.
  answer_to : (question : Question) (n : ℕ) → responder.last_asked question y ≡ Some n
      → is_among (records.unanswered question) y.state ≡ false
      → Finds (λ a. answered_number question a.body) y.issued n
  answer_to question n last left =
      finds_any (λ a. answered_number question a.body) y.issued n (lender.answered question n last left)

  -- ---- CANCEL-PENDING

  -- If the responder has answered the last Cancel, the requester is not in CANCEL-PENDING.
  cancel_answered : (n : ℕ) → is_among (states.CancelPending ∷ []) x.state ≡ true → last_cancel x ≡ Some n
      → Finds (λ a. answered_number MayCancel a.body) y.issued n → ⊥
  cancel_answered n is last found =
      both_ways _ (cancel_reply_heard x found.1.number n found.1.body found.3
      (hear.requester found.0 found.1 found.2 (cancel_reply_is_plain found.1.body n found.3)))
      (and_from _ _ is (itself n (last_cancel x) last))

  -- A requester in CANCEL-PENDING does not face an undecided responder. Such a responder has taken and answered the
  -- last Cancel, which `cancel_answered` excludes.
  not_open : is_among (states.CancelPending ∷ []) x.state ≡ true → is_among records.undecided y.state ≡ true → ⊥
  not_open is is_open =
      let own = has_last is_cancel None x.issued (implied _ _ borrower.rules.issued.cancel (cancel_pending_alone x.state is).5) in
      let there = was_last is_cancel x.txn x.issued own.0 borrower.rules.numbered own.1 in
      let heard_it = most there.0.number y.last_cancel
      (cancel_heard y there.0.number there.0.body there.2 (hear.responder own.0 there.0 there.1) is_open) in
      let not_after = asked_last MayCancel is_cancel heard_it.0 own.0 (λ body asks. asks) heard_it.1 own.1 in
      let same : heard_it.0 ≡ own.0 = omega (arith, not_after, heard_it.2, there.3) in
      cancel_answered own.0 is own.1 (answer_to MayCancel own.0 (heard_it.1 ∙ ap Some same) (open_answers y.state is_open))

  -- The responder is in CANCEL-PENDING if the requester is.
  waits_there : is_among (states.CancelPending ∷ []) x.state ≡ true → is_among (states.CancelPending ∷ []) y.state ≡ true
  waits_there is =
      let no = cancel_pending_alone x.state is in
      cancel_left y.state lender.rules.parts.role (sym idle_alike ∙ no.0) (sym cancelled_alike ∙ no.1)
      (sym unsupplied_alike ∙ no.2) (sym later_alike ∙ no.3) (false_from_ne_true _ (not_open is))

  -- The last Cancel of a responder in CANCEL-PENDING is open at the requester. Otherwise the requester would claim its
  -- refusal, but the responder has not answered it yet.
  cancel_is_waiting : (c : ℕ) → is_among (states.CancelPending ∷ []) y.state ≡ true → y.last_cancel ≡ Some c
      → requester.is_open x c ≡ true
  cancel_is_waiting c is last =
      let no = cancel_pending_alone y.state is in
      let known = lender.knows (responder.CancelAsked c) (inl last) in
      let at = heeded known.0 known.1 in
      let says = tells_cancel known.0.number c known.0.body known.2 in
      let number = sym (message_number x.txn x.issued at.0 known.0 borrower.rules.numbered at.1).1 ∙ says.1 in
      let issued_it : is_message_with is_cancel x.issued c ≡ true =
      ap (is_there is_cancel) (ap (message x.issued) (sym number) ∙ at.1) ∙ says.0 in
      true_from_ne_false _ (λ closed.
      let refused = borrower.knows (requester.Refused c)
      (issued_it, neither x.state (unsupplied_alike ∙ no.2) (later_alike ∙ no.4), closed) in
      let there = issued refused.0 refused.1 in
      not_below c y.last_cancel last (all_found (λ a. answered_number MayCancel a.body) (λ n. is_below n y.last_cancel) y.issued
      there.0 refused.0 c (lender.cancels.below is) there.1
      (ap (answered_number MayCancel) (tells_refused refused.0.body c refused.2))))

  -- The requester is in CANCEL-PENDING if the responder is.
  waits_here : is_among (states.CancelPending ∷ []) y.state ≡ true → is_among (states.CancelPending ∷ []) x.state ≡ true
  waits_here is =
      let no = cancel_pending_alone y.state is in
      let last = some_of y.last_cancel (implied _ _ lender.rules.parts.cancel no.5) in
      waits_left x.state (and_parts _ _ (cancel_is_waiting last.0 is last.1)).0 (cancelled_alike ∙ no.1)

  -- The requester is in CANCEL-PENDING exactly if the responder is.
  waits_alike : is_among (states.CancelPending ∷ []) x.state ≡ is_among (states.CancelPending ∷ []) y.state
  waits_alike = alike _ _ waits_there waits_here

  -- ---- RETURNED

  -- The responder is in RETURNED or CHECKED-IN if the requester is in RETURNED.
  returned_there : is_among (states.Returned ∷ []) x.state ≡ true
      → is_among (states.Returned ∷ states.CheckedIn ∷ []) y.state ≡ true
  returned_there is =
      let at = says_message is_returned x.issued (borrower.rules.issued.returned ∙ is) in
      returned_left y.state (sym later_alike ∙ returned_is_out x.state is)
      (returned_heard y at.1.number at.1.body at.3 (hear.responder at.0 at.1 at.2))

  -- The requester is in RETURNED if the responder is in RETURNED or CHECKED-IN.
  returned_here : is_among (states.Returned ∷ states.CheckedIn ∷ []) y.state ≡ true
      → is_among (states.Returned ∷ []) x.state ≡ true
  returned_here is = ap (is_among (states.Returned ∷ []))
      ((says_true txn x y responder_sent requester_sent borrower lender issued heeded).returned is)

  -- The requester is in RETURNED exactly if the responder is in RETURNED or CHECKED-IN.
  returned_alike : is_among (states.Returned ∷ []) x.state ≡ is_among (states.Returned ∷ states.CheckedIn ∷ []) y.state
  returned_alike = alike _ _ returned_there returned_here

  -- ---- RECALL

  -- The responder is in RECALL if the requester is.
  recalled_there : is_among (states.Recall ∷ []) x.state ≡ true → is_among (states.Recall ∷ []) y.state ≡ true
  recalled_there is =
      let no = recalled_is_out x.state is in
      let known = borrower.notices notices.Recalled no.0 in
      recall_left y.state (lender.recall.after
      (has_issued y.issued responder_sent is_recall known.0 issued known.1
      (attests_recall known.0.number known.0.body known.2))) (sym returned_alike ∙ no.3)

  -- The requester is in RECALL if the responder is.
  recalled_here : is_among (states.Recall ∷ []) y.state ≡ true → is_among (states.Recall ∷ []) x.state ≡ true
  recalled_here is =
      let no = recalled_is_out y.state is in
      let at = says_message is_recall y.issued (lender.recall.issued is) in
      recall_at x.state (later_alike ∙ no.2) (returned_alike ∙ no.4)
      (recall_heard x at.1.number at.1.body at.3 (hear.requester at.0 at.1 at.2 (recall_is_plain at.1.body at.3)))

  -- The requester is in RECALL exactly if the responder is.
  recalled_alike : is_among (states.Recall ∷ []) x.state ≡ is_among (states.Recall ∷ []) y.state
  recalled_alike = alike _ _ recalled_there recalled_here

  -- ---- RENEW/PENDING and RENEW/OVERDUE

  -- If the requester awaits the answer to Renew n, the responder has not granted it. The date of this grant would be
  -- after the due date, and `has_heard` would not hold of it.
  not_granted : (n : ℕ) (due granted : Date) (i : ℕ) (a : Apdu) → 0 < n → is_awaiting_answer x n ≡ true → x.due ≡ Some due
      → message y.issued i ≡ Some a → a.body ≡ types.RenewAnswer n (Some granted) → ⊥
  not_granted n due granted i a some waits is at body =
      let known = borrower.notices (notices.GrantedBefore n due) (is, inl waits) in
      let there = issued known.0 known.1 in
      let before = attests_grant known.0.number n due known.0.body some known.2 in
      let rises = lender.grants there.0 i before.0 n known.0 a due granted there.1 at before.1 (ap grant_of body) before.2 in
      let unheard : not (is_awaiting_answer x n && is_after_due granted x.due) ≡ true =
      ap (notices.has_heard x a.number) (sym body) ∙ hear.requester i a at (ap names_conditions body) in
      both_ways _ (subst (λ o. is_after_due granted o ≡ false) is (second_false _ _ (not-true _ unheard) waits)) rises

  -- If the requester awaits the answer to Renew n, the responder has not answered it.
  renew_answered : (n : ℕ) (due : Date) → 0 < n → is_awaiting_answer x n ≡ true → x.due ≡ Some due
      → Finds (λ a. answered_number MayRenew a.body) y.issued n → ⊥
  renew_answered n due some waits is (i, a, at, answers) = go (renew_answer a.body n answers)
    where
      -- `has_heard` excludes a Renew-Answer no, and `not_granted` excludes a Renew-Answer yes.
      go : (granted : Option Date) × (a.body ≡ types.RenewAnswer n granted) → ⊥
      go (None, body) =
          let unheard : not (is_awaiting_answer x n) ≡ true =
          ap (notices.has_heard x a.number) (sym body) ∙ hear.requester i a at (ap names_conditions body) in
          both_ways _ (not-true _ unheard) waits
      go (Some granted, body) = not_granted n due granted i a some waits is at body

  -- The number of a message is not 0.
  message_some : (apdus : List Apdu) (n : ℕ) (a : Apdu) → message apdus n ≡ Some a → 0 < n
  message_some apdus zero a at = search rules
  message_some apdus (suc n) a at = omega arith

  -- A requester in RENEW/PENDING or RENEW/OVERDUE does not face a responder in SHIPPED or OVERDUE. Such a responder has
  -- taken and answered the last Renew, which `renew_answered` excludes.
  not_settled : is_among (states.RenewPending ∷ states.RenewOverdue ∷ []) x.state ≡ true
      → is_among (states.Shipped ∷ states.Overdue ∷ []) y.state ≡ true → ⊥
  not_settled is settled =
      let due = some_of x.due (borrower.rules.parts.due ∙ (renewing x.state is).0) in
      let own = has_last is_renew None x.issued (implied _ _ borrower.rules.issued.renew is) in
      let there = was_last is_renew x.txn x.issued own.0 borrower.rules.numbered own.1 in
      let heard_it = most there.0.number y.last_renew
      (renew_heard y there.0.number there.0.body there.2 (hear.responder own.0 there.0 there.1) settled) in
      let not_after = asked_last MayRenew is_renew heard_it.0 own.0 (λ body asks. asks) heard_it.1 own.1 in
      let same : heard_it.0 ≡ own.0 = omega (arith, not_after, heard_it.2, there.3) in
      renew_answered own.0 due.0 (message_some x.issued own.0 there.0 there.1)
      (and_from _ _ is (itself own.0 (last_renew x) own.1)) due.1
      (answer_to MayRenew own.0 (heard_it.1 ∙ ap Some same) (settled_answers y.state settled))

  -- The responder is in RENEW/PENDING or RENEW/OVERDUE if the requester is.
  renew_there : is_among (states.RenewPending ∷ states.RenewOverdue ∷ []) x.state ≡ true
      → is_among (states.RenewPending ∷ states.RenewOverdue ∷ []) y.state ≡ true
  renew_there is =
      let no = renewing x.state is in
      renew_left y.state (sym later_alike ∙ no.0) (sym recalled_alike ∙ no.2) (sym returned_alike ∙ no.3)
      (false_from_ne_true _ (not_settled is))

  -- If the responder is in RENEW/PENDING or RENEW/OVERDUE, the requester awaits the answer to its last Renew. Otherwise
  -- the requester would reflect an answer, but the responder has given none yet.
  renew_is_waiting : (n : ℕ) → is_among (states.RenewPending ∷ states.RenewOverdue ∷ []) y.state ≡ true → y.last_renew ≡ Some n
      → is_awaiting_answer x n ≡ true
  renew_is_waiting n is last =
      let no = renewing y.state is in
      let due = some_of x.due (borrower.rules.parts.due ∙ (later_alike ∙ no.1)) in
      let asked = lender.asked MayRenew n (inl last) in
      let at = heeded asked.0 asked.1 in
      let number = sym (message_number x.txn x.issued at.0 asked.0 borrower.rules.numbered at.1).1 ∙ asked.3 in
      let issued_it : is_message_with is_renew x.issued n ≡ true =
      ap (is_there is_renew) (ap (message x.issued) (sym number) ∙ at.1) ∙ asked.2 in
      true_from_ne_false _ (λ over.
      let not_past : is_due_after due.0 x.due ≡ false =
      subst (λ o. is_due_after due.0 o ≡ false) (sym due.1) (itself_not_before due.0) in
      let known = borrower.notices (notices.Answered n due.0)
      (issued_it, either_gone x.state (recalled_alike ∙ no.2) (returned_alike ∙ no.4), over, not_past) in
      let there = issued known.0 known.1 in
      not_below n y.last_renew last (all_found (λ a. answered_number MayRenew a.body) (λ k. is_below k y.last_renew) y.issued
      there.0 known.0 n (lender.renewals.below is) there.1
      (attests_answered known.0.number n due.0 known.0.body known.2)))

  -- The requester is in RENEW/PENDING or RENEW/OVERDUE if the responder is.
  renew_here : is_among (states.RenewPending ∷ states.RenewOverdue ∷ []) y.state ≡ true
      → is_among (states.RenewPending ∷ states.RenewOverdue ∷ []) x.state ≡ true
  renew_here is =
      let last = some_of y.last_renew (implied _ _ lender.rules.parts.renew is) in
      (and_parts _ _ (renew_is_waiting last.0 is last.1)).0

  -- The requester is in RENEW/PENDING or RENEW/OVERDUE exactly if the responder is.
  renew_alike : is_among (states.RenewPending ∷ states.RenewOverdue ∷ []) x.state
      ≡ is_among (states.RenewPending ∷ states.RenewOverdue ∷ []) y.state
  renew_alike = alike _ _ renew_there renew_here

  -- ---- due dates

  -- If the requester is in neither RECALL nor RETURNED, no Renew-Answer grants a date after its due date. The requester
  -- reflects this answer, so that a message attests it: the answer itself.
  answer_not_after : (c : ℕ) (due granted : Date) (j : ℕ) (b : Apdu) → x.due ≡ Some due
      → is_among (states.Recall ∷ states.Returned ∷ []) x.state ≡ false → message y.issued j ≡ Some b
      → b.body ≡ types.RenewAnswer c (Some granted) → is_before due granted ≡ false
  answer_not_after c due granted j b is out_there at body =
      let answers : answered_number MayRenew b.body ≡ Some c = ap (answered_number MayRenew) body in
      let asked = lender.asked MayRenew c (inr (is_among_answers y.issued j b c at answers)) in
      let own = heeded asked.0 asked.1 in
      let number = sym (message_number x.txn x.issued own.0 asked.0 borrower.rules.numbered own.1).1 ∙ asked.3 in
      let there : message x.issued c ≡ Some asked.0 = ap (message x.issued) (sym number) ∙ own.1 in
      let issued_it : is_message_with is_renew x.issued c ≡ true = ap (is_there is_renew) there ∙ asked.2 in
      let over : is_awaiting_answer x c ≡ false =
      false_from_ne_true _ (λ waits. renew_answered c due (message_some x.issued c asked.0 there) waits is
      (j, b, at, answers)) in
      let not_past : is_due_after due x.due ≡ false = subst (λ o. is_due_after due o ≡ false) (sym is) (itself_not_before due) in
      let known = borrower.notices (notices.Answered c due) (issued_it, out_there, over, not_past) in
      let issued_at = issued known.0 known.1 in
      let place : issued_at.0 ≡ j = answers_once (answered_number MayRenew) y.issued lender.renewals.distinct issued_at.0 j c
      known.0 b issued_at.1 at (attests_answered known.0.number c due known.0.body known.2) answers in
      let same : ◌≡◌ {A = Option Apdu} (Some known.0) (Some b) = sym issued_at.1 ∙ ap (message y.issued) place ∙ at in
      attests_not_after known.0.number c due granted known.0.body (ap (λ (o : Apdu). o.body) (same_apdu known.0 b same) ∙ body)
      known.2

  -- If the requester is in neither RECALL nor RETURNED, no granted date is after its due date.
  last_not_after : (due granted : Date) (i j : ℕ) (a b : Apdu) → x.due ≡ Some due
      → is_among (states.Recall ∷ states.Returned ∷ []) x.state ≡ false → message y.issued i ≡ Some a
      → grant_in a.body ≡ Some due → message y.issued j ≡ Some b → grant_in b.body ≡ Some granted → is_before granted due ≡ false
      → is_before due granted ≡ false
  last_not_after due granted i j a b is out_there at_i is_a at_j is_b not_earlier =
      go (grant_kind a.body due is_a) (grant_kind b.body granted is_b)
    where
      -- A Shipped or a Renew-Answer yes grants either date. There is one Shipped at most, and later grants have later
      -- dates.
      go : (a.body ≡ types.Shipped due) ⊎ ((c : ℕ) × (a.body ≡ types.RenewAnswer c (Some due)))
          → (b.body ≡ types.Shipped granted) ⊎ ((c : ℕ) × (b.body ≡ types.RenewAnswer c (Some granted)))
          → is_before due granted ≡ false
      go kind (inr (c, body)) = answer_not_after c due granted j b is out_there at_j body
      go (inl first) (inl last) =
          let one = one_end y.txn y.issued j b lender.rules.numbered
          (omega (arith, lender.ends.once, at_most_one (is_among responder.ended y.state))) at_j (ap is_end last) in
          let two = one_end y.txn y.issued i a lender.rules.numbered
          (omega (arith, lender.ends.once, at_most_one (is_among responder.ended y.state))) at_i (ap is_end first) in
          let place : i ≡ j = same_Some i j (sym two ∙ one) in
          let same : ◌≡◌ {A = Option Apdu} (Some a) (Some b) = sym at_i ∙ ap (message y.issued) place ∙ at_j in
          let dates : due ≡ granted = same_Some due granted
          (sym is_a ∙ ap (λ (o : Apdu). grant_in o.body) (same_apdu a b same) ∙ is_b) in
          subst (λ d. is_before due d ≡ false) dates (itself_not_before due)
      go (inr (c, body)) (inl last) =
          let answers : answered_number MayRenew a.body ≡ Some c = ap (answered_number MayRenew) body in
          let asked = lender.asked MayRenew c (inr (is_among_answers y.issued i a c at_i answers)) in
          let own = heeded asked.0 asked.1 in
          let number = sym (message_number x.txn x.issued own.0 asked.0 borrower.rules.numbered own.1).1 ∙ asked.3 in
          let some : 0 < c = subst (λ k. 0 < k) number (message_some x.issued own.0 asked.0 own.1) in
          absurd (both_ways _ not_earlier
          (lender.grants j i 0 c b a granted due at_j at_i (ap grant_of last) (ap grant_of body) some))

  -- The two due dates are equal if the requester is in neither RECALL nor RETURNED.
  same_due : is_among (states.Recall ∷ states.Returned ∷ []) x.state ≡ false → x.due ≡ due_of y
  same_due out_there = go x.due refl
    where
      -- The responder has granted no date if the requester has none.
      nothing : (o : Option Date) → due_of y ≡ o → x.due ≡ None → None ≡ o
      nothing None e is = refl
      nothing (Some d) e is =
          let found = finds_last granted_day y.issued d e in
          let shipped : has_message_with is_shipped y.issued ≡ true =
          grants_shipped y.issued found.0 found.1 d lender.rules.ships_first found.2 found.3 in
          let not_some : is_some x.due ≡ true = borrower.rules.parts.due ∙ (later_alike ∙ (sym lender.ends.shipped ∙ shipped)) in
          absurd (both_ways _ (ap is_some is) not_some)

      -- A due date of the requester is the last one granted, for neither is before the other.
      go : (o : Option Date) → x.due ≡ o → x.due ≡ due_of y
      go None is = is ∙ nothing (due_of y) refl is
      go (Some due) is =
          let known = borrower.knows (requester.Granted due) is in
          let at = issued known.0 known.1 in
          let grants = tells_grant known.0.body due known.2 in
          let last = granted_not_later y.issued at.0 known.0 due lender.rules.rising at.1 grants in
          let found = finds_last granted_day y.issued last.0 last.1 in
          let not_after = last_not_after due last.0 at.0 found.0 known.0 found.1 is out_there at.1 grants found.2 found.3
          last.2 in
          is ∙ (ap Some (same_date due last.0 not_after last.2) ∙ sym last.1)

  -- ---- overdue

  -- The responder is overdue if the requester is.
  overdue_there : is_among (states.NotReceivedOverdue ∷ states.Overdue ∷ states.RenewOverdue ∷ []) x.state ≡ true
      → is_among (states.Overdue ∷ states.RenewOverdue ∷ []) y.state ≡ true
  overdue_there is =
      let late = overdue_is_out x.state is in
      let due = some_of x.due (borrower.rules.parts.due ∙ late.0) in
      let known = borrower.notices (notices.PastDue due.0) (due.1, is) in
      let of_due : is_overdue_of due.0 known.0.body ≡ true = attests_overdue known.0.number due.0 known.0.body known.2 in
      let its : due_of y ≡ Some due.0 = sym (same_due late.1) ∙ due.1 in
      overdue_left y.state (lender.overdue.after due.0 its
      (has_issued y.issued responder_sent (is_overdue_of due.0) known.0 issued known.1 of_due)) (sym recalled_alike ∙ late.2)
      (sym returned_alike ∙ late.3)

  -- The requester is overdue if the responder is.
  overdue_here : is_among (states.Overdue ∷ states.RenewOverdue ∷ []) y.state ≡ true
      → is_among (states.NotReceivedOverdue ∷ states.Overdue ∷ states.RenewOverdue ∷ []) x.state ≡ true
  overdue_here is =
      let late = late_is_out y.state is in
      let out_there = either_gone x.state (recalled_alike ∙ late.1) (returned_alike ∙ late.2) in
      let due = some_of x.due (borrower.rules.parts.due ∙ (later_alike ∙ late.0)) in
      let its : due_of y ≡ Some due.0 = sym (same_due out_there) ∙ due.1 in
      let at = says_message (is_overdue_of due.0) y.issued (lender.overdue.issued due.0 its is) in
      overdue_at x.state (later_alike ∙ late.0) (recalled_alike ∙ late.1) (returned_alike ∙ late.2)
      (overdue_heard x at.1.number due.0 at.1.body at.3 due.1
      (hear.requester at.0 at.1 at.2 (overdue_is_plain due.0 at.1.body at.3)))

  -- The requester is overdue exactly if the responder is.
  overdue_alike : is_among (states.NotReceivedOverdue ∷ states.Overdue ∷ states.RenewOverdue ∷ []) x.state
      ≡ is_among (states.Overdue ∷ states.RenewOverdue ∷ []) y.state
  overdue_alike = alike _ _ overdue_there overdue_here

  -- ---- CONDITIONAL

  -- A requester in PENDING does not face a responder in CONDITIONAL. The last message of the responder names
  -- conditions, and by `has_heard` the requester has accepted them. But by `has_heard` the responder does not wait for
  -- this yes.
  not_accepted : is_among (states.Conditional ∷ []) y.state ≡ true → is_among (states.Pending ∷ []) x.state ≡ true → ⊥
  not_accepted is pending =
      let at = last_names y.issued (implied _ _ lender.rules.issued.conditions is) in
      let number = message_number y.txn y.issued (length y.issued) at.0 lender.rules.numbered at.1 in
      let heard_it = most at.0.number (accepted_number x)
      (conditions_heard x at.0.number at.0.body at.2 (hear.last at.0 at.1) pending) in
      let named = borrower.notices (notices.Named heard_it.0) (inr heard_it.1) in
      let there = issued named.0 named.1 in
      let its = message_number y.txn y.issued there.0 named.0 lender.rules.numbered there.1 in
      let within = message_within y.issued there.0 named.0 there.1 in
      let same : heard_it.0 ≡ length y.issued =
      omega (arith, heard_it.2, number.1, its.1, within, attests_named named.0.number heard_it.0 named.0.body named.2) in
      let yes = finds_last accepted_in x.issued heard_it.0 heard_it.1 in
      both_ways _ (yes_heard y yes.1.number heard_it.0 yes.1.body yes.3 (hear.responder yes.0 yes.1 yes.2))
      (waits_outstanding y heard_it.0 is same at.1)

  -- The requester is in CONDITIONAL if the responder is.
  conditions_here : is_among (states.Conditional ∷ []) y.state ≡ true → is_among (states.Conditional ∷ []) x.state ≡ true
  conditions_here is =
      let no = conditional y.state is in
      conditional_left x.state borrower.rules.parts.role (idle_alike ∙ no.0) (cancelled_alike ∙ no.1) (unsupplied_alike ∙ no.2)
      (waits_alike ∙ no.3) (later_alike ∙ no.4)
      (false_from_ne_true _ (not_accepted is))

  -- ---- converged

  -- The states of both satisfy `StatesFit`.
  states_fit : StatesFit x.state y.state
  states_fit = record {
    role = borrower.rules.parts.role;
    other_role = lender.rules.parts.role;
    idle = idle_alike;
    cancelled = cancelled_alike;
    unsupplied = unsupplied_alike;
    cancel_waits = waits_alike;
    shipped = later_alike;
    renew_waits = renew_alike;
    recalled = recalled_alike;
    returned = returned_alike;
    overdue = overdue_alike;
    conditions = conditions_here;
  }

  -- The state of the requester faces the state of the responder.
  face : is_among (faced_in x.state) y.state ≡ true
  face = fits_face x.state y.state states_fit

  -- The requester is not in CONDITIONAL with declined conditions.
  not_declined : is_declined x ≡ true → ⊥
  not_declined is =
      let parts = and_parts _ _ is in
      let at = says_message declines x.issued parts.1 in
      let is_open = open_left x.state y.state parts.0 face in
      let used = no_heard y at.1.number at.1.body at.3 (hear.responder at.0 at.1 at.2) is_open in
      both_ways _ used (le-leb _ _ (hear.can_answer is_open))

  -- A responder that has shipped has the received mark exactly if a Received was issued.
  marked : is_among shipped_states y.state ≡ true → y.received ≡ is_received_by x
  marked is =
      alike _ _ (says_true txn x y responder_sent requester_sent borrower lender issued heeded).received (λ has_it.
      let at = says_message is_received x.issued has_it in
      received_heard y at.1.number at.1.body at.3 (hear.responder at.0 at.1 at.2) is)

  -- The requester has the checked-in mark exactly if the responder is in CHECKED-IN.
  checked : x.checked_in ≡ is_among (states.CheckedIn ∷ []) y.state
  checked =
      alike _ _ (λ is. ap (is_among (states.CheckedIn ∷ []))
      ((says_true txn x y responder_sent requester_sent borrower lender issued heeded).checked_in is)) (λ is.
      let at = says_message is_checked_in y.issued (lender.rules.issued.checked_in ∙ is) in
      checked_in_heard x at.1.number at.1.body at.3 (hear.requester at.0 at.1 at.2 (checked_in_is_plain at.1.body at.3))
      (returned_alike ∙ home_is_back y.state is))

  -- The two records are converged.
  pub converged : HaveConverged x y
  converged = record {
    faced = face;
    undeclined = false_from_ne_true _ not_declined;
    received = marked;
    checked_in = checked;
    due = same_due;
  }
