-- Proves that each notice that a requester's record reflects was reflected before, or the last message attests it.
use Rattle.std.proofs.Common.{rules, arith, ◌≡◌, ◌⊎◌, inl, inr, ℕ, ◌+◌, ◌<◌, ◌≤◌, true, false, ◌&&◌, ◌==◌, [], ◌∷◌, length}
use Rattle.std.proofs.Common.{Option, Some, None, is_some, Ok, if◌then◌else◌, length-append, refl, subst, sym, ap, ◌∙◌}
use Rattle.std.specs.Option.{option_or}
use Rattle.std.proofs.lemmas.Bool.{and_parts, and_from, eq-eqb, eqb-true}
use Rattle.std.proofs.lemmas.Option.{same_Some}
use Rattle.ill_values.specs.Day.{Date}
use Rattle.ill_values.specs.declared.apdu.Apdu.{Apdu}
use Rattle.ill_values.specs.Body.{Body}
use Rattle.ill_core.specs.declared.state.State.TheVariants.{Conditional, RenewPending, Overdue, RenewOverdue, NotReceivedOverdue}
use Rattle.ill_core.specs.declared.state.State.TheVariants.{Recall, Returned}
use Rattle.ill_core.specs.declared.requester.Wish.{Wish}
use Rattle.ill_core.specs.State.{is_among}
use Rattle.ill_core.specs.Dates.{is_same_day, is_due_on}
use Rattle.ill_core.specs.Numbers.{is_equal_number}
use Rattle.ill_values.specs.Bodies.{is_renew, accepts}
use Rattle.ill_core.specs.Issued.{is_message_with, next_apdu, accepted_in, number_of_renew}
use Rattle.ill_core.specs.Requester.{RequesterRecord, IsRequester, later, accepted_number, last_renew}
use Rattle.ill_core.specs.RequesterActions.{Transition, acts, record_after}
use Rattle.ill_core.specs.RequesterDeliveries.{takes}
use Rattle.ill_core.specs.RequesterNotices.{Notice, Recalled, Named, Answered, GrantedBefore, PastDue, is_awaiting_answer}
use Rattle.ill_core.specs.RequesterNotices.{Reflects, Attests}
use Rattle.ill_core.proofs.IssuedLemmas.{was_more, last_of_more, last_of_next, last_renew_within}
use Rattle.ill_core.proofs.Rules.{requester_rules}
use Rattle.ill_core.proofs.RequesterTransitions as transitions
use Rattle.ill_core.proofs.RequesterTransitions.{IsTransition, is_transition}
use Rattle.ill_core.proofs.RequesterMoves.{Leads, nowhere, holds_conditions, ends, cancels, keeps_request, ships, misses, reminds}
use Rattle.ill_core.proofs.RequesterMoves.{reminds_renewing, renews, refuses_renewal, recalls, checks_in, delivery_leads}
use Rattle.ill_core.proofs.RequesterRows.{of_acts}

-- ---- due dates

-- If `is_same_day a b` is true, `a` equals `b`.
same_day : (a b : Date) → is_same_day a b ≡ true → a ≡ b
same_day a b same =
    let p = and_parts (a.year == b.year) ((a.month == b.month) && (a.day == b.day)) same in
    let q = and_parts (a.month == b.month) (a.day == b.day) p.1 in
    let year : a.year ≡ b.year = eqb-true a.year b.year p.0 in
    let month : a.month ≡ b.month = eqb-true a.month b.month q.0 in
    let day : a.day ≡ b.day = eqb-true a.day b.day q.1 in
    let parts : (a.year, a.month, a.day) ≡ (b.year, b.month, b.day) = cc in
    ap (λ (d : ℕ × ℕ × ℕ). record { year = d.0; month = d.1; day = d.2 }) parts

-- If the item is due on `day`, and the due date is `due`, `day` equals `due`.
due_on : (day due : Date) (known : Option Date) → is_due_on day known ≡ true → known ≡ Some due → day ≡ due
due_on day due None on is = search rules
due_on day due (Some other) on is = same_day day other on ∙ same_Some other due is

-- ---- deliveries

-- Each notice that `new` reflects was reflected by `x`, or the message attests it. There is one field for each kind of
-- notice.
record ReflectsOldOrAttested (x : RequesterRecord) (number : ℕ) (body : Body) (new : RequesterRecord) : Type 0 where
  recalled : Reflects new Recalled → Reflects x Recalled ⊎ Attests number body Recalled
  named : (conditions : ℕ) → Reflects new (Named conditions)
      → Reflects x (Named conditions) ⊎ Attests number body (Named conditions)
  answered : (renew : ℕ) (day : Date) → Reflects new (Answered renew day)
      → Reflects x (Answered renew day) ⊎ Attests number body (Answered renew day)
  granted_before : (renew : ℕ) (due : Date) → Reflects new (GrantedBefore renew due)
      → Reflects x (GrantedBefore renew due) ⊎ Attests number body (GrantedBefore renew due)
  past_due : (due : Date) → Reflects new (PastDue due) → Reflects x (PastDue due) ⊎ Attests number body (PastDue due)

-- The record after each row of deliveries satisfies `ReflectsOldOrAttested`. `fits` says that a due date is there
-- exactly in SHIPPED or later. `within` says that the number of the last Renew is at most the length of the list.
keeps : (x : RequesterRecord) (number : ℕ) (body : Body) (new : RequesterRecord) → Leads x number body new
    → is_some x.due ≡ is_among later x.state
    → ((n : ℕ) → last_renew x ≡ Some n → n ≤ length x.issued) → ReflectsOldOrAttested x number body new
keeps x number _ _ (nowhere body) fits within =
    record {
      recalled = λ h. inl h;
      named = λ c h. inl h;
      answered = λ n d h. inl h;
      granted_before = λ n d h. inl h;
      past_due = λ d h. inl h;
    }
keeps x number _ _ (holds_conditions is) fits within = search rules
keeps x number _ _ (ends body is_end is) fits within = search rules
keeps x number _ _ (cancels cancel is) fits within = search rules
keeps x number _ _ (keeps_request cancel is) fits within = search rules
keeps x number _ _ (ships due is) fits within = search rules
keeps x number _ _ (misses due is on) fits within = search (rules, due_on)
keeps x number _ _ (reminds due is on) fits within = search (rules, due_on)
keeps x number _ _ (reminds_renewing due is on) fits within = search (rules, due_on)
keeps x number _ _ (renews renew due waits after) fits within = search rules
keeps x number _ _ (refuses_renewal renew waits) fits within = search rules
keeps x number _ _ (recalls is) fits within = search rules
keeps x number _ _ (checks_in is) fits within = search rules

-- If `new` satisfies `ReflectsOldOrAttested`, each notice that it reflects was reflected by `x`, or the message attests
-- it.
kept : (x : RequesterRecord) (number : ℕ) (body : Body) (new : RequesterRecord) (notice : Notice)
    → ReflectsOldOrAttested x number body new
    → Reflects new notice → Reflects x notice ⊎ Attests number body notice
kept x number body new Recalled how = how.recalled
kept x number body new (Named conditions) how = how.named conditions
kept x number body new (Answered renew day) how = how.answered renew day
kept x number body new (GrantedBefore renew due) how = how.granted_before renew due
kept x number body new (PastDue due) how = how.past_due due

-- Each notice that a record reflects after a message was reflected before, or the message attests it.
pub takes_reflects : (x : RequesterRecord) (a : Apdu) (notice : Notice) → IsRequester x
    → Reflects (takes x a).1 notice → Reflects x notice ⊎ Attests a.number a.body notice
takes_reflects x a notice h =
    let rules_kept = requester_rules x h in
    kept x a.number a.body (takes x a).1 notice
    (keeps x a.number a.body (takes x a).1 (delivery_leads x a) rules_kept.parts.due
    (λ n. last_renew_within x.txn x.issued n rules_kept.numbered))

-- ---- actions

-- The transition of a wish adds no notice that the record reflects. It enters neither RECALL nor an overdue state, and
-- holds or accepts only conditions held before. It issues a Renew exactly if it leads to a state in which a Renew
-- waits. It leaves RECALL, RETURNED and the states of a waiting Renew only for RECALL or RETURNED.
record AddsNoNotice (x : RequesterRecord) (transition : Transition) : Type 0 where
  recalled : transition.next ≡ Recall → x.state ≡ Recall
  held : (c : ℕ) → transition.held ≡ Some c → x.held ≡ Some c
  accepted : (c : ℕ) → accepts transition.body ≡ Some c → x.held ≡ Some c
  open_still : is_among (Recall ∷ Returned ∷ []) transition.next ≡ false → is_among (Recall ∷ Returned ∷ []) x.state ≡ false
  answered : is_among (Recall ∷ Returned ∷ []) transition.next ≡ false
      → is_among (RenewPending ∷ RenewOverdue ∷ []) x.state ≡ false
  renew : is_renew transition.body ≡ true → is_among (RenewPending ∷ RenewOverdue ∷ []) transition.next ≡ true
  waits : is_among (RenewPending ∷ RenewOverdue ∷ []) transition.next ≡ true → is_renew transition.body ≡ true
  past_due : is_among (NotReceivedOverdue ∷ Overdue ∷ RenewOverdue ∷ []) transition.next ≡ true
      → is_among (NotReceivedOverdue ∷ Overdue ∷ RenewOverdue ∷ []) x.state ≡ true

-- Each transition of a wish satisfies `AddsNoNotice`, if conditions are held exactly in CONDITIONAL.
leaves : (x : RequesterRecord) (transition : Transition) → IsTransition x transition
    → is_some x.held ≡ is_among (Conditional ∷ []) x.state
    → AddsNoNotice x transition
leaves x _ (transitions.requests expiry item is) fits = search rules
leaves x _ (transitions.cancels is) fits = search rules
leaves x _ (transitions.accepts is) fits = search rules
leaves x _ (transitions.declines is) fits = search rules
leaves x _ (transitions.receives is) fits = search rules
leaves x _ (transitions.receives_late is) fits = search rules
leaves x _ (transitions.receives_recalled is) fits = search rules
leaves x _ (transitions.renews wished is) fits = search rules
leaves x _ (transitions.renews_late wished is) fits = search rules
leaves x _ (transitions.returns is) fits = search rules
leaves x _ (transitions.returns_recalled is) fits = search rules

-- If conditions `c` are the accepted ones after a transition, they were held or accepted before it.
accepts_named : (x : RequesterRecord) (transition : Transition) (c : ℕ) (accepted : Option ℕ) → AddsNoNotice x transition
    → accepts transition.body ≡ accepted → option_or accepted (accepted_number x) ≡ Some c
    → Reflects x (Named c)
accepts_named x transition c None how is found = inr found
accepts_named x transition c (Some n) how is found = inl (how.accepted c (is ∙ found))

-- If a transition issues a Renew, this is the last Renew of the record after it.
renew_next : (x : RequesterRecord) (transition : Transition) → is_renew transition.body ≡ true
    → last_renew (record_after x transition) ≡ Some (length x.issued + 1)
renew_next x transition is =
    last_of_more number_of_renew x.issued (next_apdu x.txn x.issued transition.body) (length x.issued + 1)
    (ap (λ b. if b then Some (length x.issued + 1) else None) is)

-- A Renew that is in the record after a transition, and does not wait there, was issued before the transition.
was_before : (x : RequesterRecord) (transition : Transition) (renew : ℕ) → AddsNoNotice x transition
    → is_awaiting_answer (record_after x transition) renew ≡ false
    → (is_message_with is_renew x.issued renew ≡ true) ⊎ ((renew ≡ length x.issued + 1) × (is_renew transition.body ≡ true))
    → is_message_with is_renew x.issued renew ≡ true
was_before x transition renew how waits_not (inl was_one) = was_one
was_before x transition renew how waits_not (inr (at, is)) =
    let waits : is_awaiting_answer (record_after x transition) renew ≡ true =
    and_from _ _ (how.renew is) (subst (λ o. is_equal_number renew o ≡ true) (sym (renew_next x transition is))
    (eq-eqb renew (length x.issued + 1) at)) in
    search rules

-- If a Renew waits after a transition, its number is above the numbers issued before it.
waits_last : (x : RequesterRecord) (transition : Transition) (renew : ℕ) → AddsNoNotice x transition
    → is_awaiting_answer (record_after x transition) renew ≡ true → length x.issued < renew
waits_last x transition renew how waits =
    let parts = and_parts (is_among (RenewPending ∷ RenewOverdue ∷ []) transition.next)
    (is_equal_number renew (last_renew (record_after x transition))) waits in
    let same : renew ≡ length x.issued + 1 =
    eqb-true renew (length x.issued + 1)
    (subst (λ o. is_equal_number renew o ≡ true) (renew_next x transition (how.waits parts.0)) parts.1) in
    omega (arith, same)

-- If a transition satisfies `AddsNoNotice`, each notice that the record reflects after it was reflected before it.
left : (x : RequesterRecord) (transition : Transition) (notice : Notice) → AddsNoNotice x transition
    → Reflects (record_after x transition) notice
    → Reflects x notice
left x transition Recalled how h = how.recalled h
left x transition (Named c) how (inl held) = inl (how.held c held)
left x transition (Named c) how (inr accepted) =
    accepts_named x transition c (accepts transition.body) how refl
    (sym (last_of_next accepted_in x.issued (next_apdu x.txn x.issued transition.body)) ∙ accepted)
left x transition (Answered renew day) how h = (
  was_before x transition renew how h.2 (was_more is_renew x.issued (next_apdu x.txn x.issued transition.body) renew h.0),
  how.open_still h.1,
  ap (λ here. here && is_equal_number renew (last_renew x)) (how.answered h.1),
  h.3,
)
left x transition (GrantedBefore renew due) how (same, inl waits) = (same, inr (waits_last x transition renew how waits))
left x transition (GrantedBefore renew due) how (same, inr above) =
    (same, inr (omega (arith, above, length-append x.issued (next_apdu x.txn x.issued transition.body ∷ []))))
left x transition (PastDue due) how (same, past) = (same, how.past_due past)

-- Each notice that a record reflects after a wish was reflected before it.
pub acts_reflects : (x new : RequesterRecord) (wish : Wish) (notice : Notice) → acts x wish ≡ Ok new → IsRequester x
    → Reflects new notice → Reflects x notice
acts_reflects x new wish notice =
    of_acts (λ r. IsRequester x → Reflects r notice → Reflects x notice) x new wish (λ transition there how h.
    left x transition notice (leaves x transition (is_transition x wish transition there) (requester_rules x h).parts.held))
