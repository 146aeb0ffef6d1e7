-- Each act towards the end leads a record to a state from which fewer acts are left. Messages of the other side lead it
-- no further away.
use Rattle.std.proofs.Common.{rules, arith, ◌≡◌, ◌⊎◌, ◌↔◌, inl, inr, ℕ, ◌≤◌, ◌<◌, Bool, true, false, not, ◌&&◌, List, [], ◌∷◌}
use Rattle.std.proofs.Common.{Option, Some, None, Result, Ok, Err, refl, ap, ◌∙◌, subst}
use Rattle.std.specs.Option.{unwrap_or}
use Rattle.std.proofs.lemmas.Bool.{and_parts, or_right}
use Rattle.ill_values.specs.Day.{Date}
use Rattle.ill_values.specs.TxnId.{Qualifiers}
use Rattle.ill_values.specs.Bodies.{is_final, is_received, declines}
use Rattle.ill_values.specs.declared.apdu.Apdu.{Apdu}
use Rattle.ill_values.specs.Body.{Body}
use Rattle.ill_values.specs.declared.apdu.BodyWith.TheVariants as types
use Rattle.ill_values.specs.declared.apdu.AnswerResult.{AnswerResult}
use Rattle.ill_values.specs.declared.apdu.AnswerResult.TheVariants as results
use Rattle.ill_core.specs.declared.state.State.{State}
use Rattle.ill_core.specs.declared.state.State.TheVariants as states
use Rattle.ill_core.specs.declared.refusal.Refusal.{Refusal}
use Rattle.ill_core.specs.declared.turn.Turn.TheVariants.{Over}
use Rattle.ill_core.specs.declared.requester.Wish.{Wish}
use Rattle.ill_core.specs.declared.requester.Wish.TheVariants as wishes
use Rattle.ill_core.specs.declared.responder.Deed.{Deed}
use Rattle.ill_core.specs.declared.responder.Deed.TheVariants as deeds
use Rattle.ill_core.specs.State.{is_among}
use Rattle.ill_core.specs.Rules.{implies}
use Rattle.ill_core.specs.Issued.{has_message_with, next_apdu, next_number, with_next}
use Rattle.ill_core.specs.Requester.{RequesterRecord, is_declined, is_received_by}
use Rattle.ill_core.specs.RequesterActions.{Transition, transition_of, record_after, acts}
use Rattle.ill_core.specs.RequesterRules.{RequesterRules}
use Rattle.ill_core.specs.Responder.{ResponderRecord, later}
use Rattle.ill_core.specs.ResponderActions as responder
use Rattle.ill_core.specs.ResponderEvidence.{ended}
use Rattle.ill_core.specs.Verbs.{requester_turn, requester_turn_in, reply_turn, returned_turn}
use Rattle.ill_core.proofs.IssuedLemmas.{has_more}
use Rattle.ill_core.proofs.RequesterRows as rows
use Rattle.ill_core.proofs.TransitionLemmas.{at_transition, is_this, no_more, transition_is}
use Rattle.ill_world.specs.Round.{faced_in, HaveConverged}
use Rattle.ill_progress.specs.Ends.{is_wish_to_end, is_deed_to_end, recalled_acts, returned_acts, acts_to_end_in, acts_to_end}

-- ---- how many acts are left

-- In RECALL at most two acts towards the end are left, if the item was received.
received_few : (received : Bool) → received ≡ true → recalled_acts received ≤ 2
received_few true is = omega arith
received_few false is = search rules

-- At most three acts towards the end are left in RECALL.
recalled_few : (received : Bool) → recalled_acts received ≤ 3
recalled_few true = omega arith
recalled_few false = omega arith

-- At most one act towards the end is left in RETURNED.
returned_few : (checked_in : Bool) → returned_acts checked_in ≤ 1
returned_few true = omega arith
returned_few false = omega arith

-- At most five acts towards the end are left in each state.
few_in : (s : State) (received checked_in : Bool) → acts_to_end_in s received checked_in ≤ 5
few_in states.Idle received checked_in = omega arith
few_in states.Pending received checked_in = omega arith
few_in states.Conditional received checked_in = omega arith
few_in states.CancelPending received checked_in = omega arith
few_in states.Shipped received checked_in = omega arith
few_in states.NotReceivedOverdue received checked_in = omega arith
few_in states.Received received checked_in = omega arith
few_in states.RenewPending received checked_in = omega arith
few_in states.Overdue received checked_in = omega arith
few_in states.RenewOverdue received checked_in = omega arith
few_in states.Recall received checked_in = omega (arith, recalled_few received)
few_in states.Returned received checked_in = omega (arith, returned_few checked_in)
few_in states.InProcess received checked_in = omega arith
few_in states.Cancelled received checked_in = omega arith
few_in states.NotSupplied received checked_in = omega arith
few_in states.CheckedIn received checked_in = omega arith

-- At most five acts towards the end are left of a loan.
pub acts_are_few : (x : RequesterRecord) → acts_to_end x ≤ 5
acts_are_few x = few_in x.state (is_received_by x) x.checked_in

-- Some act towards the end is left in RECALL.
recalled_some : {P : Type 0} (received : Bool) → recalled_acts received ≡ 0 → P
recalled_some true is = absurd (omega (arith, is))
recalled_some false is = absurd (omega (arith, is))

-- If no act towards the end is left in RETURNED, the loan is over.
returned_none : (checked_in : Bool) → returned_acts checked_in ≡ 0 → returned_turn checked_in ≡ Over
returned_none true is = refl
returned_none false is = absurd (omega (arith, is))

-- If no act towards the end is left in a state, the loan is over for the requester.
none_in : (s : State) (declined received checked_in : Bool) → acts_to_end_in s received checked_in ≡ 0
    → requester_turn_in s declined checked_in ≡ Over
none_in states.Idle declined received checked_in is = absurd (omega (arith, is))
none_in states.Pending declined received checked_in is = absurd (omega (arith, is))
none_in states.Conditional declined received checked_in is = absurd (omega (arith, is))
none_in states.CancelPending declined received checked_in is = absurd (omega (arith, is))
none_in states.Shipped declined received checked_in is = absurd (omega (arith, is))
none_in states.NotReceivedOverdue declined received checked_in is = absurd (omega (arith, is))
none_in states.Received declined received checked_in is = absurd (omega (arith, is))
none_in states.RenewPending declined received checked_in is = absurd (omega (arith, is))
none_in states.Overdue declined received checked_in is = absurd (omega (arith, is))
none_in states.RenewOverdue declined received checked_in is = absurd (omega (arith, is))
none_in states.Recall declined received checked_in is = recalled_some received is
none_in states.Returned declined received checked_in is = returned_none checked_in is
none_in states.InProcess declined received checked_in is = refl
none_in states.Cancelled declined received checked_in is = refl
none_in states.NotSupplied declined received checked_in is = refl
none_in states.CheckedIn declined received checked_in is = refl

-- The loan is not over in CONDITIONAL.
reply_open : {P : Type 0} (declined : Bool) → reply_turn declined ≡ Over → P
reply_open true is = absurd cc
reply_open false is = absurd cc

-- If the loan is over in RETURNED, no act towards the end is left.
returned_over : (checked_in : Bool) → returned_turn checked_in ≡ Over → returned_acts checked_in ≡ 0
returned_over true is = refl
returned_over false is = absurd cc

-- If the loan is over for a requester in a state, no act towards the end is left.
over_in : (s : State) (declined received checked_in : Bool) → requester_turn_in s declined checked_in ≡ Over
    → acts_to_end_in s received checked_in ≡ 0
over_in states.Idle declined received checked_in is = absurd cc
over_in states.Pending declined received checked_in is = absurd cc
over_in states.Conditional declined received checked_in is = reply_open declined is
over_in states.CancelPending declined received checked_in is = absurd cc
over_in states.Shipped declined received checked_in is = absurd cc
over_in states.NotReceivedOverdue declined received checked_in is = absurd cc
over_in states.Received declined received checked_in is = absurd cc
over_in states.RenewPending declined received checked_in is = absurd cc
over_in states.Overdue declined received checked_in is = absurd cc
over_in states.RenewOverdue declined received checked_in is = absurd cc
over_in states.Recall declined received checked_in is = absurd cc
over_in states.Returned declined received checked_in is = returned_over checked_in is
over_in states.InProcess declined received checked_in is = refl
over_in states.Cancelled declined received checked_in is = refl
over_in states.NotSupplied declined received checked_in is = refl
over_in states.CheckedIn declined received checked_in is = refl

-- No act towards the end is left if, and only if, the loan is over for the requester.
pub none_left_at_the_end : (x : RequesterRecord) → (acts_to_end x ≡ 0) ↔ (requester_turn x ≡ Over)
none_left_at_the_end x = (
  λ is. none_in x.state (is_declined x) (is_received_by x) x.checked_in is,
  λ is. over_in x.state (is_declined x) (is_received_by x) x.checked_in is,
)

-- ---- the acts that are left, by groups of states

-- Outside IDLE at most four acts towards the end are left.
begun_few : (s : State) (received checked_in : Bool) → is_among (states.Idle ∷ []) s ≡ false
    → acts_to_end_in s received checked_in ≤ 4
begun_few states.Idle received checked_in begun = search rules
begun_few states.Pending received checked_in begun = omega arith
begun_few states.Conditional received checked_in begun = omega arith
begun_few states.CancelPending received checked_in begun = omega arith
begun_few states.Shipped received checked_in begun = omega arith
begun_few states.NotReceivedOverdue received checked_in begun = omega arith
begun_few states.Received received checked_in begun = omega arith
begun_few states.RenewPending received checked_in begun = omega arith
begun_few states.Overdue received checked_in begun = omega arith
begun_few states.RenewOverdue received checked_in begun = omega arith
begun_few states.Recall received checked_in begun = omega (arith, recalled_few received)
begun_few states.Returned received checked_in begun = omega (arith, returned_few checked_in)
begun_few states.InProcess received checked_in begun = omega arith
begun_few states.Cancelled received checked_in begun = omega arith
begun_few states.NotSupplied received checked_in begun = omega arith
begun_few states.CheckedIn received checked_in begun = omega arith

-- Lists the states of a requester whose request is not decided.
abbrev pub undecided : List State
undecided = states.Pending ∷ states.Conditional ∷ states.CancelPending ∷ []

-- In neither IDLE nor an undecided state at most three acts towards the end are left.
decided_few : (s : State) (received checked_in : Bool) → is_among (states.Idle ∷ undecided) s ≡ false
    → acts_to_end_in s received checked_in ≤ 3
decided_few states.Idle received checked_in decided = search rules
decided_few states.Pending received checked_in decided = search rules
decided_few states.Conditional received checked_in decided = search rules
decided_few states.CancelPending received checked_in decided = search rules
decided_few states.Shipped received checked_in decided = omega arith
decided_few states.NotReceivedOverdue received checked_in decided = omega arith
decided_few states.Received received checked_in decided = omega arith
decided_few states.RenewPending received checked_in decided = omega arith
decided_few states.Overdue received checked_in decided = omega arith
decided_few states.RenewOverdue received checked_in decided = omega arith
decided_few states.Recall received checked_in decided = omega (arith, recalled_few received)
decided_few states.Returned received checked_in decided = omega (arith, returned_few checked_in)
decided_few states.InProcess received checked_in decided = omega arith
decided_few states.Cancelled received checked_in decided = omega arith
decided_few states.NotSupplied received checked_in decided = omega arith
decided_few states.CheckedIn received checked_in decided = omega arith

-- Lists the states of a requester that may have issued a Received.
abbrev may_have_received : List State
may_have_received =
    states.Received ∷ states.RenewPending ∷ states.Overdue ∷ states.RenewOverdue ∷ states.Recall ∷ states.Returned ∷ []

-- Lists the states in which a Renew waits for its answer.
abbrev pub renewing : List State
renewing = states.RenewPending ∷ states.RenewOverdue ∷ []

-- After a Received at most two acts towards the end are left, if no Renew waits.
received_left : (s : State) (received checked_in : Bool) → received ≡ true
    → implies received (is_among may_have_received s) ≡ true
    → is_among renewing s ≡ false → acts_to_end_in s received checked_in ≤ 2
received_left states.Received received checked_in is fits waits = omega arith
received_left states.RenewPending received checked_in is fits waits = search rules
received_left states.Overdue received checked_in is fits waits = omega arith
received_left states.RenewOverdue received checked_in is fits waits = search rules
received_left states.Recall received checked_in is fits waits = received_few received is
received_left states.Returned received checked_in is fits waits = omega (arith, returned_few checked_in)
received_left states.InProcess received checked_in is fits waits = omega arith
received_left states.Cancelled received checked_in is fits waits = omega arith
received_left states.NotSupplied received checked_in is fits waits = omega arith
received_left states.CheckedIn received checked_in is fits waits = omega arith
received_left s true checked_in is fits waits = search rules
received_left s false checked_in is fits waits = search rules

-- ---- a requester that takes messages

-- Messages have led requester `old` to `new`. It has issued nothing. The messages lead neither to IDLE nor out of
-- RETURNED. If no Renew waited at `old`, none waits at `new`.
pub record RequesterKept (old new : RequesterRecord) : Type 0 where
  pub issued : new.issued ≡ old.issued
  pub begun : is_among (states.Idle ∷ []) old.state ≡ false → is_among (states.Idle ∷ []) new.state ≡ false
  pub returned : is_among (states.Returned ∷ []) old.state ≡ true → is_among (states.Returned ∷ []) new.state ≡ true
  pub settled : is_among renewing old.state ≡ false → is_among renewing new.state ≡ false

-- If `says` holds of a message that `old` has issued, it holds of one that `new` has issued.
still_says : (says : Body → Bool) (old new : RequesterRecord) → RequesterKept old new → has_message_with says old.issued ≡ true
    → has_message_with says new.issued ≡ true
still_says says old new kept is = ap (has_message_with says) kept.issued ∙ is

-- If `says` holds of `body`, it holds of some message after one with `body` is issued.
issued_says : (says : Body → Bool) (txn : Qualifiers) (apdus : List Apdu) (body : Body) → says body ≡ true
    → has_message_with says (with_next txn apdus body) ≡ true
issued_says says txn apdus body is =
    has_more says apdus (next_apdu txn apdus body) ∙ or_right (has_message_with says apdus) (says body) is

-- ---- each wish

-- Each record `after` to which messages lead from `new` has fewer acts left than `x`. Premises: it satisfies its rules,
-- and no conditions are declined (`is_declined`).
abbrev Fewer : RequesterRecord → RequesterRecord → Type 0
Fewer x new = (after : RequesterRecord) → RequesterKept new after → RequesterRules after → is_declined after ≡ false
    → acts_to_end after < acts_to_end x

-- In IDLE five acts are left.
idle_left : (s : State) (received checked_in : Bool) → is_among (states.Idle ∷ []) s ≡ true
    → acts_to_end_in s received checked_in ≡ 5
idle_left states.Idle received checked_in is = refl
idle_left s received checked_in is = search rules

-- In CONDITIONAL four acts are left.
conditional_left : (s : State) (received checked_in : Bool) → is_among (states.Conditional ∷ []) s ≡ true
    → acts_to_end_in s received checked_in ≡ 4
conditional_left states.Conditional received checked_in is = refl
conditional_left s received checked_in is = search rules

-- In SHIPPED three acts are left.
shipped_left : (s : State) (received checked_in : Bool) → is_among (states.Shipped ∷ []) s ≡ true
    → acts_to_end_in s received checked_in ≡ 3
shipped_left states.Shipped received checked_in is = refl
shipped_left s received checked_in is = search rules

-- In NOT-RECEIVED/OVERDUE three acts are left.
late_left : (s : State) (received checked_in : Bool) → is_among (states.NotReceivedOverdue ∷ []) s ≡ true
    → acts_to_end_in s received checked_in ≡ 3
late_left states.NotReceivedOverdue received checked_in is = refl
late_left s received checked_in is = search rules

-- In RECALL three acts are left, if the item was not received.
recalled_left : (s : State) (received checked_in : Bool) → is_among (states.Recall ∷ []) s ≡ true → not received ≡ true
    → acts_to_end_in s received checked_in ≡ 3
recalled_left states.Recall false checked_in is open_still = refl
recalled_left s received checked_in is open_still = search rules

-- In RECEIVED, RENEW/PENDING, OVERDUE and RENEW/OVERDUE at least two acts are left.
had_left : (s : State) (received checked_in : Bool)
    → is_among (states.Received ∷ states.RenewPending ∷ states.Overdue ∷ states.RenewOverdue ∷ []) s ≡ true
    → 2 ≤ acts_to_end_in s received checked_in
had_left states.Received received checked_in is = omega arith
had_left states.RenewPending received checked_in is = omega arith
had_left states.Overdue received checked_in is = omega arith
had_left states.RenewOverdue received checked_in is = omega arith
had_left s received checked_in is = search rules

-- In RECALL at least two acts are left, if the item was received.
kept_left : (s : State) (received checked_in : Bool) → is_among (states.Recall ∷ []) s ≡ true → received ≡ true
    → 2 ≤ acts_to_end_in s received checked_in
kept_left states.Recall true checked_in is has = omega arith
kept_left s received checked_in is has = search rules

-- If a Renew waits for its answer, three acts are left.
renewing_left : (s : State) (received checked_in : Bool) → is_among renewing s ≡ true → acts_to_end_in s received checked_in ≡ 3
renewing_left states.RenewPending received checked_in is = refl
renewing_left states.RenewOverdue received checked_in is = refl
renewing_left s received checked_in is = search rules

-- In RETURNED at most one act is left.
returned_left : (s : State) (received checked_in : Bool) → is_among (states.Returned ∷ []) s ≡ true
    → acts_to_end_in s received checked_in ≤ 1
returned_left states.Returned received checked_in is = returned_few checked_in
returned_left s received checked_in is = search rules

-- If a requester outside IDLE has issued a Conditional-Reply no, and is not in CONDITIONAL (`undeclined`), it is
-- decided. Its rules (`fits`) exclude the other undecided states.
declined_decides : (s : State) (has_no : Bool) → has_no ≡ true → is_among (states.Idle ∷ []) s ≡ false
    → (is_among (states.Conditional ∷ []) s && has_no) ≡ false
    → implies has_no (not (is_among (states.Pending ∷ states.CancelPending ∷ states.Cancelled ∷ []) s)) ≡ true
    → is_among (states.Idle ∷ undecided) s ≡ false
declined_decides states.Idle true is begun undeclined fits = search rules
declined_decides states.Pending true is begun undeclined fits = search rules
declined_decides states.Conditional true is begun undeclined fits = search rules
declined_decides states.CancelPending true is begun undeclined fits = search rules
declined_decides s false is begun undeclined fits = search rules
declined_decides s true is begun undeclined fits = search rules

-- After a Request fewer acts are left.
request_counts : (x : RequesterRecord) (row : Transition) → is_among (states.Idle ∷ []) x.state ≡ true
    → is_among (states.Idle ∷ []) row.next ≡ false → Fewer x (record_after x row)
request_counts x row idle leads after kept fits undeclined =
    omega (
      arith,
      idle_left x.state (is_received_by x) x.checked_in idle,
      begun_few after.state (is_received_by after) after.checked_in (kept.begun leads),
    )

-- After a Reply that declines the conditions, fewer acts are left.
reply_counts : (x : RequesterRecord) (row : Transition) → is_among (states.Conditional ∷ []) x.state ≡ true
    → is_among (states.Idle ∷ []) row.next ≡ false → declines row.body ≡ true → Fewer x (record_after x row)
reply_counts x row conditional leads says after kept fits undeclined =
    let no : has_message_with declines after.issued ≡ true =
    still_says declines (record_after x row) after kept (issued_says declines x.txn x.issued row.body says) in
    omega (
      arith,
      conditional_left x.state (is_received_by x) x.checked_in conditional,
      decided_few after.state (is_received_by after) after.checked_in
          (declined_decides after.state (has_message_with declines after.issued) no (kept.begun leads) undeclined
          fits.issued.declined),
    )

-- After a Receive fewer acts are left.
receive_counts : (x : RequesterRecord) (row : Transition) → acts_to_end x ≡ 3 → is_received row.body ≡ true
    → is_among renewing row.next ≡ false → Fewer x (record_after x row)
receive_counts x row left says leads after kept fits undeclined =
    let has : is_received_by after ≡ true =
    still_says is_received (record_after x row) after kept (issued_says is_received x.txn x.issued row.body says) in
    omega (
      arith,
      left,
      received_left after.state (is_received_by after) after.checked_in has fits.issued.not_received (kept.settled leads),
    )

-- After a Return fewer acts are left.
return_counts : (x : RequesterRecord) (row : Transition) → 2 ≤ acts_to_end x → is_among (states.Returned ∷ []) row.next ≡ true
    → Fewer x (record_after x row)
return_counts x row left leads after kept fits undeclined =
    omega (arith, left, returned_left after.state (is_received_by after) after.checked_in (kept.returned leads))

-- After the transition of a wish towards the end fewer acts are left.
row_counts : (x : RequesterRecord) (wish : Wish) (row : Transition) → is_wish_to_end wish ≡ true → transition_of x wish ≡ Ok row
    → Fewer x (record_after x row)
row_counts x (wishes.Request expiry item) row ends =
    at_transition (λ r. Fewer x (record_after x r)) (is_among (states.Idle ∷ []) x.state) _ _ row
    (λ is. is_this (λ r. Fewer x (record_after x r)) _ row (request_counts x _ is refl))
    (no_more (λ r. Fewer x (record_after x r)) _ row)
row_counts x (wishes.Reply false) row ends =
    at_transition (λ r. Fewer x (record_after x r)) (is_among (states.Conditional ∷ []) x.state && not (is_declined x)) _ _ row
    (λ is. is_this (λ r. Fewer x (record_after x r)) _ row (reply_counts x _ (and_parts _ _ is).0 refl refl))
    (no_more (λ r. Fewer x (record_after x r)) _ row)
row_counts x wishes.Receive row ends =
    at_transition (λ r. Fewer x (record_after x r)) (is_among (states.Shipped ∷ []) x.state) _ _ row
    (λ is. is_this (λ r. Fewer x (record_after x r)) _ row
    (receive_counts x _ (shipped_left x.state (is_received_by x) x.checked_in is) refl refl)) (
    at_transition (λ r. Fewer x (record_after x r)) (is_among (states.NotReceivedOverdue ∷ []) x.state) _ _ row
    (λ is. is_this (λ r. Fewer x (record_after x r)) _ row
    (receive_counts x _ (late_left x.state (is_received_by x) x.checked_in is) refl refl)) (
    at_transition (λ r. Fewer x (record_after x r)) (is_among (states.Recall ∷ []) x.state && not (is_received_by x)) _ _ row
    (λ is. is_this (λ r. Fewer x (record_after x r)) _ row (receive_counts x _
    (recalled_left x.state (is_received_by x) x.checked_in (and_parts _ _ is).0 (and_parts _ _ is).1) refl refl))
    (no_more (λ r. Fewer x (record_after x r)) _ row)))
row_counts x wishes.Return row ends =
    at_transition (λ r. Fewer x (record_after x r))
    (is_among (states.Received ∷ states.RenewPending ∷ states.Overdue ∷ states.RenewOverdue ∷ []) x.state) _ _ row
    (λ is. is_this (λ r. Fewer x (record_after x r)) _ row
    (return_counts x _ (had_left x.state (is_received_by x) x.checked_in is) refl)) (
    at_transition (λ r. Fewer x (record_after x r)) (is_among (states.Recall ∷ []) x.state && is_received_by x) _ _ row
    (λ is. is_this (λ r. Fewer x (record_after x r)) _ row (return_counts x _
    (kept_left x.state (is_received_by x) x.checked_in (and_parts _ _ is).0 (and_parts _ _ is).1) refl))
    (no_more (λ r. Fewer x (record_after x r)) _ row))
row_counts x wishes.Cancel row ends = search rules
row_counts x (wishes.Reply true) row ends = search rules
row_counts x (wishes.Renew wished) row ends = search rules

-- After a wish towards the end, and messages of the responder, fewer acts are left.
pub wish_counts : (x new : RequesterRecord) (wish : Wish) → is_wish_to_end wish ≡ true → acts x wish ≡ Ok new → Fewer x new
wish_counts x new wish ends done = rows.of_acts (Fewer x) x new wish (λ row there issues. row_counts x wish row ends there) done

-- ---- a responder that takes messages

-- Messages have led responder `old` to `new`. NOT-SUPPLIED, CANCELLED and CHECKED-IN stay. If `old` was in SHIPPED or
-- later, `new` is. The responder has issued nothing, or `new` is in NOT-SUPPLIED.
pub record ResponderKept (old new : ResponderRecord) : Type 0 where
  pub final : is_among (states.NotSupplied ∷ states.Cancelled ∷ states.CheckedIn ∷ []) old.state ≡ true → new.state ≡ old.state
  pub later : is_among later old.state ≡ true → is_among later new.state ≡ true
  pub issued : (new.issued ≡ old.issued) ⊎ (is_among (states.NotSupplied ∷ []) new.state ≡ true)

-- ---- each deed

-- Lists the states of a responder that has to decide on a request.
abbrev pub open_requests : List State
open_requests = states.InProcess ∷ states.Conditional ∷ states.CancelPending ∷ []

-- A Renew waited at `y`. Its answer is the last message of `new`, which is in a state after the end of the request.
abbrev pub HasRenewed : ResponderRecord → ResponderRecord → Type 0
HasRenewed y new =
    (is_among renewing y.state ≡ true) × (is_among ended new.state ≡ true) × (granted : Option Date)
    × (new.issued ≡ with_next y.txn y.issued (types.RenewAnswer (unwrap_or y.last_renew 0) granted))

-- A deed towards the end has led `y` to `new`. It ended an open request, led from RETURNED to CHECKED-IN, or answered a
-- Renew.
abbrev pub DeedEnds : ResponderRecord → ResponderRecord → Type 0
DeedEnds y new =
    ((is_among open_requests y.state ≡ true)
    × (is_among (states.NotSupplied ∷ states.Cancelled ∷ states.Shipped ∷ []) new.state ≡ true))
    ⊎ ((is_among (states.Returned ∷ []) y.state ≡ true) × (is_among (states.CheckedIn ∷ []) new.state ≡ true))
    ⊎ HasRenewed y new

-- An ILL-Answer that ends the request leads to NOT-SUPPLIED.
final_answer : (answer : AnswerResult) → is_final answer ≡ true
    → is_among (states.NotSupplied ∷ states.Cancelled ∷ states.Shipped ∷ []) (responder.after_answer answer) ≡ true
final_answer results.Conditional ends = search rules
final_answer results.WillSupply ends = search rules
final_answer results.HoldPlaced ends = search rules
final_answer answer ends = search rules

-- A request in IN-PROCESS is open.
open_in_process : (s : State) → is_among (states.InProcess ∷ []) s ≡ true → is_among open_requests s ≡ true
open_in_process s is = search rules

-- A request that waits for a Cancel-Reply is open.
open_in_cancel : (s : State) → is_among (states.CancelPending ∷ []) s ≡ true → is_among open_requests s ≡ true
open_in_cancel s is = search rules

-- A request that may expire is open.
open_expiring : (s : State) → is_among (states.InProcess ∷ states.Conditional ∷ []) s ≡ true → is_among open_requests s ≡ true
open_expiring s is = search rules

-- In RENEW/PENDING a Renew waits.
waits_in_time : (s : State) → is_among (states.RenewPending ∷ []) s ≡ true → is_among renewing s ≡ true
waits_in_time s is = search rules

-- In RENEW/OVERDUE a Renew waits.
waits_late : (s : State) → is_among (states.RenewOverdue ∷ []) s ≡ true → is_among renewing s ≡ true
waits_late s is = search rules

-- If `P` holds of the transition `here`, it holds of the `row` found when the date of `here` is allowed.
allowed : (P : responder.Transition → Type 0) (is_allowed : Bool) (refusal : Refusal) (here row : responder.Transition) → P here
    → responder.if_allowed is_allowed refusal (Ok here) ≡ Ok row → P row
allowed P true refusal here row there e = subst P (transition_is here row e) there
allowed P false refusal here row there e = search rules

-- The transition of each deed towards the end satisfies `DeedEnds`.
deed_row : (y : ResponderRecord) (deed : Deed) (today : Date) (row : responder.Transition) → is_deed_to_end deed ≡ true
    → responder.transition_of y deed today ≡ Ok row → DeedEnds y (responder.record_after y row)
deed_row y (deeds.Answer answer) today row ends =
    at_transition (λ r. DeedEnds y (responder.record_after y r)) (is_among (states.InProcess ∷ []) y.state) _ _ row
    (λ is. is_this (λ r. DeedEnds y (responder.record_after y r)) _ row
    (inl (open_in_process y.state is, final_answer answer ends))) (no_more (λ r. DeedEnds y (responder.record_after y r)) _ row)
deed_row y (deeds.CancelReply true) today row ends =
    at_transition (λ r. DeedEnds y (responder.record_after y r)) (is_among (states.CancelPending ∷ []) y.state) _ _ row
    (λ is. is_this (λ r. DeedEnds y (responder.record_after y r)) _ row (inl (open_in_cancel y.state is, refl)))
    (no_more (λ r. DeedEnds y (responder.record_after y r)) _ row)
deed_row y (deeds.Ship due) today row ends =
    at_transition (λ r. DeedEnds y (responder.record_after y r)) (is_among (states.InProcess ∷ []) y.state) _ _ row
    (λ is. allowed (λ r. DeedEnds y (responder.record_after y r)) _ _ _ row (inl (open_in_process y.state is, refl)))
    (no_more (λ r. DeedEnds y (responder.record_after y r)) _ row)
deed_row y (deeds.RenewAnswer (Some due)) today row ends =
    at_transition (λ r. DeedEnds y (responder.record_after y r)) (is_among (states.RenewPending ∷ []) y.state) _ _ row
    (λ is. allowed (λ r. DeedEnds y (responder.record_after y r)) _ _ _ row
    (inr (inr (waits_in_time y.state is, refl, Some due, refl)))) (
    at_transition (λ r. DeedEnds y (responder.record_after y r)) (is_among (states.RenewOverdue ∷ []) y.state) _ _ row
    (λ is. allowed (λ r. DeedEnds y (responder.record_after y r)) _ _ _ row
    (inr (inr (waits_late y.state is, refl, Some due, refl))))
    (no_more (λ r. DeedEnds y (responder.record_after y r)) _ row))
deed_row y (deeds.RenewAnswer None) today row ends =
    at_transition (λ r. DeedEnds y (responder.record_after y r)) (is_among (states.RenewPending ∷ []) y.state) _ _ row
    (λ is. is_this (λ r. DeedEnds y (responder.record_after y r)) _ row
    (inr (inr (waits_in_time y.state is, refl, None, refl)))) (
    at_transition (λ r. DeedEnds y (responder.record_after y r)) (is_among (states.RenewOverdue ∷ []) y.state) _ _ row
    (λ is. is_this (λ r. DeedEnds y (responder.record_after y r)) _ row
    (inr (inr (waits_late y.state is, refl, None, refl))))
    (no_more (λ r. DeedEnds y (responder.record_after y r)) _ row))
deed_row y deeds.CheckIn today row ends =
    at_transition (λ r. DeedEnds y (responder.record_after y r)) (is_among (states.Returned ∷ []) y.state) _ _ row
    (λ is. is_this (λ r. DeedEnds y (responder.record_after y r)) _ row (inr (inl (is, refl))))
    (no_more (λ r. DeedEnds y (responder.record_after y r)) _ row)
deed_row y deeds.Expire today row ends =
    at_transition (λ r. DeedEnds y (responder.record_after y r)) (is_among (states.InProcess ∷ states.Conditional ∷ []) y.state)
    _ _ row (λ is. allowed (λ r. DeedEnds y (responder.record_after y r)) _ _ _ row (inl (open_expiring y.state is, refl)))
    (no_more (λ r. DeedEnds y (responder.record_after y r)) _ row)
deed_row y (deeds.CancelReply false) today row ends = search rules
deed_row y deeds.Overdue today row ends = search rules
deed_row y deeds.Recall today row ends = search rules

-- If two records are equal as results, they are equal.
record_is : (y new : ResponderRecord) → ◌≡◌ {A = Result ResponderRecord Refusal} (Ok y) (Ok new) → y ≡ new
record_is y new same = search rules

-- If `P` holds after each transition found, it holds of the record after a deed.
by_row : (P : ResponderRecord → Type 0) (y new : ResponderRecord) (found : Result responder.Transition Refusal)
    (number : Result ℕ Refusal) → ((row : responder.Transition) → found ≡ Ok row → P (responder.record_after y row))
    → responder.acts_by y found number ≡ Ok new → P new
by_row P y new (Err refusal) number leads done = search rules
by_row P y new (Ok row) (Err refusal) leads done = search rules
by_row P y new (Ok row) (Ok n) leads done = subst P (record_is (responder.record_after y row) new done) (leads row refl)

-- Each deed towards the end that is done satisfies `DeedEnds`.
pub deed_ends : (y new : ResponderRecord) (deed : Deed) (today : Date) → is_deed_to_end deed ≡ true
    → responder.acts y deed today ≡ Ok new → DeedEnds y new
deed_ends y new deed today ends done =
    by_row (DeedEnds y) y new (responder.transition_of y deed today) (next_number y.issued)
    (λ row there. deed_row y deed today row ends there) done

-- ---- both sides, before and after a deed

-- A requester whose request the responder has to decide on is undecided.
faces_open : (s t : State) → is_among (faced_in s) t ≡ true → is_among open_requests t ≡ true → is_among undecided s ≡ true
faces_open s t faced is_open = search rules

-- In an undecided state four acts are left.
undecided_left : (s : State) (received checked_in : Bool) → is_among undecided s ≡ true → acts_to_end_in s received checked_in ≡ 4
undecided_left states.Pending received checked_in is = refl
undecided_left states.Conditional received checked_in is = refl
undecided_left states.CancelPending received checked_in is = refl
undecided_left s received checked_in is = search rules

-- A requester that faces a responder which has ended the request is decided.
faces_ended : (s t : State) → is_among (faced_in s) t ≡ true → is_among ended t ≡ true
    → is_among (states.Idle ∷ undecided) s ≡ false
faces_ended s t faced is_ended = search rules

-- A requester that faces RETURNED or CHECKED-IN is in RETURNED.
faces_returned : (s t : State) → is_among (faced_in s) t ≡ true → is_among (states.Returned ∷ states.CheckedIn ∷ []) t ≡ true
    → is_among (states.Returned ∷ []) s ≡ true
faces_returned s t faced is = search rules

-- RETURNED is no CHECKED-IN.
returned_apart : (t : State) → is_among (states.Returned ∷ []) t ≡ true → is_among (states.CheckedIn ∷ []) t ≡ false
returned_apart t is = search rules

-- RETURNED is one of RETURNED and CHECKED-IN.
returned_one : (t : State) → is_among (states.Returned ∷ []) t ≡ true
    → is_among (states.Returned ∷ states.CheckedIn ∷ []) t ≡ true
returned_one t is = search rules

-- CHECKED-IN is one of RETURNED and CHECKED-IN.
checked_in_one : (t : State) → is_among (states.CheckedIn ∷ []) t ≡ true
    → is_among (states.Returned ∷ states.CheckedIn ∷ []) t ≡ true
checked_in_one t is = search rules

-- In RETURNED the mark says how many acts are left.
returned_is : (s : State) (received checked_in : Bool) → is_among (states.Returned ∷ []) s ≡ true
    → acts_to_end_in s received checked_in ≡ returned_acts checked_in
returned_is states.Returned received checked_in is = refl
returned_is s received checked_in is = search rules

-- An end of a request stays an end while the responder takes messages.
ended_stays : (old new : ResponderRecord) → ResponderKept old new
    → is_among (states.NotSupplied ∷ states.Cancelled ∷ states.Shipped ∷ []) old.state ≡ true → is_among ended new.state ≡ true
ended_stays old new kept is = go old.state refl is
  where
    -- An end without the item stays as it is, and a shipped item stays shipped.
    go : (s : State) → old.state ≡ s → is_among (states.NotSupplied ∷ states.Cancelled ∷ states.Shipped ∷ []) s ≡ true
        → is_among ended new.state ≡ true
    go states.NotSupplied at there =
        ap (is_among ended) (kept.final (ap (is_among (states.NotSupplied ∷ states.Cancelled ∷ states.CheckedIn ∷ [])) at) ∙ at)
    go states.Cancelled at there =
        ap (is_among ended) (kept.final (ap (is_among (states.NotSupplied ∷ states.Cancelled ∷ states.CheckedIn ∷ [])) at) ∙ at)
    go states.Shipped at there = later_ended new.state (kept.later (ap (is_among later) at))
      where
        -- SHIPPED and each later state are states of an end.
        later_ended : (t : State) → is_among later t ≡ true → is_among ended t ≡ true
        later_ended t is = search rules
    go s at there = search rules

-- CHECKED-IN stays while the responder takes messages.
checked_in_stays : (old new : ResponderRecord) → ResponderKept old new → is_among (states.CheckedIn ∷ []) old.state ≡ true
    → is_among (states.CheckedIn ∷ []) new.state ≡ true
checked_in_stays old new kept is = ap (is_among (states.CheckedIn ∷ [])) (kept.final (final_too old.state is)) ∙ is
  where
    -- CHECKED-IN is a final state of a responder.
    final_too : (t : State) → is_among (states.CheckedIn ∷ []) t ≡ true
        → is_among (states.NotSupplied ∷ states.Cancelled ∷ states.CheckedIn ∷ []) t ≡ true
    final_too t is = search rules

-- If the responder has a Renew to answer, the requester that faces it awaits the answer.
pub faces_renewing : (s t : State) → is_among (faced_in s) t ≡ true → is_among renewing t ≡ true → is_among renewing s ≡ true
faces_renewing s t faced is = search rules

-- A responder has a Renew to answer if the requester that it faces awaits the answer.
pub faced_renewing : (s t : State) → is_among (faced_in s) t ≡ true → is_among renewing s ≡ true → is_among renewing t ≡ true
faced_renewing s t faced is = search rules

-- A requester that awaits the answer to a Renew has issued a Received.
renewing_received : (s : State) (received : Bool) → is_among renewing s ≡ true
    → implies (is_among (states.Received ∷ states.RenewPending ∷ states.Overdue ∷ states.RenewOverdue ∷ states.Returned ∷ []) s)
    received ≡ true → received ≡ true
renewing_received states.RenewPending received is fits = fits
renewing_received states.RenewOverdue received is fits = fits
renewing_received s received is fits = search rules

-- After an answer to a Renew, and messages of either side, fewer acts are left if no Renew waits then.
renewal_counts : (x after : RequesterRecord) (y new : ResponderRecord) → HasRenewed y new → HaveConverged x y → RequesterRules x
    → RequesterKept x after → RequesterRules after → is_among renewing after.state ≡ false → acts_to_end after < acts_to_end x
renewal_counts x after y new renewed step fits kept fits_after settled =
    let waits = faces_renewing x.state y.state step.faced renewed.0 in
    let has : is_received_by after ≡ true =
    still_says is_received x after kept (renewing_received x.state (is_received_by x) waits fits.issued.received) in
    omega (
      arith,
      renewing_left x.state (is_received_by x) x.checked_in waits,
      received_left after.state (is_received_by after) after.checked_in has fits_after.issued.not_received settled,
    )

-- After a deed towards the end, and messages of either side, fewer acts are left. The two records were converged
-- before, and are afterwards. No Renew waits then, if the deed was an answer to one.
pub deed_counts : (x after : RequesterRecord) (y new answered : ResponderRecord) → DeedEnds y new → ResponderKept new answered
    → HaveConverged x y → HaveConverged after answered → RequesterRules x → RequesterKept x after → RequesterRules after
    → (HasRenewed y new → is_among renewing after.state ≡ false) → acts_to_end after < acts_to_end x
deed_counts x after y new answered (inl (was, is)) kept step step_after fits waited fits_after settles =
    omega (
      arith,
      undecided_left x.state (is_received_by x) x.checked_in (faces_open x.state y.state step.faced was),
      decided_few after.state (is_received_by after) after.checked_in
          (faces_ended after.state answered.state step_after.faced (ended_stays new answered kept is)),
    )
deed_counts x after y new answered (inr (inl (was, is))) kept step step_after fits waited fits_after settles =
    let there = checked_in_stays new answered kept is in
    let left = returned_is x.state (is_received_by x) x.checked_in
    (faces_returned x.state y.state step.faced (returned_one y.state was))
    ∙ ap returned_acts (step.checked_in ∙ returned_apart y.state was) in
    let none = returned_is after.state (is_received_by after) after.checked_in
    (faces_returned after.state answered.state step_after.faced (checked_in_one answered.state there))
    ∙ ap returned_acts (step_after.checked_in ∙ there) in
    omega (arith, left, none)
deed_counts x after y new answered (inr (inr renewed)) kept step step_after fits waited fits_after settles =
    renewal_counts x after y new renewed step fits waited fits_after (settles renewed)

-- Some act is left before a deed towards the end.
pub deed_left : (x : RequesterRecord) (y new : ResponderRecord) → DeedEnds y new → HaveConverged x y → 0 < acts_to_end x
deed_left x y new (inl (was, is)) step =
    omega (arith, undecided_left x.state (is_received_by x) x.checked_in (faces_open x.state y.state step.faced was))
deed_left x y new (inr (inl (was, is))) step =
    omega (
      arith,
      returned_is x.state (is_received_by x) x.checked_in
          (faces_returned x.state y.state step.faced (returned_one y.state was))
          ∙ ap returned_acts (step.checked_in ∙ returned_apart y.state was),
    )
deed_left x y new (inr (inr renewed)) step =
    omega (
      arith,
      renewing_left x.state (is_received_by x) x.checked_in
          (faces_renewing x.state y.state step.faced renewed.0),
    )

-- The state after a deed towards the end is one after the end of the request.
pub deed_ended : (y new : ResponderRecord) → DeedEnds y new → is_among ended new.state ≡ true
deed_ended y new (inl (was, is)) = go new.state is
  where
    -- NOT-SUPPLIED, CANCELLED and SHIPPED are states of an end.
    go : (t : State) → is_among (states.NotSupplied ∷ states.Cancelled ∷ states.Shipped ∷ []) t ≡ true → is_among ended t ≡ true
    go t there = search rules
deed_ended y new (inr (inl (was, is))) = go new.state is
  where
    -- CHECKED-IN is a state of an end.
    go : (t : State) → is_among (states.CheckedIn ∷ []) t ≡ true → is_among ended t ≡ true
    go t there = search rules
deed_ended y new (inr (inr renewed)) = renewed.1
