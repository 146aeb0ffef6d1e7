-- Proves the changes that each transition of a responder's two tables makes.
use Rattle.std.proofs.Common.{rules, ◌≡◌, ◌⊎◌, inl, inr, ℕ, ◌+◌, ◌≤◌, length, Bool, true, false, not, ◌&&◌, ◌||◌, List, [], ◌∷◌}
use Rattle.std.proofs.Common.{Option, Some, None, Result, Ok, Err, if◌then◌else◌, refl, ap, sym, subst}
use Rattle.std.specs.Option.{unwrap_or}
use Rattle.std.proofs.lemmas.Bool.{cond_both}
use Rattle.ill_values.specs.Day.{Date}
use Rattle.ill_values.specs.TxnId.{Qualifiers}
use Rattle.ill_values.specs.declared.apdu.Apdu.{Apdu}
use Rattle.ill_values.specs.Body.{Body}
use Rattle.ill_values.specs.declared.apdu.BodyWith.TheVariants as types
use Rattle.ill_values.specs.declared.apdu.AnswerResult.TheVariants as results
use Rattle.ill_core.specs.declared.state.State.{State}
use Rattle.ill_core.specs.declared.state.State.TheVariants.{Idle, InProcess, Conditional, CancelPending, Cancelled, NotSupplied}
use Rattle.ill_core.specs.declared.state.State.TheVariants.{Shipped, RenewPending, Overdue, RenewOverdue, Recall, Returned}
use Rattle.ill_core.specs.declared.state.State.TheVariants.{CheckedIn}
use Rattle.ill_core.specs.declared.refusal.Refusal.{Refusal}
use Rattle.ill_core.specs.declared.responder.Deed.{Deed}
use Rattle.ill_core.specs.declared.taking.Taking.{Taking}
use Rattle.ill_core.specs.declared.taking.Taking.TheVariants.{Taken}
use Rattle.ill_core.specs.State.{is_among}
use Rattle.ill_core.specs.Numbers.{is_equal_number, is_at_most}
use Rattle.ill_values.specs.Bodies.{is_requesters, names_conditions, declines, is_shipped}
use Rattle.ill_core.specs.Issued.{first_refusal, next_number, is_message_with}
use Rattle.ill_core.specs.Responder.{ResponderRecord, responder_of, later, outstanding_number}
use Rattle.ill_core.specs.Answers.{unless_refused}
use Rattle.ill_core.specs.ResponderActions.{Transition, transition_of, acts, acts_by, issues_to, record_after}
use Rattle.ill_core.specs.ResponderDeliveries.{takes, take_message, answers_no}
use Rattle.ill_core.specs.ResponderEvidence.{IsEvidence, Requested, Accepted, CancelAsked, Arrived, SentBack, Question}
use Rattle.ill_core.specs.ResponderEvidence.{KeepsRequest, KeepsLast, TakesNew, answered_number, last_asked, is_question_open}
use Rattle.ill_core.specs.ResponderEvidence.{is_unsupplied}
use Rattle.ill_core.specs.ResponderEvidence.{is_cancelled, is_end, ended, ends_in}
use Rattle.ill_core.proofs.TransitionLemmas.{few_with_next}
use Rattle.ill_core.proofs.ResponderTransitions.{IsTransition, is_transition, answers, allows_cancel, refuses_cancel, ships}
use Rattle.ill_core.proofs.ResponderTransitions.{renews, refuses_renewal, refuses_late, reminds, reminds_renewing, recalls}
use Rattle.ill_core.proofs.ResponderTransitions.{checks_in, expires}

-- A transition from `y` may issue `body` and lead to `state`. The state before is neither IDLE nor final. The
-- transition enters the state after an end only with this end. It answers only the last question, while that waits.
pub record Issues (y : ResponderRecord) (body : Body) (state : State) : Type 0 where
  pub begun : is_among (Idle ∷ []) y.state ≡ false
  pub final : is_among (NotSupplied ∷ Cancelled ∷ CheckedIn ∷ []) y.state ≡ false
  pub unsupplied : (is_among (NotSupplied ∷ []) y.state || is_unsupplied body) ≡ is_among (NotSupplied ∷ []) state
  pub cancelled : (is_among (Cancelled ∷ []) y.state || is_cancelled body) ≡ is_among (Cancelled ∷ []) state
  pub shipped : (is_among later y.state || is_shipped body) ≡ is_among later state
  pub once : (if is_among ended y.state then 1 else 0) + (if is_end body then 1 else 0) ≡ (if is_among ended state then 1 else 0)
  pub ends : is_end body ≡ true → (is_among (InProcess ∷ Conditional ∷ CancelPending ∷ []) y.state ≡ true)
      × (ends_in body state ≡ true)
  pub enters : is_among ended state ≡ true → (is_among ended y.state ≡ true) ⊎ (ends_in body state ≡ true)
  pub sent_back : is_among (Returned ∷ CheckedIn ∷ []) state ≡ is_among (Returned ∷ CheckedIn ∷ []) y.state
  pub on : is_among (Idle ∷ []) state ≡ false
  pub asked : (question : Question) → is_question_open question state ≡ true → is_question_open question y.state ≡ true
  pub replies : (question : Question) (n : ℕ) → answered_number question body ≡ Some n
      → (is_question_open question y.state ≡ true) × (is_question_open question state ≡ false)
      × (n ≡ unwrap_or (last_asked question y) 0)

-- Message `number` with `body` changes `y` to `new`, and issues nothing. The change does not enter or leave a state
-- after an end, and does not change a request. The message is evidence of each new claim.
pub record Moves (y : ResponderRecord) (number : ℕ) (body : Body) (new : ResponderRecord) : Type 0 where
  pub txn : new.txn ≡ y.txn
  pub issued : new.issued ≡ y.issued
  pub request : KeepsRequest y new
  pub final : is_among (NotSupplied ∷ Cancelled ∷ CheckedIn ∷ []) y.state ≡ true → new.state ≡ y.state
  pub unsupplied : is_among (NotSupplied ∷ []) y.state ≡ is_among (NotSupplied ∷ []) new.state
  pub cancelled : is_among (Cancelled ∷ []) y.state ≡ is_among (Cancelled ∷ []) new.state
  pub shipped : is_among later y.state ≡ is_among later new.state
  pub ended : is_among ended y.state ≡ is_among ended new.state
  pub returned : is_among (Returned ∷ []) y.state ≡ true → new.state ≡ y.state
  pub asked : (question : Question) → KeepsLast question y new ⊎ TakesNew question number body y new
  pub requested : is_among (Idle ∷ []) new.state ≡ false
      → (is_among (Idle ∷ []) y.state ≡ false) ⊎ IsEvidence number body Requested
  pub accepted : (c : ℕ) → new.accepted ≡ Some c → (y.accepted ≡ Some c) ⊎ IsEvidence number body (Accepted c)
  pub cancel_asked : (c : ℕ) → new.last_cancel ≡ Some c → (y.last_cancel ≡ Some c) ⊎ IsEvidence number body (CancelAsked c)
  pub arrived : new.received ≡ true → (y.received ≡ true) ⊎ IsEvidence number body Arrived
  pub sent_back : is_among (Returned ∷ CheckedIn ∷ []) new.state ≡ true
      → (is_among (Returned ∷ CheckedIn ∷ []) y.state ≡ true) ⊎ IsEvidence number body SentBack

-- Each transition of a deed satisfies `Issues`.
issues : (txn : Qualifiers) (state : State) (accepted last_cancel last_renew : Option ℕ) (received : Bool) (request : Option Apdu)
    (issued : List Apdu) (transition : Transition)
    → IsTransition (responder_of txn state accepted last_cancel last_renew received request issued) transition
    → Issues (responder_of txn state accepted last_cancel last_renew received request issued) transition.body transition.next
issues txn InProcess accepted last_cancel last_renew received request issued _ (answers results.Conditional is) = search rules
issues txn InProcess accepted last_cancel last_renew received request issued _ (answers answer is) = search rules
issues txn state accepted last_cancel last_renew received request issued _ (answers answer is) = search rules
issues txn CancelPending accepted last_cancel last_renew received request issued _ (allows_cancel is) = search rules
issues txn state accepted last_cancel last_renew received request issued _ (allows_cancel is) = search rules
issues txn CancelPending accepted last_cancel last_renew received request issued _ (refuses_cancel is) = search rules
issues txn state accepted last_cancel last_renew received request issued _ (refuses_cancel is) = search rules
issues txn InProcess accepted last_cancel last_renew received request issued _ (ships due is) = search rules
issues txn state accepted last_cancel last_renew received request issued _ (ships due is) = search rules
issues txn RenewPending accepted last_cancel last_renew received request issued _ (renews due is after) = search rules
issues txn RenewOverdue accepted last_cancel last_renew received request issued _ (renews due is after) = search rules
issues txn state accepted last_cancel last_renew received request issued _ (renews due is after) = search rules
issues txn RenewPending accepted last_cancel last_renew received request issued _ (refuses_renewal is) = search rules
issues txn state accepted last_cancel last_renew received request issued _ (refuses_renewal is) = search rules
issues txn RenewOverdue accepted last_cancel last_renew received request issued _ (refuses_late is) = search rules
issues txn state accepted last_cancel last_renew received request issued _ (refuses_late is) = search rules
issues txn Shipped accepted last_cancel last_renew received request issued _ (reminds is) = search rules
issues txn state accepted last_cancel last_renew received request issued _ (reminds is) = search rules
issues txn RenewPending accepted last_cancel last_renew received request issued _ (reminds_renewing is) = search rules
issues txn state accepted last_cancel last_renew received request issued _ (reminds_renewing is) = search rules
issues txn Shipped accepted last_cancel last_renew received request issued _ (recalls is) = search rules
issues txn Overdue accepted last_cancel last_renew received request issued _ (recalls is) = search rules
issues txn state accepted last_cancel last_renew received request issued _ (recalls is) = search rules
issues txn Returned accepted last_cancel last_renew received request issued _ (checks_in is) = search rules
issues txn state accepted last_cancel last_renew received request issued _ (checks_in is) = search rules
issues txn InProcess accepted last_cancel last_renew received request issued _ (expires is) = search rules
issues txn Conditional accepted last_cancel last_renew received request issued _ (expires is) = search rules
issues txn state accepted last_cancel last_renew received request issued _ (expires is) = search rules

-- In IN-PROCESS and CONDITIONAL, the ILL-Answer unfilled to a no satisfies `Issues`.
issues_no : (txn : Qualifiers) (state : State) (accepted last_cancel last_renew : Option ℕ) (received : Bool)
    (request : Option Apdu) (issued : List Apdu)
    → is_among (InProcess ∷ Conditional ∷ []) state ≡ true
    → Issues (responder_of txn state accepted last_cancel last_renew received request issued) (types.IllAnswer results.Unfilled)
    NotSupplied
issues_no txn InProcess accepted last_cancel last_renew received request issued waiting = search rules
issues_no txn state accepted last_cancel last_renew received request issued waiting = search rules

-- The unchanged record satisfies `Moves`.
left : (y : ResponderRecord) (number : ℕ) (body : Body) → Moves y number body y
left y number body = search rules

-- The change by which IDLE takes an ILL-Request and leads to IN-PROCESS satisfies `Moves`.
requested : (txn : Qualifiers) (state : State) (accepted last_cancel last_renew : Option ℕ) (received : Bool)
    (request kept : Option Apdu) (issued : List Apdu) (number : ℕ) (expiry : Option Date) (item : List ℕ)
    → is_among (Idle ∷ []) state ≡ true
    → Moves (responder_of txn state accepted last_cancel last_renew received request issued) number (types.IllRequest expiry item)
    (responder_of txn InProcess accepted last_cancel last_renew received kept issued)
requested txn Idle accepted last_cancel last_renew received request kept issued number expiry item idle = search rules
requested txn state accepted last_cancel last_renew received request kept issued number expiry item idle = search rules

-- The change by which the outstanding conditions are accepted satisfies `Moves`.
accepts : (txn : Qualifiers) (state : State) (accepted last_cancel last_renew : Option ℕ) (received : Bool)
    (request : Option Apdu) (issued : List Apdu) (number c : ℕ)
    → is_equal_number c (outstanding_number (responder_of txn state accepted last_cancel last_renew received request issued))
    ≡ true
    → Moves (responder_of txn state accepted last_cancel last_renew received request issued) number
    (types.ConditionalReply c true) (responder_of txn InProcess (Some c) last_cancel last_renew received request issued)
accepts txn Conditional accepted last_cancel last_renew received request issued number c there = search rules
accepts txn state accepted last_cancel last_renew received request issued number c there = search rules

-- The change by which IN-PROCESS or CONDITIONAL takes a Cancel above the last one satisfies `Moves`.
cancel_asked : (txn : Qualifiers) (state : State) (accepted last_cancel last_renew : Option ℕ) (received : Bool)
    (request : Option Apdu) (issued : List Apdu) (number : ℕ)
    → is_at_most number last_cancel ≡ false → is_among (InProcess ∷ Conditional ∷ []) state ≡ true
    → Moves (responder_of txn state accepted last_cancel last_renew received request issued) number types.Cancel
    (responder_of txn CancelPending accepted (Some number) last_renew received request issued)
cancel_asked txn InProcess accepted last_cancel last_renew received request issued number above waiting = search rules
cancel_asked txn state accepted last_cancel last_renew received request issued number above waiting = search rules

-- The change by which a Received sets the received mark satisfies `Moves`.
arrived : (y : ResponderRecord) (number : ℕ) → Moves y number types.Received (record y { received = true })
arrived y number = search rules

-- The change by which SHIPPED or OVERDUE takes a Renew above the last one satisfies `Moves`.
renew_asked : (txn : Qualifiers) (state next : State) (accepted last_cancel last_renew : Option ℕ) (received : Bool)
    (request : Option Apdu) (issued : List Apdu) (number : ℕ) (wished : Option Date)
    → is_at_most number last_renew ≡ false → is_among (Shipped ∷ Overdue ∷ []) state ≡ true
    → is_among (RenewPending ∷ RenewOverdue ∷ []) next ≡ true
    → Moves (responder_of txn state accepted last_cancel last_renew received request issued) number (types.Renew wished)
    (responder_of txn next accepted last_cancel (Some number) received request issued)
renew_asked txn Shipped RenewPending accepted last_cancel last_renew received request issued number wished above here there =
    search rules
renew_asked txn state next accepted last_cancel last_renew received request issued number wished above here there = search rules

-- The change by which a Returned leads to RETURNED while the item is lent satisfies `Moves`.
sent_back : (txn : Qualifiers) (state : State) (accepted last_cancel last_renew : Option ℕ) (received : Bool)
    (request : Option Apdu) (issued : List Apdu) (number : ℕ)
    → is_among (Shipped ∷ RenewPending ∷ Overdue ∷ RenewOverdue ∷ Recall ∷ []) state ≡ true
    → Moves (responder_of txn state accepted last_cancel last_renew received request issued) number types.Returned
    (responder_of txn Returned accepted last_cancel last_renew received request issued)
sent_back txn Shipped accepted last_cancel last_renew received request issued number out = search rules
sent_back txn state accepted last_cancel last_renew received request issued number out = search rules

-- The answer to a message changes the record as `Moves` says, and is `Taken` or changes nothing. Or the message is a
-- Conditional-Reply no, and an ILL-Answer unfilled is issued.
data DeliveryRow (y : ResponderRecord) (number : ℕ) (body : Body) (answer : Result Taking Refusal × ResponderRecord) : Type 0
  where
    moves : (answer.0 ≡ Ok Taken) ⊎ (answer.1 ≡ y) → Moves y number body answer.1 → DeliveryRow y number body answer
    replies_no : declines body ≡ true → answer ≡ (Ok Taken, issues_to y (types.IllAnswer results.Unfilled) NotSupplied)
        → Issues y (types.IllAnswer results.Unfilled) NotSupplied → DeliveryRow y number body answer

-- An answer that does not change the record satisfies `DeliveryRow`.
left_row : (y : ResponderRecord) (number : ℕ) (body : Body) (answer : Result Taking Refusal)
    → DeliveryRow y number body (answer, y)
left_row y number body answer = moves (inr refl) (left y number body)

-- A choice by the test `fits` satisfies `DeliveryRow`, if `here` does when `fits` is true, and else `others`.
transition : (y : ResponderRecord) (number : ℕ) (body : Body) (fits : Bool)
    (here others : Result Taking Refusal × ResponderRecord)
    → (fits ≡ true → DeliveryRow y number body here) → (fits ≡ false → DeliveryRow y number body others)
    → DeliveryRow y number body (if fits then here else others)
transition y number body fits here others = cond_both fits here others (DeliveryRow y number body)

-- In IN-PROCESS and CONDITIONAL, the answer to a no satisfies `DeliveryRow`.
answers_row : (y : ResponderRecord) (number c : ℕ) (next : Result ℕ Refusal)
    → is_among (InProcess ∷ Conditional ∷ []) y.state ≡ true
    → DeliveryRow y number (types.ConditionalReply c false) (answers_no y next)
answers_row y number c (Ok n) waiting =
    replies_no refl refl (issues_no y.txn y.state y.accepted y.last_cancel y.last_renew y.received y.request y.issued waiting)
answers_row y number c (Err refusal) waiting = left_row y number _ _

-- The answer to an admitted APDU satisfies `DeliveryRow`. Each case follows the tests of `take_message`, one by one.
message_row : (y : ResponderRecord) (a : Apdu) (body : Body) → DeliveryRow y a.number body (take_message y a body)
message_row y a (types.IllRequest expiry item) =
    transition y _ _ (is_among (Idle ∷ []) y.state) _ _
    (λ idle. moves (inl refl) (requested y.txn y.state y.accepted y.last_cancel y.last_renew y.received y.request (Some a)
    y.issued a.number expiry item idle)) (λ _.
    left_row y _ _ _)
message_row y a (types.ConditionalReply c true) =
    transition y _ _ (is_equal_number c (outstanding_number y)) _ _
    (λ there. moves (inl refl) (accepts y.txn y.state y.accepted y.last_cancel y.last_renew y.received y.request y.issued
    a.number c there)) (λ _.
    transition y _ _ (is_equal_number c y.accepted) _ _ (λ _. left_row y _ _ _) (λ _.
    transition y _ _ (is_message_with names_conditions y.issued c) _ _ (λ _. left_row y _ _ _) (λ _. left_row y _ _ _)))
message_row y a (types.ConditionalReply c false) =
    transition y _ _ (is_among (InProcess ∷ Conditional ∷ []) y.state) _ _ (answers_row y a.number c (next_number y.issued)) (λ _.
    transition y _ _ (is_among (NotSupplied ∷ []) y.state) _ _ (λ _. left_row y _ _ _) (λ _. left_row y _ _ _))
message_row y a types.Cancel =
    transition y _ _ (is_at_most a.number y.last_cancel) _ _ (λ _. left_row y _ _ _) (λ above.
    transition y _ _ (is_among (InProcess ∷ Conditional ∷ []) y.state) _ _
    (λ waiting. moves (inl refl) (cancel_asked y.txn y.state y.accepted y.last_cancel y.last_renew y.received y.request
    y.issued a.number above waiting)) (λ _.
    left_row y _ _ _))
message_row y a types.Received =
    transition y _ _ (is_among later y.state && not y.received) _ _ (λ _. moves (inl refl) (arrived y a.number)) (λ _.
    transition y _ _ (is_among later y.state) _ _ (λ _. left_row y _ _ _) (λ _. left_row y _ _ _))
message_row y a (types.Renew wished) =
    transition y _ _ (is_at_most a.number y.last_renew) _ _ (λ _. left_row y _ _ _) (λ above.
    transition y _ _ (is_among (Shipped ∷ []) y.state) _ _
    (λ here. moves (inl refl) (renew_asked y.txn y.state RenewPending y.accepted y.last_cancel y.last_renew y.received
    y.request y.issued a.number wished above (search (rules, here)) refl)) (λ _.
    transition y _ _ (is_among (Overdue ∷ []) y.state) _ _
    (λ here. moves (inl refl) (renew_asked y.txn y.state RenewOverdue y.accepted y.last_cancel y.last_renew y.received
    y.request y.issued a.number wished above (search (rules, here)) refl)) (λ _.
    left_row y _ _ _)))
message_row y a types.Returned =
    transition y _ _ (is_among (Shipped ∷ RenewPending ∷ Overdue ∷ RenewOverdue ∷ Recall ∷ []) y.state) _ _
    (λ out. moves (inl refl) (sent_back y.txn y.state y.accepted y.last_cancel y.last_renew y.received y.request y.issued
    a.number out)) (λ _.
    transition y _ _ (is_among (Returned ∷ CheckedIn ∷ []) y.state) _ _ (λ _. left_row y _ _ _) (λ _. left_row y _ _ _))
message_row y a other = left_row y a.number _ _

-- If the answer to an admitted APDU satisfies `DeliveryRow`, so does the answer to one that may be refused.
by_admission : (y : ResponderRecord) (number : ℕ) (body : Body) (refused : Option Refusal)
    (answer : Result Taking Refusal × ResponderRecord)
    → DeliveryRow y number body answer → DeliveryRow y number body (unless_refused refused y answer)
by_admission y number body None answer row = row
by_admission y number body (Some refusal) answer row = left_row y number body (Err refusal)

-- The answer to each APDU satisfies `DeliveryRow`.
delivery_row : (y : ResponderRecord) (a : Apdu) → DeliveryRow y a.number a.body (takes y a)
delivery_row y a = by_admission y a.number a.body (first_refusal y.txn (not (is_requesters a.body)) a) (take_message y a a.body)
    (message_row y a a.body)

-- `P` holds after each `DeliveryRow`, if it holds after each change that satisfies `Moves`, and after an answered no.
of_row : (P : ResponderRecord → Type 0) (y : ResponderRecord) (number : ℕ) (body : Body)
    (answer : Result Taking Refusal × ResponderRecord)
    → DeliveryRow y number body answer
    → (Moves y number body answer.1 → P answer.1)
    → (declines body ≡ true → Issues y (types.IllAnswer results.Unfilled) NotSupplied
    → P (issues_to y (types.IllAnswer results.Unfilled) NotSupplied))
    → P answer.1
of_row P y number body answer (moves quiet how) where_moved where_answered = where_moved how
of_row P y number body answer (replies_no said same how) where_moved where_answered =
    subst (λ r. P r.1) (sym same) (where_answered said how)

-- If `P` holds after each change that satisfies `Moves`, and after an answered no, it holds after each message.
pub of_takes : (P : ResponderRecord → Type 0) (y : ResponderRecord) (a : Apdu)
    → (Moves y a.number a.body (takes y a).1 → P (takes y a).1)
    → (declines a.body ≡ true → Issues y (types.IllAnswer results.Unfilled) NotSupplied
    → P (issues_to y (types.IllAnswer results.Unfilled) NotSupplied))
    → P (takes y a).1
of_takes P y a = of_row P y a.number a.body (takes y a) (delivery_row y a)

-- An answer that satisfies `DeliveryRow` is `Taken`, or changes nothing.
row_quiet : (y : ResponderRecord) (number : ℕ) (body : Body) (answer : Result Taking Refusal × ResponderRecord)
    → DeliveryRow y number body answer → (answer.0 ≡ Ok Taken) ⊎ (answer.1 ≡ y)
row_quiet y number body answer (moves quiet how) = quiet
row_quiet y number body answer (replies_no said same how) = inl (ap (λ r. r.0) same)

-- A message that is not `Taken` changes nothing.
pub takes_quiet : (y : ResponderRecord) (a : Apdu) → ((takes y a).0 ≡ Ok Taken) ⊎ ((takes y a).1 ≡ y)
takes_quiet y a = row_quiet y a.number a.body (takes y a) (delivery_row y a)

-- If two records are equal as results, they are equal.
ok_is : (x y : ResponderRecord) → ◌≡◌ {A = Result ResponderRecord Refusal} (Ok x) (Ok y) → x ≡ y
ok_is x y h = search rules

-- If `P` holds of the record after the transition `found`, and the deed succeeds with `new`, `P` holds of `new`.
by_transition : (P : ResponderRecord → Type 0) (y new : ResponderRecord) (found : Result Transition Refusal)
    (number : Result ℕ Refusal)
    → ((transition : Transition) → found ≡ Ok transition → P (record_after y transition)) → acts_by y found number ≡ Ok new
    → P new
by_transition P y new (Err refusal) number leads done = search rules
by_transition P y new (Ok transition) (Err refusal) leads done = search rules
by_transition P y new (Ok transition) (Ok n) leads done =
    subst P (ok_is (record_after y transition) new done) (leads transition refl)

-- If `P` holds after each transition that satisfies `Issues`, it holds after a deed.
pub of_acts : (P : ResponderRecord → Type 0) (y new : ResponderRecord) (deed : Deed) (today : Date)
    → ((transition : Transition) → IsTransition y transition → Issues y transition.body transition.next
    → P (record_after y transition))
    → acts y deed today ≡ Ok new → P new
of_acts P y new deed today leads done =
    by_transition P y new (transition_of y deed today) (next_number y.issued) (λ transition there.
    let is = is_transition y deed today transition there in
    leads transition is (issues y.txn y.state y.accepted y.last_cancel y.last_renew y.received y.request y.issued transition is))
    done

-- If a transition succeeds, the record after it has at most 255 messages, because a number was left.
by_few : (y new : ResponderRecord) (found : Result Transition Refusal) (number : Result ℕ Refusal)
    → next_number y.issued ≡ number → acts_by y found number ≡ Ok new → length new.issued ≤ 255
by_few y new (Err refusal) number next done = search rules
by_few y new (Ok transition) (Err refusal) next done = search rules
by_few y new (Ok transition) (Ok n) next done =
    subst (λ (r : ResponderRecord). length r.issued ≤ 255) (ok_is (record_after y transition) new done)
    (few_with_next y.txn y.issued transition.body n next)

-- The record after a deed has at most 255 messages.
pub acts_few : (y new : ResponderRecord) (deed : Deed) (today : Date) → acts y deed today ≡ Ok new → length new.issued ≤ 255
acts_few y new deed today = by_few y new (transition_of y deed today) (next_number y.issued) refl
