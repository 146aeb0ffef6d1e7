-- Proves that deeds and messages preserve the rules of a responder's record.
use Rattle.std.proofs.Common.{rules, arith, ◌≡◌, ℕ, ◌+◌, Bool, true, false, not, ◌&&◌, ◌||◌, List, [], ◌∷◌, ◌++◌, length, Option}
use Rattle.std.proofs.Common.{Some, None, is_some, Result, Ok, Err, if◌then◌else◌, refl, ap, sym, subst, ◌∙◌}
use Rattle.std.specs.List.{filter_map, last_or}
use Rattle.std.proofs.lemmas.Bool.{and_from, eqb-true, cond_both}
use Rattle.ill_values.specs.Day.{Date}
use Rattle.ill_values.specs.TxnId.{Qualifiers}
use Rattle.ill_values.specs.declared.apdu.Apdu.{Apdu}
use Rattle.ill_values.specs.Body.{Body}
use Rattle.ill_values.specs.declared.apdu.BodyWith.TheVariants as types
use Rattle.ill_values.specs.declared.apdu.AnswerResult.TheVariants as results
use Rattle.ill_core.specs.declared.state.State.{State}
use Rattle.ill_core.specs.declared.state.State.TheVariants.{Idle, InProcess, Conditional, CancelPending, NotSupplied, Shipped}
use Rattle.ill_core.specs.declared.state.State.TheVariants.{RenewPending, Overdue, RenewOverdue, Recall, Returned, CheckedIn}
use Rattle.ill_core.specs.State.{is_among}
use Rattle.ill_core.specs.Dates.{is_after_due}
use Rattle.ill_core.specs.Rules.{implies}
use Rattle.ill_core.specs.Numbers.{is_equal_number, is_at_most}
use Rattle.ill_values.specs.Bodies.{is_ill_request, is_requesters, is_shipped, is_checked_in, names_conditions, is_renewal}
use Rattle.ill_values.specs.Bodies.{grant_in}
use Rattle.ill_core.specs.Issued.{next_number, is_message_with, is_same_txn, next_apdu, granted_day}
use Rattle.ill_core.specs.ResponderRules.{ResponderRules, IssuedFits, PartsFit}
use Rattle.ill_core.proofs.Rules.{responder_rules, is_responder}
use Rattle.ill_core.specs.Responder.{ResponderRecord, IsResponder, responder_of, outstanding_number, is_named, later, are_rising}
use Rattle.ill_core.specs.Responder.{ships_first, due_of}
use Rattle.ill_core.specs.ResponderActions.{Transition, issues_to, record_after}
use Rattle.ill_core.specs.declared.refusal.Refusal.{Refusal}
use Rattle.ill_core.specs.declared.refusal.Refusal.TheVariants.{OtherTransaction, WrongRole}
use Rattle.ill_core.specs.declared.taking.Taking.{Taking}
use Rattle.ill_core.specs.Issued.{Admits, first_refusal}
use Rattle.ill_core.specs.ResponderDeliveries.{MayRunOutOfMemory, answers_no, Takes, take_message, takes_memory, takes}
use Rattle.ill_core.specs.Answers.{unless_refused}
use Rattle.ill_core.proofs.ResponderTransitions.{IsTransition, answers, allows_cancel, refuses_cancel, ships, renews}
use Rattle.ill_core.proofs.ResponderTransitions.{refuses_renewal, refuses_late, reminds, reminds_renewing, recalls, checks_in}
use Rattle.ill_core.proofs.ResponderTransitions.{expires}
use Rattle.ill_core.proofs.IssuedLemmas.{numbered_next, same_txn, has_more, all_more, none_more, found_none, found_more}
use Rattle.ill_core.proofs.ResponderLists.{count_more, ends_more, named_more, rise_more, ships_more, ships_renewed, no_grants}

-- Returns the number of Shipped that a state requires: 1 in SHIPPED or later, and else 0.
abbrev pub shipped_in : State → ℕ
shipped_in state = if is_among later state then 1 else 0

-- `state` fits record `y` with one more APDU with `body`.
pub record FitsNext (y : ResponderRecord) (body : Body) (state : State) : Type 0 where
  pub parts : PartsFit state (is_some y.request) (is_some y.accepted) (is_some y.last_cancel) (is_some y.last_renew) y.received
      false
  pub role : not (is_requesters body) ≡ true
  pub shipped : shipped_in y.state + (if is_shipped body then 1 else 0) ≡ shipped_in state
  pub checked_in : (is_among (CheckedIn ∷ []) y.state || is_checked_in body) ≡ is_among (CheckedIn ∷ []) state
  pub conditions : implies (is_among (Conditional ∷ []) state) (names_conditions body) ≡ true

-- The APDU grants no date, or the first date, or a date after the due date.
pub data Grants (y : ResponderRecord) (body : Body) : Type 0 where
  no_grant : grant_in body ≡ None → is_renewal body ≡ false → Grants y body
  first_grant : (d : Date) → body ≡ types.Shipped d → is_among later y.state ≡ false → Grants y body
  later_grant : (d : Date) → grant_in body ≡ Some d → is_among later y.state ≡ true → is_after_due d (due_of y) ≡ true
      → Grants y body

-- If `b` is true, `a || b` is true.
or_right : (a b : Bool) → b ≡ true → a || b ≡ true
or_right true b h = refl
or_right false b h = h

-- If an APDU satisfies `Grants`, the granted dates still rise after it.
rising_next : (y : ResponderRecord) (a : Apdu) → ResponderRules y → Grants y a.body
    → are_rising (filter_map granted_day (y.issued ++ a ∷ [])) ≡ true
rising_next y a h (no_grant silent _) = ap are_rising (found_none granted_day y.issued a silent) ∙ h.rising
rising_next y a h (first_grant d is away) =
    let nothing = no_grants y.issued h.ships_first (h.issued.shipped ∙ ap (λ b. if b then 1 else 0) away) in
    ap are_rising (found_more granted_day y.issued a d (ap grant_in is))
    ∙ rise_more None (filter_map granted_day y.issued) d h.rising
    (ap (λ ds. not (is_some (last_or None ds)) || is_after_due d (last_or None ds)) nothing)
rising_next y a h (later_grant d is here after) =
    ap are_rising (found_more granted_day y.issued a d is)
    ∙ rise_more None (filter_map granted_day y.issued) d h.rising (or_right _ _ after)

-- If an APDU satisfies `Grants`, a Shipped still comes before each renewal after it.
ships_next : (y : ResponderRecord) (a : Apdu) → ResponderRules y → Grants y a.body → ships_first (y.issued ++ a ∷ []) ≡ true
ships_next y a h (no_grant _ no_renewal) = ships_more y.issued a h.ships_first no_renewal
ships_next y a h (first_grant d is away) = ships_more y.issued a h.ships_first (ap is_renewal is)
ships_next y a h (later_grant d is here after) =
    ships_renewed y.issued a h.ships_first (omega (arith, h.issued.shipped ∙ ap (λ b. if b then 1 else 0) here))

-- If an APDU satisfies `FitsNext` and `Grants`, the record after it satisfies the rules.
next_kept : (y : ResponderRecord) (body : Body) (state : State) → ResponderRules y → FitsNext y body state
    → Grants y body → ResponderRules (issues_to y body state)
next_kept y body state h fits grants =
    let a : Apdu = next_apdu y.txn y.issued body in
    record {
      numbered = numbered_next y.txn 1 y.issued a h.numbered (same_txn y.txn) (omega arith);
      role = all_more (λ b. not (is_requesters b)) y.issued a h.role fits.role;
      request = h.request;
      parts = subst (PartsFit state (is_some y.request) (is_some y.accepted) (is_some y.last_cancel) (is_some y.last_renew)
          y.received) (sym (none_more y.issued a)) fits.parts;
      issued = record {
        shipped = count_more is_shipped y.issued a
            ∙ (ap (λ n. n + (if is_shipped body then 1 else 0)) h.issued.shipped ∙ fits.shipped);
        checked_in = has_more is_checked_in y.issued a
            ∙ (ap (λ b. b || is_checked_in body) h.issued.checked_in ∙ fits.checked_in);
        conditions = ap (implies (is_among (Conditional ∷ []) state)) (ends_more y.issued a) ∙ fits.conditions;
      };
      accepted = named_more y.accepted y.issued a h.accepted;
      rising = rising_next y a h grants;
      ships_first = ships_next y a h grants;
    }

-- If the record satisfies the rules, each transition of a deed satisfies `FitsNext`.
transition_fits : (txn : Qualifiers) (state : State) (accepted last_cancel last_renew : Option ℕ) (received : Bool)
    (request : Option Apdu) (issued : List Apdu) (transition : Transition)
    → ResponderRules (responder_of txn state accepted last_cancel last_renew received request issued)
    → IsTransition (responder_of txn state accepted last_cancel last_renew received request issued) transition
    → FitsNext (responder_of txn state accepted last_cancel last_renew received request issued) transition.body transition.next
transition_fits txn InProcess accepted last_cancel last_renew received request issued _ h (answers results.Conditional is) =
    search rules
transition_fits txn InProcess accepted last_cancel last_renew received request issued _ h (answers answer is) = search rules
transition_fits txn state accepted last_cancel last_renew received request issued _ h (answers answer is) = search rules
transition_fits txn CancelPending accepted last_cancel last_renew received request issued _ h (allows_cancel is) = search rules
transition_fits txn state accepted last_cancel last_renew received request issued _ h (allows_cancel is) = search rules
transition_fits txn CancelPending accepted last_cancel last_renew received request issued _ h (refuses_cancel is) = search rules
transition_fits txn state accepted last_cancel last_renew received request issued _ h (refuses_cancel is) = search rules
transition_fits txn InProcess accepted last_cancel last_renew received request issued _ h (ships due is) = search rules
transition_fits txn state accepted last_cancel last_renew received request issued _ h (ships due is) = search rules
transition_fits txn RenewPending accepted last_cancel last_renew received request issued _ h (renews due is after) = search rules
transition_fits txn RenewOverdue accepted last_cancel last_renew received request issued _ h (renews due is after) = search rules
transition_fits txn state accepted last_cancel last_renew received request issued _ h (renews due is after) = search rules
transition_fits txn RenewPending accepted last_cancel last_renew received request issued _ h (refuses_renewal is) = search rules
transition_fits txn state accepted last_cancel last_renew received request issued _ h (refuses_renewal is) = search rules
transition_fits txn RenewOverdue accepted last_cancel last_renew received request issued _ h (refuses_late is) = search rules
transition_fits txn state accepted last_cancel last_renew received request issued _ h (refuses_late is) = search rules
transition_fits txn Shipped accepted last_cancel last_renew received request issued _ h (reminds is) = search rules
transition_fits txn state accepted last_cancel last_renew received request issued _ h (reminds is) = search rules
transition_fits txn RenewPending accepted last_cancel last_renew received request issued _ h (reminds_renewing is) = search rules
transition_fits txn state accepted last_cancel last_renew received request issued _ h (reminds_renewing is) = search rules
transition_fits txn Shipped accepted last_cancel last_renew received request issued _ h (recalls is) = search rules
transition_fits txn Overdue accepted last_cancel last_renew received request issued _ h (recalls is) = search rules
transition_fits txn state accepted last_cancel last_renew received request issued _ h (recalls is) = search rules
transition_fits txn Returned accepted last_cancel last_renew received request issued _ h (checks_in is) = search rules
transition_fits txn state accepted last_cancel last_renew received request issued _ h (checks_in is) = search rules
transition_fits txn InProcess accepted last_cancel last_renew received request issued _ h (expires is) = search rules
transition_fits txn Conditional accepted last_cancel last_renew received request issued _ h (expires is) = search rules
transition_fits txn state accepted last_cancel last_renew received request issued _ h (expires is) = search rules

-- Each transition of a deed satisfies `Grants`.
transition_grants : (y : ResponderRecord) (transition : Transition) → IsTransition y transition → Grants y transition.body
transition_grants y _ (answers answer is) = no_grant refl refl
transition_grants y _ (allows_cancel is) = no_grant refl refl
transition_grants y _ (refuses_cancel is) = no_grant refl refl
transition_grants y _ (ships due is) = first_grant due refl (search rules)
transition_grants y _ (renews due is after) = later_grant due refl (search rules) after
transition_grants y _ (refuses_renewal is) = no_grant refl refl
transition_grants y _ (refuses_late is) = no_grant refl refl
transition_grants y _ (reminds is) = no_grant refl refl
transition_grants y _ (reminds_renewing is) = no_grant refl refl
transition_grants y _ (recalls is) = no_grant refl refl
transition_grants y _ (checks_in is) = no_grant refl refl
transition_grants y _ (expires is) = no_grant refl refl

-- If a record satisfies the rules, so does the record after a transition of a deed.
pub transition_kept : (y : ResponderRecord) (transition : Transition) → ResponderRules y → IsTransition y transition
    → ResponderRules (record_after y transition)
transition_kept y transition h is =
    next_kept y transition.body transition.next h
    (transition_fits y.txn y.state y.accepted y.last_cancel y.last_renew y.received y.request y.issued transition h is)
    (transition_grants y transition is)

-- In IN-PROCESS and CONDITIONAL, an ILL-Answer unfilled that leads to NOT-SUPPLIED satisfies `FitsNext`.
no_fits : (txn : Qualifiers) (state : State) (accepted last_cancel last_renew : Option ℕ) (received : Bool)
    (request : Option Apdu) (issued : List Apdu)
    → ResponderRules (responder_of txn state accepted last_cancel last_renew received request issued)
    → is_among (InProcess ∷ Conditional ∷ []) state ≡ true
    → FitsNext (responder_of txn state accepted last_cancel last_renew received request issued) (types.IllAnswer results.Unfilled)
    NotSupplied
no_fits txn InProcess accepted last_cancel last_renew received request issued h waits = search rules
no_fits txn state accepted last_cancel last_renew received request issued h waits = search rules

-- The record after a no is answered with an ILL-Answer unfilled satisfies the rules.
no_kept : (y : ResponderRecord) → ResponderRules y → is_among (InProcess ∷ Conditional ∷ []) y.state ≡ true
    → ResponderRules (issues_to y (types.IllAnswer results.Unfilled) NotSupplied)
no_kept y h waits =
    next_kept y (types.IllAnswer results.Unfilled) NotSupplied h
    (no_fits y.txn y.state y.accepted y.last_cancel y.last_renew y.received y.request y.issued h waits) (no_grant refl refl)

-- If conditions `c` are outstanding, the state is CONDITIONAL, and message `c` names conditions.
outstanding_named : (txn : Qualifiers) (state : State) (accepted last_cancel last_renew : Option ℕ) (received : Bool)
    (request : Option Apdu) (issued : List Apdu) (c : ℕ)
    → ResponderRules (responder_of txn state accepted last_cancel last_renew received request issued)
    → is_equal_number c (outstanding_number (responder_of txn state accepted last_cancel last_renew received request issued))
    ≡ true
    → (is_among (Conditional ∷ []) state ≡ true) × (is_named (Some c) issued ≡ true)
outstanding_named txn Conditional accepted last_cancel last_renew received request [] c h is = search rules
outstanding_named txn Conditional accepted last_cancel last_renew received request (a ∷ issued) c h is = (
  refl,
  subst (λ n. is_message_with names_conditions (a ∷ issued) n ≡ true) (sym (eqb-true c (length (a ∷ issued)) is))
      h.issued.conditions,
)
outstanding_named txn state accepted last_cancel last_renew received request issued c h is = search rules

-- If the parts fit CONDITIONAL, they fit IN-PROCESS with an accepted number. The tests `r` to `z` are those of
-- `PartsFit`, in its order.
parts_in_process : (state : State) (r a c n m z : Bool) → PartsFit state r a c n m z
    → is_among (Conditional ∷ []) state ≡ true → PartsFit InProcess r true c n m z
parts_in_process Conditional r a c n m z fits is = search rules
parts_in_process state r a c n m z fits is = search rules

-- If the parts fit IDLE, they fit IN-PROCESS with a request. The tests `r` to `z` are those of `PartsFit`, in its
-- order.
parts_requested : (state : State) (r a c n m z : Bool) → PartsFit state r a c n m z
    → is_among (Idle ∷ []) state ≡ true → PartsFit InProcess true a c n m z
parts_requested Idle r a c n m z fits is = search rules
parts_requested state r a c n m z fits is = search rules

-- A list that fits IDLE or CONDITIONAL fits IN-PROCESS.
issued_in_process : (state : State) (apdus : List Apdu) → IssuedFits state apdus
    → is_among (Idle ∷ Conditional ∷ []) state ≡ true → IssuedFits InProcess apdus
issued_in_process Idle apdus fits is = search rules
issued_in_process Conditional apdus fits is = search rules
issued_in_process state apdus fits is = search rules

-- CONDITIONAL is one of IDLE and CONDITIONAL.
conditional_of_two : (state : State) → is_among (Conditional ∷ []) state ≡ true → is_among (Idle ∷ Conditional ∷ []) state ≡ true
conditional_of_two state is = search rules

-- IDLE is one of IDLE and CONDITIONAL.
idle_of_two : (state : State) → is_among (Idle ∷ []) state ≡ true → is_among (Idle ∷ Conditional ∷ []) state ≡ true
idle_of_two state is = search rules

-- The record after the outstanding conditions are accepted satisfies the rules.
yes_kept : (y : ResponderRecord) (c : ℕ) → ResponderRules y → is_equal_number c (outstanding_number y) ≡ true
    → ResponderRules (record y { state = InProcess; accepted = Some c })
yes_kept y c h is =
    let named = outstanding_named y.txn y.state y.accepted y.last_cancel y.last_renew y.received y.request y.issued c h is in
    record {
      numbered = h.numbered;
      role = h.role;
      request = h.request;
      parts = parts_in_process y.state _ _ _ _ _ _ h.parts named.0;
      issued = issued_in_process y.state y.issued h.issued (conditional_of_two y.state named.0);
      accepted = named.1;
      rising = h.rising;
      ships_first = h.ships_first;
    }

-- The record after IDLE takes an ILL-Request of the transaction satisfies the rules.
request_kept : (y : ResponderRecord) (a : Apdu) → ResponderRules y → is_among (Idle ∷ []) y.state ≡ true
    → is_same_txn a.txn y.txn ≡ true → is_ill_request a.body ≡ true
    → ResponderRules (record y { state = InProcess; request = Some a })
request_kept y a h idle same is =
    record {
      numbered = h.numbered;
      role = h.role;
      request = and_from _ _ same is;
      parts = parts_requested y.state _ _ _ _ _ _ h.parts idle;
      issued = issued_in_process y.state y.issued h.issued (idle_of_two y.state idle);
      accepted = h.accepted;
      rising = h.rising;
      ships_first = h.ships_first;
    }

-- If an APDU is admitted, its first refusal is `None`.
pub admits_none : (o : Option Refusal) → Admits o (Ok tt) → o ≡ None
admits_none None h = refl
admits_none (Some refusal) h = search rules

-- If the first refusal of an APDU is `None`, the responder answers as `take_message` says.
pub takes_admitted : (y new : ResponderRecord) (a : Apdu) (answer : Result Taking Refusal)
    → first_refusal y.txn (not (is_requesters a.body)) a ≡ None
    → MayRunOutOfMemory (take_message y a a.body) (takes_memory y a.body) y answer new → Takes y a answer new
takes_admitted y new a answer admitted comes =
    let same : takes y a ≡ take_message y a a.body = ap (λ o. unless_refused o y (take_message y a a.body)) admitted in
    subst (λ expected. MayRunOutOfMemory expected (takes_memory y a.body) y answer new) (sym same) comes

-- ---- deliveries

-- The record after IN-PROCESS or CONDITIONAL takes a Cancel satisfies the rules.
cancel_asked_kept : (txn : Qualifiers) (state : State) (accepted last_cancel last_renew : Option ℕ) (received : Bool)
    (request : Option Apdu) (issued : List Apdu) (number : ℕ)
    → ResponderRules (responder_of txn state accepted last_cancel last_renew received request issued)
    → is_among (InProcess ∷ Conditional ∷ []) state ≡ true
    → ResponderRules (responder_of txn CancelPending accepted (Some number) last_renew received request issued)
cancel_asked_kept txn InProcess accepted last_cancel last_renew received request issued number h is = search rules
cancel_asked_kept txn state accepted last_cancel last_renew received request issued number h is = search rules

-- The record after the received mark is set in SHIPPED or later satisfies the rules.
arrived_kept : (y : ResponderRecord) → ResponderRules y → is_among later y.state && not y.received ≡ true
    → ResponderRules (record y { received = true })
arrived_kept y h is = search rules

-- The record after SHIPPED or OVERDUE takes a Renew satisfies the rules.
renew_asked_kept : (txn : Qualifiers) (state next : State) (accepted last_cancel last_renew : Option ℕ) (received : Bool)
    (request : Option Apdu) (issued : List Apdu) (number : ℕ)
    → ResponderRules (responder_of txn state accepted last_cancel last_renew received request issued)
    → is_among (Shipped ∷ Overdue ∷ []) state ≡ true
    → is_among (RenewPending ∷ RenewOverdue ∷ []) next ≡ true
    → ResponderRules (responder_of txn next accepted last_cancel (Some number) received request issued)
renew_asked_kept txn Shipped RenewPending accepted last_cancel last_renew received request issued number h is there = search rules
renew_asked_kept txn state next accepted last_cancel last_renew received request issued number h is there = search rules

-- The record after a Returned is taken while the item is lent satisfies the rules.
sent_back_kept : (txn : Qualifiers) (state : State) (accepted last_cancel last_renew : Option ℕ) (received : Bool)
    (request : Option Apdu) (issued : List Apdu)
    → ResponderRules (responder_of txn state accepted last_cancel last_renew received request issued)
    → is_among (Shipped ∷ RenewPending ∷ Overdue ∷ RenewOverdue ∷ Recall ∷ []) state ≡ true
    → ResponderRules (responder_of txn Returned accepted last_cancel last_renew received request issued)
sent_back_kept txn Shipped accepted last_cancel last_renew received request issued h is = search rules
sent_back_kept txn state accepted last_cancel last_renew received request issued h is = search rules

-- A choice by `fits` gives a record that satisfies the rules, if `here` does when `fits` is true, else `others`.
transition : (fits : Bool) (here others : Result Taking Refusal × ResponderRecord) → (fits ≡ true → ResponderRules here.1)
    → (fits ≡ false → ResponderRules others.1)
    → ResponderRules (if fits then here else others).1
transition fits here others = cond_both fits here others (λ r. ResponderRules r.1)

-- The record after a no is answered, or refused because no number is left, satisfies the rules.
answer_kept : (y : ResponderRecord) (next : Result ℕ Refusal) → ResponderRules y
    → is_among (InProcess ∷ Conditional ∷ []) y.state ≡ true → ResponderRules (answers_no y next).1
answer_kept y (Ok number) h waits = no_kept y h waits
answer_kept y (Err refusal) h waits = h

-- If `y` satisfies the rules, so does the record after an admitted message. Each case follows the tests of
-- `take_message`, one by one.
pub message_kept : (y : ResponderRecord) (a : Apdu) (body : Body) → ResponderRules y → is_same_txn a.txn y.txn ≡ true
    → is_ill_request a.body ≡ is_ill_request body → ResponderRules (take_message y a body).1
message_kept y a (types.IllRequest expiry item) h same is =
    transition (is_among (Idle ∷ []) y.state) _ _ (λ idle. request_kept y a h idle same is) (λ _. h)
message_kept y a (types.ConditionalReply c true) h same is =
    transition (is_equal_number c (outstanding_number y)) _ _ (λ there. yes_kept y c h there) (λ _.
    transition (is_equal_number c y.accepted) _ _ (λ _. h) (λ _.
    transition (is_message_with names_conditions y.issued c) _ _ (λ _. h) (λ _. h)))
message_kept y a (types.ConditionalReply c false) h same is =
    transition (is_among (InProcess ∷ Conditional ∷ []) y.state) _ _ (answer_kept y (next_number y.issued) h) (λ _.
    transition (is_among (NotSupplied ∷ []) y.state) _ _ (λ _. h) (λ _. h))
message_kept y a types.Cancel h same is =
    transition (is_at_most a.number y.last_cancel) _ _ (λ _. h) (λ _.
    transition (is_among (InProcess ∷ Conditional ∷ []) y.state) _ _
    (cancel_asked_kept y.txn y.state y.accepted y.last_cancel y.last_renew y.received y.request y.issued a.number h) (λ _. h))
message_kept y a types.Received h same is =
    transition (is_among later y.state && not y.received) _ _ (arrived_kept y h) (λ _.
    transition (is_among later y.state) _ _ (λ _. h) (λ _. h))
message_kept y a (types.Renew wished) h same is =
    let asked = renew_asked_kept y.txn y.state in
    transition (is_at_most a.number y.last_renew) _ _ (λ _. h) (λ _.
    transition (is_among (Shipped ∷ []) y.state) _ _
    (λ here. asked RenewPending y.accepted y.last_cancel y.last_renew y.received y.request y.issued a.number h
    (search (rules, here)) refl) (λ _.
    transition (is_among (Overdue ∷ []) y.state) _ _
    (λ here. asked RenewOverdue y.accepted y.last_cancel y.last_renew y.received y.request y.issued a.number h
    (search (rules, here)) refl) (λ _. h)))
message_kept y a types.Returned h same is =
    transition (is_among (Shipped ∷ RenewPending ∷ Overdue ∷ RenewOverdue ∷ Recall ∷ []) y.state) _ _
    (sent_back_kept y.txn y.state y.accepted y.last_cancel y.last_renew y.received y.request y.issued h) (λ _.
    transition (is_among (Returned ∷ CheckedIn ∷ []) y.state) _ _ (λ _. h) (λ _. h))
message_kept y a other h same is = h

-- An APDU that is not refused belongs to the transaction. `same` says that it belongs, and `is_own` that its type is
-- one of the side's own.
admitted_same : (same is_own : Bool)
    → (if same then (if is_own then Some WrongRole else None) else Some OtherTransaction) ≡ None → same ≡ true
admitted_same true is_own h = refl
admitted_same false is_own h = search rules

-- Let `y` satisfy the rules, and let the record after `answer` do if nothing is refused. Then the record after
-- `unless_refused` satisfies the rules.
unless_kept : (refused : Option Refusal) (y : ResponderRecord) (answer : Result Taking Refusal × ResponderRecord)
    → ResponderRules y → (refused ≡ None → ResponderRules answer.1)
    → ResponderRules (unless_refused refused y answer).1
unless_kept (Some refusal) y answer h admitted = h
unless_kept None y answer h admitted = admitted refl

-- If a record satisfies the rules of a responder, so does the record after a message.
pub takes_kept : (y : ResponderRecord) (a : Apdu) → IsResponder y → IsResponder (takes y a).1
takes_kept y a h =
    let rules = responder_rules y h in
    is_responder _ (unless_kept (first_refusal y.txn (not (is_requesters a.body)) a) y (take_message y a a.body) rules
    (λ admitted. message_kept y a a.body rules (admitted_same (is_same_txn a.txn y.txn) (not (is_requesters a.body)) admitted)
    refl))
