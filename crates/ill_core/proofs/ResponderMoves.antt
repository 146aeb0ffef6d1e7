-- Lists the changes that a message may make to a responder's record. Then it proves that a message, once delivered,
-- would change nothing if it came again.
use Rattle.std.proofs.Common.{rules, arith, ◌≡◌, ℕ, suc, ◌+◌, ◌≤◌, nat_lt, length, length-append, Bool, true, false, not, ◌&&◌}
use Rattle.std.proofs.Common.{◌||◌, List, [], ◌∷◌, Option, Some, None, Result, Ok, Err, if◌then◌else◌, refl, sym, subst}
use Rattle.std.proofs.lemmas.Bool.{cond_both, leb-true, or_left, or_right, not_from_false, not_from_true}
use Rattle.ill_values.specs.Day.{Date}
use Rattle.ill_values.specs.declared.apdu.Apdu.{Apdu}
use Rattle.ill_values.specs.Body.{Body}
use Rattle.ill_values.specs.declared.apdu.BodyWith.TheVariants as types
use Rattle.ill_values.specs.declared.apdu.AnswerResult.TheVariants as results
use Rattle.ill_core.specs.declared.state.State.{State}
use Rattle.ill_core.specs.declared.state.State.TheVariants.{Idle, InProcess, Conditional, CancelPending, NotSupplied, Shipped}
use Rattle.ill_core.specs.declared.state.State.TheVariants.{RenewPending, Overdue, RenewOverdue, Returned, CheckedIn}
use Rattle.ill_core.specs.declared.refusal.Refusal.{Refusal}
use Rattle.ill_core.specs.declared.refusal.Refusal.TheVariants.{NumbersUsed, OtherTransaction, WrongRole}
use Rattle.ill_core.specs.declared.taking.Taking.{Taking}
use Rattle.ill_core.specs.State.{is_among}
use Rattle.ill_core.specs.Rules.{implies}
use Rattle.ill_core.specs.Numbers.{is_equal_number, is_at_most}
use Rattle.ill_values.specs.Bodies.{is_requesters, names_conditions}
use Rattle.ill_core.specs.Issued.{first_refusal, next_apdu, is_message_with, is_same_txn}
use Rattle.ill_core.specs.Responder.{ResponderRecord, later, outstanding_number}
use Rattle.ill_core.specs.Answers.{unless_refused}
use Rattle.ill_core.specs.ResponderActions.{issues_to}
use Rattle.ill_core.specs.ResponderDeliveries.{takes, take_message, answers_no}
use Rattle.ill_core.specs.ResponderNotices.{has_heard, reopens, undecided, lent}

-- A message with `number` and this body changes record `y` to this record, or does not change it. Each case has the
-- conditions of its row, the message, and the record after it.
pub data Change (y : ResponderRecord) (number : ℕ) : Body → ResponderRecord → Type 0 where
  leaves : (body : Body) → Change y number body y
  requests : (expiry : Option Date) (item : List ℕ) (a : Apdu) → is_among (Idle ∷ []) y.state ≡ true
      → Change y number (types.IllRequest expiry item) (record y { state = InProcess; request = Some a })
  accepts : (c : ℕ) → is_among (Conditional ∷ []) y.state ≡ true
      → Change y number (types.ConditionalReply c true) (record y { state = InProcess; accepted = Some c })
  declines : (c : ℕ) → is_among undecided y.state ≡ true → nat_lt (length y.issued) 255 ≡ true
      → Change y number (types.ConditionalReply c false) (issues_to y (types.IllAnswer results.Unfilled) NotSupplied)
  cancels : is_at_most number y.last_cancel ≡ false → is_among undecided y.state ≡ true
      → Change y number types.Cancel (record y { state = CancelPending; last_cancel = Some number })
  arrives : Change y number types.Received (record y { received = true })
  renews : (wished : Option Date) → is_at_most number y.last_renew ≡ false → is_among (Shipped ∷ []) y.state ≡ true
      → Change y number (types.Renew wished) (record y { state = RenewPending; last_renew = Some number })
  renews_late : (wished : Option Date) → is_at_most number y.last_renew ≡ false → is_among (Overdue ∷ []) y.state ≡ true
      → Change y number (types.Renew wished) (record y { state = RenewOverdue; last_renew = Some number })
  returns : is_among lent y.state ≡ true → Change y number types.Returned (record y { state = Returned })

-- A choice by the test `fits` satisfies `Change`, if `here` does when `fits` is true, and else `others`.
transition : (y : ResponderRecord) (number : ℕ) (body : Body) (fits : Bool)
    (here others : Result Taking Refusal × ResponderRecord)
    → (fits ≡ true → Change y number body here.1) → (fits ≡ false → Change y number body others.1)
    → Change y number body (if fits then here else others).1
transition y number body fits here others = cond_both fits here others (λ r. Change y number body r.1)

-- If `c` is the number of the conditions that wait for an answer, the state is CONDITIONAL. `size` is this number in
-- CONDITIONAL.
waits_conditional : (c : ℕ) (state : State) (size : Option ℕ)
    → is_equal_number c (if is_among (Conditional ∷ []) state then size else None) ≡ true
    → is_among (Conditional ∷ []) state ≡ true
waits_conditional c state size is = search rules

-- In a state of `undecided`, the record after a Conditional-Reply no satisfies `Change`. If no number is left, this
-- record is `y`.
no_changes : (y : ResponderRecord) (number c : ℕ) (left : Bool) → nat_lt (length y.issued) 255 ≡ left
    → is_among undecided y.state ≡ true
    → Change y number (types.ConditionalReply c false)
    (answers_no y (if left then Ok (length y.issued + 1) else Err NumbersUsed)).1
no_changes y number c true few waiting = declines c waiting few
no_changes y number c false few waiting = leaves _

-- The record after an admitted message satisfies `Change`. Each case follows the tests of `take_message`, one by one.
message_changes : (y : ResponderRecord) (a : Apdu) (body : Body) → Change y a.number body (take_message y a body).1
message_changes y a (types.IllRequest expiry item) =
    transition y _ _ (is_among (Idle ∷ []) y.state) _ _ (requests expiry item a) (λ _. leaves _)
message_changes y a (types.ConditionalReply c true) =
    transition y _ _ (is_equal_number c (outstanding_number y)) _ _ (λ there. accepts c (waits_conditional c y.state _ there))
    (λ _.
    transition y _ _ (is_equal_number c y.accepted) _ _ (λ _. leaves _) (λ _.
    transition y _ _ (is_message_with names_conditions y.issued c) _ _ (λ _. leaves _) (λ _. leaves _)))
message_changes y a (types.ConditionalReply c false) =
    transition y _ _ (is_among undecided y.state) _ _ (no_changes y a.number c (nat_lt (length y.issued) 255) refl) (λ _.
    transition y _ _ (is_among (NotSupplied ∷ []) y.state) _ _ (λ _. leaves _) (λ _. leaves _))
message_changes y a types.Cancel =
    transition y _ _ (is_at_most a.number y.last_cancel) _ _ (λ _. leaves _) (λ above.
    transition y _ _ (is_among undecided y.state) _ _ (cancels above) (λ _. leaves _))
message_changes y a types.Received =
    transition y _ _ (is_among later y.state && not y.received) _ _ (λ _. arrives) (λ _.
    transition y _ _ (is_among later y.state) _ _ (λ _. leaves _) (λ _. leaves _))
message_changes y a (types.Renew wished) =
    transition y _ _ (is_at_most a.number y.last_renew) _ _ (λ _. leaves _) (λ above.
    transition y _ _ (is_among (Shipped ∷ []) y.state) _ _ (renews wished above) (λ _.
    transition y _ _ (is_among (Overdue ∷ []) y.state) _ _ (renews_late wished above) (λ _. leaves _)))
message_changes y a types.Returned =
    transition y _ _ (is_among lent y.state) _ _ returns (λ _.
    transition y _ _ (is_among (Returned ∷ CheckedIn ∷ []) y.state) _ _ (λ _. leaves _) (λ _. leaves _))
message_changes y a other = leaves _

-- If the record after `answer` satisfies `Change`, so does the record after an answer that may be a refusal. A refusal
-- changes nothing.
unless_changes : (y : ResponderRecord) (number : ℕ) (body : Body) (refused : Option Refusal)
    (answer : Result Taking Refusal × ResponderRecord)
    → Change y number body answer.1 → Change y number body (unless_refused refused y answer).1
unless_changes y number body None answer change = change
unless_changes y number body (Some refusal) answer change = leaves body

-- The record after each message satisfies `Change`.
pub takes_changes : (y : ResponderRecord) (a : Apdu) → Change y a.number a.body (takes y a).1
takes_changes y a = unless_changes y a.number a.body (first_refusal y.txn (not (is_requesters a.body)) a)
    (take_message y a a.body) (message_changes y a a.body)

-- ---- numbers

-- A record with at most 255 messages has at most 255 after a change.
change_few : (y new : ResponderRecord) (number : ℕ) (body : Body) → Change y number body new → length y.issued ≤ 255
    → length new.issued ≤ 255
change_few y new number body (leaves _) few = few
change_few y new number body (requests expiry item a idle) few = few
change_few y new number body (accepts c waits) few = few
change_few y new number body (declines c waits left) few =
    omega (
      arith,
      leb-true (suc (length y.issued)) 255 left,
      length-append y.issued (next_apdu y.txn y.issued (types.IllAnswer results.Unfilled) ∷ []),
    )
change_few y new number body (cancels above waits) few = few
change_few y new number body arrives few = few
change_few y new number body (renews wished above here) few = few
change_few y new number body (renews_late wished above here) few = few
change_few y new number body (returns out) few = few

-- A record with at most 255 messages has at most 255 after an APDU.
pub takes_few : (y : ResponderRecord) (a : Apdu) → length y.issued ≤ 255 → length (takes y a).1.issued ≤ 255
takes_few y a = change_few y (takes y a).1 a.number a.body (takes_changes y a)

-- ---- a message that comes again

-- The record after the answer would not change if the message came again.
data IsWithoutEffect (number : ℕ) (body : Body) (answer : Result Taking Refusal × ResponderRecord) : Type 0 where
  hears : has_heard answer.1 number body ≡ true → IsWithoutEffect number body answer

-- A choice by the test `fits` satisfies `IsWithoutEffect`, if `here` does when `fits` is true, and else `others`.
heard_transition : (number : ℕ) (body : Body) (fits : Bool) (here others : Result Taking Refusal × ResponderRecord)
    → (fits ≡ true → IsWithoutEffect number body here) → (fits ≡ false → IsWithoutEffect number body others)
    → IsWithoutEffect number body (if fits then here else others)
heard_transition number body fits here others = cond_both fits here others (IsWithoutEffect number body)

-- The record after a Conditional-Reply no would not change if this message came again. `left` says that a number is
-- left, and may be true or false.
no_heard : (y : ResponderRecord) (number c : ℕ) (left : Bool) → nat_lt (length y.issued) 255 ≡ left
    → has_heard (answers_no y (if left then Ok (length y.issued + 1) else Err NumbersUsed)).1 number
    (types.ConditionalReply c false) ≡ true
no_heard y number c true few = refl
no_heard y number c false few = or_right (not (is_among undecided y.state)) _ (not_from_false _ few)

-- If a Received does not set the received mark now, it would not change the record. `is_later` says that the state is
-- SHIPPED or later, and `marked` that the mark is set.
received_heard : (is_later marked : Bool) → is_later && not marked ≡ false → implies is_later marked ≡ true
received_heard is_later marked none = search rules

-- A Renew in neither SHIPPED nor OVERDUE would not change the record. `above` is the test that its number is at most
-- that of the last Renew.
renew_heard : (state : State) (above : Bool) → is_among (Shipped ∷ []) state ≡ false
    → is_among (Overdue ∷ []) state ≡ false → not (is_among (Shipped ∷ Overdue ∷ []) state) || above ≡ true
renew_heard state above one other = search rules

-- The answer to an admitted message satisfies `IsWithoutEffect`. Each case follows the tests of `take_message`, one by
-- one.
message_heard : (y : ResponderRecord) (a : Apdu) (body : Body) → IsWithoutEffect a.number body (take_message y a body)
message_heard y a (types.IllRequest expiry item) =
    heard_transition _ _ (is_among (Idle ∷ []) y.state) _ _ (λ _. hears refl) (λ begun. hears (not_from_false _ begun))
message_heard y a (types.ConditionalReply c true) =
    heard_transition _ _ (is_equal_number c (outstanding_number y)) _ _ (λ _. hears refl) (λ other.
    heard_transition _ _ (is_equal_number c y.accepted) _ _ (λ _. hears (not_from_false _ other)) (λ _.
    heard_transition _ _ (is_message_with names_conditions y.issued c) _ _ (λ _. hears (not_from_false _ other))
    (λ _. hears (not_from_false _ other))))
message_heard y a (types.ConditionalReply c false) =
    heard_transition _ _ (is_among undecided y.state) _ _ (λ _. hears (no_heard y a.number c _ refl)) (λ decided.
    heard_transition _ _ (is_among (NotSupplied ∷ []) y.state) _ _ (λ _. hears (or_left _ _ (not_from_false _ decided)))
    (λ _. hears (or_left _ _ (not_from_false _ decided))))
message_heard y a types.Cancel =
    heard_transition _ _ (is_at_most a.number y.last_cancel) _ _
    (λ most. hears (or_right (not (is_among undecided y.state)) _ most)) (λ _.
    heard_transition _ _ (is_among undecided y.state) _ _ (λ _. hears refl)
    (λ decided. hears (or_left _ _ (not_from_false _ decided))))
message_heard y a types.Received =
    heard_transition _ _ (is_among later y.state && not y.received) _ _
    (λ _. hears (or_right (not (is_among later y.state)) _ refl)) (λ none.
    heard_transition _ _ (is_among later y.state) _ _ (λ _. hears (received_heard _ _ none))
    (λ _. hears (received_heard _ _ none)))
message_heard y a (types.Renew wished) =
    heard_transition _ _ (is_at_most a.number y.last_renew) _ _
    (λ most. hears (or_right (not (is_among (Shipped ∷ Overdue ∷ []) y.state)) _ most)) (λ _.
    heard_transition _ _ (is_among (Shipped ∷ []) y.state) _ _ (λ _. hears refl) (λ one.
    heard_transition _ _ (is_among (Overdue ∷ []) y.state) _ _ (λ _. hears refl)
    (λ other. hears (renew_heard y.state _ one other))))
message_heard y a types.Returned =
    heard_transition _ _ (is_among lent y.state) _ _ (λ _. hears refl) (λ home.
    heard_transition _ _ (is_among (Returned ∷ CheckedIn ∷ []) y.state) _ _ (λ _. hears (not_from_false _ home))
    (λ _. hears (not_from_false _ home)))
message_heard y a other = hears refl

-- If an answer satisfies `IsWithoutEffect`, `has_heard` is true of the record after it.
is_heard : (number : ℕ) (body : Body) (answer : Result Taking Refusal × ResponderRecord) → IsWithoutEffect number body answer
    → has_heard answer.1 number body ≡ true
is_heard number body answer (hears is) = is

-- A message of the transaction, with a type that the other side issues, is admitted. `same` says that it is of the
-- transaction, and `theirs` that it has a type of the other side.
not_refused : (same theirs : Bool) (y : ResponderRecord) (answer : Result Taking Refusal × ResponderRecord)
    → same ≡ true → theirs ≡ true
    → unless_refused (if same then (if not theirs then Some WrongRole else None) else Some OtherTransaction) y answer ≡ answer
not_refused true true y answer here issued = refl
not_refused false theirs y answer here issued = search rules
not_refused true false y answer here issued = search rules

-- The record after a requester's message of the transaction would not change if the message came again.
pub takes_heard : (y : ResponderRecord) (a : Apdu) → is_same_txn a.txn y.txn ≡ true → is_requesters a.body ≡ true
    → has_heard (takes y a).1 a.number a.body ≡ true
takes_heard y a same theirs =
    let transition = not_refused (is_same_txn a.txn y.txn) (is_requesters a.body) y (take_message y a a.body) same theirs in
    is_heard a.number a.body (takes y a) (subst (IsWithoutEffect a.number a.body) (sym transition) (message_heard y a a.body))

-- ---- a later message

-- CONDITIONAL is one of the states `undecided`.
undecided_conditional : (state : State) → is_among (Conditional ∷ []) state ≡ true → is_among undecided state ≡ true
undecided_conditional state is = search rules

-- Each state in which the item is lent is SHIPPED or later.
later_lent : (state : State) → is_among lent state ≡ true → is_among later state ≡ true
later_lent state is = search rules

-- In SHIPPED the item is lent.
lent_shipped : (state : State) → is_among (Shipped ∷ []) state ≡ true → is_among lent state ≡ true
lent_shipped state is = search rules

-- In OVERDUE the item is lent.
lent_overdue : (state : State) → is_among (Overdue ∷ []) state ≡ true → is_among lent state ≡ true
lent_overdue state is = search rules

-- After IDLE takes an ILL-Request, only a Conditional-Reply no and a Cancel, which it reopens, may change the record.
requests_stays : (y : ResponderRecord) (a : Apdu) (expiry : Option Date) (item : List ℕ) (number : ℕ) (body : Body)
    → reopens (types.IllRequest expiry item) body ≡ false
    → has_heard (record y { state = InProcess; request = Some a }) number body ≡ true
requests_stays y a expiry item number (types.ConditionalReply c false) none = search rules
requests_stays y a expiry item number (types.ConditionalReply c true) none = refl
requests_stays y a expiry item number types.Cancel none = search rules
requests_stays y a expiry item number body none = refl

-- If a message would not change `y`, it would not change it after a Conditional-Reply yes.
accepts_stays : (y : ResponderRecord) (c number : ℕ) (body : Body) → is_among undecided y.state ≡ true
    → has_heard y number body ≡ true
    → has_heard (record y { state = InProcess; accepted = Some c }) number body ≡ true
accepts_stays y c number (types.ConditionalReply n false) waiting h = search rules
accepts_stays y c number (types.ConditionalReply n true) waiting h = refl
accepts_stays y c number types.Cancel waiting h = search rules
accepts_stays y c number body waiting h = refl

-- After a Conditional-Reply no is answered, no message would change the record.
declines_stays : (y : ResponderRecord) (number : ℕ) (body : Body)
    → has_heard (issues_to y (types.IllAnswer results.Unfilled) NotSupplied) number body ≡ true
declines_stays y number (types.ConditionalReply n true) = refl
declines_stays y number (types.ConditionalReply n false) = refl
declines_stays y number body = refl

-- After a Cancel is taken, no message would change the record.
cancels_stays : (y : ResponderRecord) (last : Option ℕ) (number : ℕ) (body : Body)
    → has_heard (record y { state = CancelPending; last_cancel = last }) number body ≡ true
cancels_stays y last number (types.ConditionalReply n true) = refl
cancels_stays y last number (types.ConditionalReply n false) = refl
cancels_stays y last number body = refl

-- If a message would not change `y`, it would not change it after a Received.
arrives_stays : (y : ResponderRecord) (number : ℕ) (body : Body) → has_heard y number body ≡ true
    → has_heard (record y { received = true }) number body ≡ true
arrives_stays y number (types.ConditionalReply n true) h = h
arrives_stays y number (types.ConditionalReply n false) h = h
arrives_stays y number types.Received h = or_right (not (is_among later y.state)) _ refl
arrives_stays y number body h = h

-- If a message would not change `y`, it would not change it after a Renew, which leads to `next`.
renews_stays : (y : ResponderRecord) (next : State) (last : Option ℕ) (number : ℕ) (body : Body)
    → is_among lent y.state ≡ true → is_among (RenewPending ∷ RenewOverdue ∷ []) next ≡ true
    → has_heard y number body ≡ true → has_heard (record y { state = next; last_renew = last }) number body ≡ true
renews_stays y RenewPending last number (types.ConditionalReply n true) out there h = refl
renews_stays y RenewPending last number (types.ConditionalReply n false) out there h = refl
renews_stays y RenewPending last number types.Received out there h = search (rules, later_lent y.state out)
renews_stays y RenewPending last number types.Returned out there h = search (rules, not_from_true _ out)
renews_stays y RenewPending last number body out there h = refl
renews_stays y RenewOverdue last number (types.ConditionalReply n true) out there h = refl
renews_stays y RenewOverdue last number (types.ConditionalReply n false) out there h = refl
renews_stays y RenewOverdue last number types.Received out there h = search (rules, later_lent y.state out)
renews_stays y RenewOverdue last number types.Returned out there h = search (rules, not_from_true _ out)
renews_stays y RenewOverdue last number body out there h = refl
renews_stays y next last number body out there h = search rules

-- If a message would not change `y`, it would not change it after a Returned.
returns_stays : (y : ResponderRecord) (number : ℕ) (body : Body) → is_among lent y.state ≡ true
    → has_heard y number body ≡ true → has_heard (record y { state = Returned }) number body ≡ true
returns_stays y number (types.ConditionalReply n true) out h = refl
returns_stays y number (types.ConditionalReply n false) out h = refl
returns_stays y number types.Received out h = search (rules, later_lent y.state out)
returns_stays y number body out h = refl

-- If a message would not change `y`, it would not change `new`, unless `by`, which leads there, reopens it.
change_stays : (y new : ResponderRecord) (first : ℕ) (by : Body) (number : ℕ) (body : Body) → Change y first by new
    → reopens by body ≡ false → has_heard y number body ≡ true
    → has_heard new number body ≡ true
change_stays y _ first _ number body (leaves by) none h = h
change_stays y _ first _ number body (requests expiry item a idle) none h = requests_stays y a expiry item number body none
change_stays y _ first _ number body (accepts c there) none h =
    accepts_stays y c number body (undecided_conditional y.state there) h
change_stays y _ first _ number body (declines c waiting left) none h = declines_stays y number body
change_stays y _ first _ number body (cancels above waiting) none h = cancels_stays y (Some first) number body
change_stays y _ first _ number body arrives none h = arrives_stays y number body h
change_stays y _ first _ number body (renews wished above here) none h =
    renews_stays y RenewPending (Some first) number body (lent_shipped y.state here) refl h
change_stays y _ first _ number body (renews_late wished above here) none h =
    renews_stays y RenewOverdue (Some first) number body (lent_overdue y.state here) refl h
change_stays y _ first _ number body (returns out) none h = returns_stays y number body out h

-- If a message would not change a record, it would not change it after APDU `a`, unless `a` reopens it.
pub takes_stays : (y : ResponderRecord) (a : Apdu) (number : ℕ) (body : Body) → reopens a.body body ≡ false
    → has_heard y number body ≡ true → has_heard (takes y a).1 number body ≡ true
takes_stays y a number body = change_stays y (takes y a).1 a.number a.body number body (takes_changes y a)
