-- A responder's record of which `has_heard` holds does not change when the message comes again.
use Rattle.std.proofs.Common.{rules, ◌≡◌, ◌+◌, Bool, true, false, not, ◌&&◌, nat_lt, [], ◌∷◌, length, Option, Some, None}
use Rattle.std.proofs.Common.{Result, Ok, Err, if◌then◌else◌, refl}
use Rattle.std.proofs.lemmas.Bool.{cond_both, not-true, both_ways}
use Rattle.ill_values.specs.declared.apdu.Apdu.{Apdu}
use Rattle.ill_values.specs.Body.{Body}
use Rattle.ill_values.specs.declared.apdu.BodyWith.TheVariants as types
use Rattle.ill_core.specs.declared.refusal.Refusal.{Refusal}
use Rattle.ill_core.specs.declared.refusal.Refusal.TheVariants.{NumbersUsed}
use Rattle.ill_core.specs.declared.state.State.{State}
use Rattle.ill_core.specs.declared.state.State.TheVariants as states
use Rattle.ill_core.specs.declared.taking.Taking.{Taking}
use Rattle.ill_core.specs.State.{is_among}
use Rattle.ill_core.specs.Numbers.{is_equal_number, is_at_most}
use Rattle.ill_values.specs.Bodies.{is_requesters, names_conditions}
use Rattle.ill_core.specs.Answers.{unless_refused}
use Rattle.ill_core.specs.Issued.{first_refusal, is_message_with}
use Rattle.ill_core.specs.Responder.{ResponderRecord, later, outstanding_number}
use Rattle.ill_core.specs.ResponderDeliveries.{takes, take_message, answers_no}
use Rattle.ill_core.specs.ResponderNotices.{has_heard, undecided, lent}
use Rattle.ill_world.proofs.Pairs.{implied}

-- If `here` leaves the record when it `fits`, and the `others` do when not, the answer leaves the record.
leaves : (y : ResponderRecord) (fits : Bool) (here others : Result Taking Refusal × ResponderRecord)
    → (fits ≡ true → here.1 ≡ y) → (fits ≡ false → others.1 ≡ y) → (if fits then here else others).1 ≡ y
leaves y fits here others = cond_both fits here others (λ r. r.1 ≡ y)

-- If no number is left, a Conditional-Reply no leaves the record.
full_leaves : (y : ResponderRecord) (left : Bool) → left ≡ false
    → (answers_no y (if left then Ok (length y.issued + 1) else Err NumbersUsed)).1 ≡ y
full_leaves y false full = refl
full_leaves y true full = search rules

-- If a record in SHIPPED or later has the received mark, the test for a first Received fails.
no_first : {P : Type 0} (shipped received : Bool) → (shipped ≡ true → received ≡ true) → (shipped && not received) ≡ true → P
no_first true true has first = search rules
no_first true false has first = let no : false ≡ true = has refl in search rules
no_first false received has first = search rules

-- A responder in SHIPPED is in SHIPPED or OVERDUE.
shipped_settles : (s : State) → is_among (states.Shipped ∷ []) s ≡ true → is_among (states.Shipped ∷ states.Overdue ∷ []) s ≡ true
shipped_settles states.Shipped is = refl
shipped_settles s is = search rules

-- A responder in OVERDUE is in SHIPPED or OVERDUE.
overdue_settles : (s : State) → is_among (states.Overdue ∷ []) s ≡ true → is_among (states.Shipped ∷ states.Overdue ∷ []) s ≡ true
overdue_settles states.Overdue is = refl
overdue_settles s is = search rules

-- An admitted message of which `has_heard` holds leaves the record.
message_leaves : (y : ResponderRecord) (a : Apdu) (body : Body) → has_heard y a.number body ≡ true
    → (take_message y a body).1 ≡ y
message_leaves y a (types.IllRequest expiry item) heard =
    leaves y (is_among (states.Idle ∷ []) y.state) _ _ (λ idle. absurd (both_ways _ (not-true _ heard) idle)) (λ _. refl)
message_leaves y a (types.ConditionalReply c true) heard =
    leaves y (is_equal_number c (outstanding_number y)) _ _ (λ waits. absurd (both_ways _ (not-true _ heard) waits)) (λ _.
    leaves y (is_equal_number c y.accepted) _ _ (λ _. refl) (λ _.
    leaves y (is_message_with names_conditions y.issued c) _ _ (λ _. refl) (λ _. refl)))
message_leaves y a (types.ConditionalReply c false) heard =
    leaves y (is_among undecided y.state) _ _
    (λ is_open. full_leaves y (nat_lt (length y.issued) 255) (not-true _ (implied _ _ heard is_open))) (λ _.
    leaves y (is_among (states.NotSupplied ∷ []) y.state) _ _ (λ _. refl) (λ _. refl))
message_leaves y a types.Cancel heard =
    leaves y (is_at_most a.number y.last_cancel) _ _ (λ _. refl) (λ above.
    leaves y (is_among undecided y.state) _ _ (λ is_open. absurd (both_ways _ above (implied _ _ heard is_open))) (λ _. refl))
message_leaves y a types.Received heard =
    leaves y (is_among later y.state && not y.received) _ _
    (λ first. no_first (is_among later y.state) y.received (implied _ _ heard) first) (λ _.
    leaves y (is_among later y.state) _ _ (λ _. refl) (λ _. refl))
message_leaves y a (types.Renew wished) heard =
    leaves y (is_at_most a.number y.last_renew) _ _ (λ _. refl) (λ above.
    leaves y (is_among (states.Shipped ∷ []) y.state) _ _
    (λ is. absurd (both_ways _ above (implied _ _ heard (shipped_settles y.state is)))) (λ _.
    leaves y (is_among (states.Overdue ∷ []) y.state) _ _
    (λ is. absurd (both_ways _ above (implied _ _ heard (overdue_settles y.state is)))) (λ _. refl)))
message_leaves y a types.Returned heard =
    leaves y (is_among lent y.state) _ _ (λ is. absurd (both_ways _ (not-true _ heard) is)) (λ _.
    leaves y (is_among (states.Returned ∷ states.CheckedIn ∷ []) y.state) _ _ (λ _. refl) (λ _. refl))
message_leaves y a other heard = refl

-- If an admitted message leaves the record, so does one that may be refused.
unless_leaves : (y : ResponderRecord) (refused : Option Refusal) (answer : Result Taking Refusal × ResponderRecord)
    → answer.1 ≡ y → (unless_refused refused y answer).1 ≡ y
unless_leaves y None answer same = same
unless_leaves y (Some refusal) answer same = refl

-- A message of which `has_heard` holds leaves the record.
pub heard_leaves : (y : ResponderRecord) (a : Apdu) → has_heard y a.number a.body ≡ true → (takes y a).1 ≡ y
heard_leaves y a heard = unless_leaves y (first_refusal y.txn (not (is_requesters a.body)) a) (take_message y a a.body)
    (message_leaves y a a.body heard)
