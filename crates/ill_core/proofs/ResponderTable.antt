-- Proves that the rows of a responder's two tables agree with its definitions.
use Rattle.std.proofs.Common.{rules, ◌≡◌, ℕ, ◌+◌, nat_lt, length, IsOk, ◌&&◌, ◌||◌, not, Bool, true, false, List, Option, Some}
use Rattle.std.proofs.Common.{None, Result, Ok, Err, if◌then◌else◌, refl, ap, subst, sym, ◌∙◌}
use Rattle.std.specs.List.{list_all}
use Rattle.std.specs.Option.{unwrap_or}
use Rattle.std.proofs.lemmas.Bool.{and_parts}
use Rattle.ill_values.specs.Day.{Date}
use Rattle.ill_values.specs.TxnId.{Qualifiers}
use Rattle.ill_values.specs.declared.apdu.Apdu.{Apdu}
use Rattle.ill_values.specs.Body.{Body}
use Rattle.ill_values.specs.declared.apdu.BodyWith.TheVariants as types
use Rattle.ill_values.specs.declared.apdu.AnswerResult.TheVariants as results
use Rattle.ill_values.specs.declared.apdu.AnswerResult.TheVariants.{Unfilled}
use Rattle.ill_core.specs.declared.responder.Deed.{Deed}
use Rattle.ill_core.specs.declared.responder.Deed.TheVariants as deeds
use Rattle.ill_core.specs.declared.kind.ResponderKind.{ResponderKind}
use Rattle.ill_core.specs.declared.kind.RequesterKind.{RequesterKind}
use Rattle.ill_core.specs.declared.table.Row.{Row}
use Rattle.ill_core.specs.declared.table.Then.{Then}
use Rattle.ill_core.specs.declared.table.Then.TheVariants.{To, Stay}
use Rattle.ill_core.specs.declared.responder.standing.TheConstants.{ACCEPTS, CANCELS, RENEWS, RECEIVES}
use Rattle.ill_core.specs.declared.state.State.{State}
use Rattle.ill_core.specs.declared.state.State.TheVariants.{Idle, InProcess, Conditional, NotSupplied, Shipped, RenewPending}
use Rattle.ill_core.specs.declared.state.State.TheVariants.{Overdue, RenewOverdue}
use Rattle.ill_core.specs.declared.refusal.Refusal.{Refusal}
use Rattle.ill_core.specs.declared.refusal.Refusal.TheVariants as refusals
use Rattle.ill_core.specs.declared.refusal.Refusal.TheVariants.{OutOfMemory}
use Rattle.ill_core.specs.declared.taking.Taking.{Taking}
use Rattle.ill_core.specs.declared.taking.Taking.TheVariants.{Taken}
use Rattle.ill_core.specs.Rules.{implies}
use Rattle.ill_core.specs.Answers.{taken, conflict, unless_refused}
use Rattle.ill_core.specs.Issued.{next_number, is_same_txn, with_next}
use Rattle.ill_core.specs.Kinds.{requester_kind, number_in}
use Rattle.ill_core.specs.Tables.{has_common_bit, has_state, taking_of, next_state}
use Rattle.ill_core.specs.Responder.{ResponderRecord, responder_of, IsResponder, due_of}
use Rattle.ill_core.specs.Dates.{is_before, is_after_due}
use Rattle.ill_core.specs.ResponderTables.{deed_row, check, check_date, deed_body, after_deed, number_after, request_after}
use Rattle.ill_core.specs.ResponderTables.{issued_after, after_delivery, is_row_with_memory, IsRefused, number_refusal}
use Rattle.ill_core.specs.ResponderTables.{refusal_of}
use Rattle.ill_core.specs.ResponderTables.{delivery_guards, delivery_rows, delivery_row, delivery_row_of}
use Rattle.ill_core.specs.ResponderDeliveries.{MayRunOutOfMemory, answers_no, take_message, takes_memory}
use Rattle.ill_core.specs.ResponderActions.{Transition, leads_to, issues_to, if_allowed, no_date, expiry_of, transition_of, acts}
use Rattle.ill_core.specs.ResponderActions.{acts_by, Acts}
use Rattle.ill_core.proofs.Rules.{responder_rules, is_responder}
use Rattle.ill_core.proofs.ResponderKept.{message_kept, transition_kept}
use Rattle.ill_core.proofs.ResponderRows.{of_acts}
use Rattle.ill_core.proofs.TableLemmas.{answer_of, by_tests, found_by_tests, tests_true}

-- Returns the answer that a row gives to an APDU, and the record after it. If the row issues a message and no number is
-- left, the answer is `NumbersUsed`. `row.3` is the effect of the row, and `row.4` are its changes.
abbrev pub hit : ResponderRecord → Apdu → Body → Row RequesterKind → Result Taking Refusal × ResponderRecord
hit y a body row = unless_refused (number_refusal row.4 y.issued) y
    (Ok (taking_of row.3 y.state), after_delivery y a row (number_in a body))

-- Returns the answer of the first row of the kind that fits, and the record after it. The rows are tested one after
-- another. Without a kind, or if no row fits, the answer is a conflict.
abbrev pub tests_of : ResponderRecord → Apdu → Body → Option RequesterKind → Result Taking Refusal × ResponderRecord
tests_of y a body None = conflict y.state y
tests_of y a body (Some kind) =
    by_tests y.state (delivery_guards y (number_in a body)) (hit y a body) (conflict y.state y) (delivery_rows kind)

-- The rows of deliveries agree with `take_message` for this APDU and this record.
abbrev pub TestsAre : Body → State → Qualifiers → Option ℕ → Option ℕ → Option ℕ → Bool → Option Apdu → List Apdu → Apdu → Type 0
TestsAre body state txn accepted last_cancel last_renew received request issued a =
    tests_of (responder_of txn state accepted last_cancel last_renew received request issued) a body (requester_kind body)
    ≡ take_message (responder_of txn state accepted last_cancel last_renew received request issued) a body

-- The row for a no issues the ILL-Answer with the next number, or is refused, as `answers_no` says.
answered_no_by_row : (y : ResponderRecord) (next : Result ℕ Refusal)
    → unless_refused (refusal_of next) y (taken (issues_to y (types.IllAnswer Unfilled) NotSupplied)) ≡ answers_no y next
answered_no_by_row y (Ok number) = refl
answered_no_by_row y (Err refusal) = refl

-- The rows of deliveries agree with `take_message` for each APDU and each state.
pub tabled : (body : Body) (state : State) (txn : Qualifiers) (accepted last_cancel last_renew : Option ℕ) (received : Bool)
    (request : Option Apdu) (issued : List Apdu) (a : Apdu)
    → TestsAre body state txn accepted last_cancel last_renew received request issued a
tabled (types.ConditionalReply c true) Idle txn accepted last_cancel last_renew received request issued a = refl
tabled (types.ConditionalReply c true) state txn accepted last_cancel last_renew received request issued a = refl
tabled (types.ConditionalReply c false) InProcess txn accepted last_cancel last_renew received request issued a =
    answered_no_by_row (responder_of txn InProcess accepted last_cancel last_renew received request issued) (next_number issued)
tabled (types.ConditionalReply c false) Conditional txn accepted last_cancel last_renew received request issued a =
    answered_no_by_row (responder_of txn Conditional accepted last_cancel last_renew received request issued) (next_number issued)
tabled (types.ConditionalReply c false) state txn accepted last_cancel last_renew received request issued a = refl
tabled types.Received Idle txn accepted last_cancel last_renew true request issued a = refl
tabled types.Received state txn accepted last_cancel last_renew true request issued a = refl
tabled types.Received Idle txn accepted last_cancel last_renew false request issued a = refl
tabled types.Received state txn accepted last_cancel last_renew false request issued a = refl
tabled body Idle txn accepted last_cancel last_renew received request issued a = refl
tabled body state txn accepted last_cancel last_renew received request issued a = refl

-- The answer of the first row that fits equals the tests of the rows of its kind.
found : (y : ResponderRecord) (a : Apdu) (body : Body) (kind : Option RequesterKind)
    → answer_of (hit y a body) (conflict y.state y) (delivery_row_of y a body kind) ≡ tests_of y a body kind
found y a body None = refl
found y a body (Some kind) = found_by_tests y.state (delivery_guards y (number_in a body)) (hit y a body) (conflict y.state y)
    (delivery_rows kind)

-- The first row that fits an APDU gives the answer of `take_message`. If no row fits, the answer is a conflict.
pub takes_row : (y : ResponderRecord) (a : Apdu)
    → answer_of (hit y a a.body) (conflict y.state y) (delivery_row y a) ≡ take_message y a a.body
takes_row y a = found y a a.body (requester_kind a.body)
    ∙ tabled a.body y.state y.txn y.accepted y.last_cancel y.last_renew y.received y.request y.issued a

-- If `row` is the first row that fits an APDU, it gives the answer of `take_message`.
pub takes_this : (y : ResponderRecord) (a : Apdu) (row : Row RequesterKind) → delivery_row y a ≡ Some row
    → hit y a a.body row ≡ take_message y a a.body
takes_this y a row is = ap (answer_of (hit y a a.body) (conflict y.state y)) (sym is) ∙ takes_row y a

-- If no row fits an APDU, `take_message` answers a conflict.
pub takes_none : (y : ResponderRecord) (a : Apdu) → delivery_row y a ≡ None → conflict y.state y ≡ take_message y a a.body
takes_none y a is = ap (answer_of (hit y a a.body) (conflict y.state y)) (sym is) ∙ takes_row y a

-- If `row` is the first that fits, and no number is lacking, `take_message` gives its answer and its record.
pub takes_numbered : (y : ResponderRecord) (a : Apdu) (row : Row RequesterKind) → delivery_row y a ≡ Some row
    → number_refusal row.4 y.issued ≡ None
    → (Ok (taking_of row.3 y.state), after_delivery y a row (number_in a a.body)) ≡ take_message y a a.body
takes_numbered y a row is left =
    sym (ap (λ o. unless_refused o y (Ok (taking_of row.3 y.state), after_delivery y a row (number_in a a.body))) left)
    ∙ takes_this y a row is

-- If `row` is the first that fits and no number is lacking, the record after it satisfies the rules. The APDU belongs
-- to the transaction.
pub delivery_kept : (y : ResponderRecord) (a : Apdu) (row : Row RequesterKind) → IsResponder y
    → is_same_txn a.txn y.txn ≡ true → delivery_row y a ≡ Some row
    → number_refusal row.4 y.issued ≡ None → IsResponder (after_delivery y a row (number_in a a.body))
delivery_kept y a row h same is left =
    subst (λ answer. IsResponder answer.1) (sym (takes_numbered y a row is left))
    (is_responder _ (message_kept y a a.body (responder_rules y h) same refl))

-- A record with the parts after a row is the record after the row.
pub after_is : (y : ResponderRecord) (a : Apdu) (row : Row RequesterKind) (k : ℕ) (txn : Qualifiers) (state : State)
    (accepted last_cancel last_renew : Option ℕ) (received : Bool) (request : Option Apdu) (issued : List Apdu)
    → txn ≡ y.txn → state ≡ next_state row.3 y.state → accepted ≡ number_after ACCEPTS row.4 y.accepted k
    → last_cancel ≡ number_after CANCELS row.4 y.last_cancel k
    → last_renew ≡ number_after RENEWS row.4 y.last_renew k → received ≡ (has_common_bit row.4 RECEIVES || y.received)
    → request ≡ request_after row.4 y.request a → issued ≡ issued_after row.4 y.txn y.issued
    → responder_of txn state accepted last_cancel last_renew received request issued ≡ after_delivery y a row k
after_is y a row k txn state accepted last_cancel last_renew received request issued t s c n m r q i = cc

-- ---- memory

-- Returns true if a row answers `Taken`: it leads to a state, or does not change it.
abbrev is_new : Then → Bool
is_new (To next) = true
is_new Stay = true
is_new other = false

-- If `is_new` is true of an effect, its answer is `Taken`.
new_taken : (what : Then) (state : State) → is_new what ≡ true → taking_of what state ≡ Taken
new_taken (To next) state is = refl
new_taken Stay state is = refl
new_taken other state is = search rules

-- Returns true if the row takes no memory, or the message takes memory and the row answers `Taken`. `row.3` is the
-- effect of the row, and `row.4` are its changes.
abbrev grows_new : ResponderRecord → Body → Row RequesterKind → Bool
grows_new y body row = implies (is_row_with_memory row.4) (takes_memory y body && is_new row.3)

-- Returns true if there is no kind, or `grows_new` is true of each of its rows that contains the state.
abbrev kind_grows_new : ResponderRecord → Body → Option RequesterKind → Bool
kind_grows_new y body None = true
kind_grows_new y body (Some kind) =
    list_all (λ row. implies (has_state row.1 y.state) (grows_new y body row)) (delivery_rows kind)

-- `kind_grows_new` is true of each APDU and each state.
grown : (body : Body) (state : State) (txn : Qualifiers) (accepted last_cancel last_renew : Option ℕ) (received : Bool)
    (request : Option Apdu) (issued : List Apdu)
    → kind_grows_new (responder_of txn state accepted last_cancel last_renew received request issued) body (requester_kind body)
    ≡ true
grown (types.ConditionalReply c true) Idle txn accepted last_cancel last_renew received request issued = refl
grown (types.ConditionalReply c true) state txn accepted last_cancel last_renew received request issued = refl
grown (types.ConditionalReply c false) Idle txn accepted last_cancel last_renew received request issued = refl
grown (types.ConditionalReply c false) state txn accepted last_cancel last_renew received request issued = refl
grown body Idle txn accepted last_cancel last_renew received request issued = refl
grown body state txn accepted last_cancel last_renew received request issued = refl

-- If `kind_grows_new` is true of a kind, `grows_new` is true of the first row that fits.
found_grown : (y : ResponderRecord) (a : Apdu) (body : Body) (kind : Option RequesterKind) → kind_grows_new y body kind ≡ true
    → answer_of (grows_new y body) true (delivery_row_of y a body kind) ≡ true
found_grown y a body None h = refl
found_grown y a body (Some kind) h =
    let guards = delivery_guards y (number_in a body) in
    found_by_tests y.state guards (grows_new y body) true (delivery_rows kind)
    ∙ tests_true y.state guards (grows_new y body) (delivery_rows kind) h

-- If `row` is the first that fits an APDU, `grows_new` is true of it.
row_grown : (y : ResponderRecord) (a : Apdu) (row : Row RequesterKind) → delivery_row y a ≡ Some row
    → grows_new y a.body row ≡ true
row_grown y a row is =
    ap (answer_of (grows_new y a.body) true) (sym is)
    ∙ found_grown y a a.body (requester_kind a.body)
    (grown a.body y.state y.txn y.accepted y.last_cancel y.last_renew y.received y.request y.issued)

-- If `a` implies `b`, and `a` is true, then `b` is true.
implied : (a b : Bool) → implies a b ≡ true → a ≡ true → b ≡ true
implied true b h is = h
implied false b h is = search rules

-- If `row` is the first that fits and is refused, the definitions allow this refusal.
pub takes_refused : (y : ResponderRecord) (a : Apdu) (row : Row RequesterKind) (refusal : Refusal)
    → delivery_row y a ≡ Some row → IsRefused row.4 y.issued refusal
    → MayRunOutOfMemory (take_message y a a.body) (takes_memory y a.body) y (Err refusal) y
takes_refused y a row OutOfMemory is refused =
    let both = and_parts _ _ (implied _ _ (row_grown y a row is) refused.0) in
    (sym (ap (λ answer. answer.0) (takes_numbered y a row is refused.1)) ∙ ap Ok (new_taken row.3 y.state both.1), both.0, refl)
takes_refused y a row refusal is refused =
    ap (λ o. unless_refused o y (Ok (taking_of row.3 y.state), after_delivery y a row (number_in a a.body))) (sym refused)
    ∙ takes_this y a row is

-- ---- deeds

-- Returns the transition of a row, the refusal of the date, or `NotNow` if there is no row.
abbrev pub transition_by : State → Option (Row ResponderKind) → Result Unit Refusal → Body → Result Transition Refusal
transition_by state None allowed body = Err (refusals.NotNow state)
transition_by state (Some row) (Err refusal) body = Err refusal
transition_by state (Some row) (Ok done) body = leads_to (next_state row.3 state) body

-- Let the row `found` give `transition` if its date is allowed, and the refusal `forbids` if not. Then it gives
-- `if_allowed` of both for `is_allowed`, the test of the date.
dated : (state : State) (found : Option (Row ResponderKind)) (is_allowed : Bool) (forbids : Refusal)
    (transition : Result Transition Refusal) (body : Body)
    → transition_by state found (Ok tt) body ≡ transition → transition_by state found (Err forbids) body ≡ Err forbids
    → transition_by state found (check is_allowed forbids) body ≡ if_allowed is_allowed forbids transition
dated state found true forbids transition body here forbidden = here
dated state found false forbids transition body here forbidden = forbidden

-- The row of a deed and its date give the transition of the deed, in each state.
deeded : (deed : Deed) (state : State) (y : ResponderRecord) (today : Date)
    → transition_by state (deed_row state deed) (check_date y deed today) (deed_body y deed)
    ≡ transition_of (record y { state = state }) deed today
deeded (deeds.Answer results.Conditional) Idle y today = refl
deeded (deeds.Answer results.Conditional) state y today = refl
deeded (deeds.Answer answer) Idle y today = refl
deeded (deeds.Answer answer) state y today = refl
deeded (deeds.CancelReply true) Idle y today = refl
deeded (deeds.CancelReply true) state y today = refl
deeded (deeds.CancelReply false) Idle y today = refl
deeded (deeds.CancelReply false) state y today = refl
deeded (deeds.Ship due) InProcess y today =
    dated InProcess (deed_row InProcess (deeds.Ship due)) (not (is_before due today)) refusals.DateEarlier
    (leads_to Shipped (types.Shipped due)) (types.Shipped due) refl refl
deeded (deeds.Ship due) state y today = refl
deeded (deeds.RenewAnswer (Some d)) RenewPending y today =
    let body = types.RenewAnswer (unwrap_or y.last_renew 0) (Some d) in
    dated RenewPending (deed_row RenewPending (deeds.RenewAnswer (Some d))) (is_after_due d (due_of y)) refusals.DateNotLater
    (leads_to Shipped body) body refl refl
deeded (deeds.RenewAnswer (Some d)) RenewOverdue y today =
    let body = types.RenewAnswer (unwrap_or y.last_renew 0) (Some d) in
    dated RenewOverdue (deed_row RenewOverdue (deeds.RenewAnswer (Some d))) (is_after_due d (due_of y)) refusals.DateNotLater
    (leads_to Shipped body) body refl refl
deeded (deeds.RenewAnswer (Some d)) state y today = refl
deeded (deeds.RenewAnswer None) Idle y today = refl
deeded (deeds.RenewAnswer None) state y today = refl
deeded deeds.Overdue Shipped y today =
    let body = types.Overdue (unwrap_or (due_of y) no_date) in
    dated Shipped (deed_row Shipped deeds.Overdue) (is_after_due today (due_of y)) refusals.NotDue (leads_to Overdue body) body
    refl refl
deeded deeds.Overdue RenewPending y today =
    let body = types.Overdue (unwrap_or (due_of y) no_date) in
    dated RenewPending (deed_row RenewPending deeds.Overdue) (is_after_due today (due_of y)) refusals.NotDue
    (leads_to RenewOverdue body) body refl refl
deeded deeds.Expire InProcess y today =
    dated InProcess (deed_row InProcess deeds.Expire) (is_after_due today (expiry_of y.request)) refusals.NotExpired
    (leads_to NotSupplied types.Expired) types.Expired refl refl
deeded deeds.Expire Conditional y today =
    dated Conditional (deed_row Conditional deeds.Expire) (is_after_due today (expiry_of y.request)) refusals.NotExpired
    (leads_to NotSupplied types.Expired) types.Expired refl refl
deeded deed Idle y today = refl
deeded deed state y today = refl

-- A row of deeds changes only the state and the list.
state_alone : (deed : Deed) (state : State) (y : ResponderRecord) (number : ℕ) (body : Body)
    → answer_of (λ row. after_deed (record y { state = state }) row number body) y (deed_row state deed)
    ≡ answer_of (λ row. issues_to y body (next_state row.3 state)) y (deed_row state deed)
state_alone (deeds.Answer results.Conditional) Idle y number body = refl
state_alone (deeds.Answer results.Conditional) state y number body = refl
state_alone (deeds.Answer answer) Idle y number body = refl
state_alone (deeds.Answer answer) state y number body = refl
state_alone (deeds.CancelReply true) Idle y number body = refl
state_alone (deeds.CancelReply true) state y number body = refl
state_alone (deeds.CancelReply false) Idle y number body = refl
state_alone (deeds.CancelReply false) state y number body = refl
state_alone (deeds.RenewAnswer (Some d)) Idle y number body = refl
state_alone (deeds.RenewAnswer (Some d)) state y number body = refl
state_alone (deeds.RenewAnswer None) Idle y number body = refl
state_alone (deeds.RenewAnswer None) state y number body = refl
state_alone deed Idle y number body = refl
state_alone deed state y number body = refl

-- If no row of deeds fits, the deed is refused with `NotNow`.
acts_none : (y : ResponderRecord) (deed : Deed) (today : Date) → deed_row y.state deed ≡ None
    → acts y deed today ≡ Err (refusals.NotNow y.state)
acts_none y deed today is =
    ap (λ transition. acts_by y transition (next_number y.issued))
    (sym (deeded deed y.state y today)
    ∙ ap (λ found. transition_by y.state found (check_date y deed today) (deed_body y deed)) is)

-- If `row` is the first that fits a deed, the row and `allowed` give the transition of the deed. `allowed` is the
-- result of the check of the date.
row_transition : (y : ResponderRecord) (deed : Deed) (today : Date) (row : Row ResponderKind) (allowed : Result Unit Refusal)
    → deed_row y.state deed ≡ Some row → check_date y deed today ≡ allowed
    → transition_of y deed today ≡ transition_by y.state (Some row) allowed (deed_body y deed)
row_transition y deed today row allowed is date =
    sym (deeded deed y.state y today) ∙ (ap (λ found. transition_by y.state found (check_date y deed today) (deed_body y deed)) is
    ∙ ap (λ found. transition_by y.state (Some row) found (deed_body y deed)) date)

-- If `row` is the first that fits a deed, the row, `allowed` and `number` decide the outcome of the deed. `allowed` is
-- the result of the check of the date, and `number` the next number or its refusal.
acts_by_row : (y : ResponderRecord) (deed : Deed) (today : Date) (row : Row ResponderKind) (allowed : Result Unit Refusal)
    (number : Result ℕ Refusal)
    → deed_row y.state deed ≡ Some row → check_date y deed today ≡ allowed → next_number y.issued ≡ number
    → acts y deed today ≡ acts_by y (transition_by y.state (Some row) allowed (deed_body y deed)) number
acts_by_row y deed today row allowed number is date next =
    ap (λ transition. acts_by y transition (next_number y.issued)) (row_transition y deed today row allowed is date)
    ∙ ap (acts_by y (transition_by y.state (Some row) allowed (deed_body y deed))) next

-- If `row`, the date and a number allow a deed, the deed leads to the record after the row.
pub acts_this : (y : ResponderRecord) (deed : Deed) (today : Date) (row : Row ResponderKind) (number : ℕ)
    → deed_row y.state deed ≡ Some row → check_date y deed today ≡ Ok tt → next_number y.issued ≡ Ok number
    → acts y deed today ≡ Ok (after_deed y row number (deed_body y deed))
acts_this y deed today row number is date next =
    let body = deed_body y deed in
    let alone : after_deed y row number body ≡ issues_to y body (next_state row.3 y.state) =
    sym (ap (answer_of (λ r. after_deed y r number body) y) is)
    ∙ (state_alone deed y.state y number body ∙ ap (answer_of (λ r. issues_to y body (next_state r.3 y.state)) y) is) in
    acts_by_row y deed today row (Ok tt) (Ok number) is date next ∙ ap Ok (sym alone)

-- Returns true if the result is `OutOfMemory`.
abbrev is_memory : {T : Type 0} → Result T Refusal → Bool
is_memory (Err OutOfMemory) = true
is_memory other = false

-- If the refusal of a check is not `OutOfMemory`, the check never returns `OutOfMemory`.
check_takes_none : (is_allowed : Bool) (refusal : Refusal) → is_memory {T = Unit} (Err refusal) ≡ false
    → is_memory (check is_allowed refusal) ≡ false
check_takes_none true refusal other = refl
check_takes_none false refusal other = other

-- The check of the dates never returns `OutOfMemory`.
date_takes_none : (y : ResponderRecord) (deed : Deed) (today : Date) → is_memory (check_date y deed today) ≡ false
date_takes_none y (deeds.Ship due) today = check_takes_none (not (is_before due today)) refusals.DateEarlier refl
date_takes_none y (deeds.RenewAnswer (Some d)) today = check_takes_none (is_after_due d (due_of y)) refusals.DateNotLater refl
date_takes_none y deeds.Overdue today = check_takes_none (is_after_due today (due_of y)) refusals.NotDue refl
date_takes_none y deeds.Expire today = check_takes_none (is_after_due today (expiry_of y.request)) refusals.NotExpired refl
date_takes_none y deed today = refl

-- The refusal of the next number is never `OutOfMemory`.
number_takes_none : (is_left : Bool) (number : ℕ) → is_memory (if is_left then Ok number else Err refusals.NumbersUsed) ≡ false
number_takes_none true number = refl
number_takes_none false number = refl

-- If `is_memory` is false of a result, the result is not `OutOfMemory`.
other_refusal : {T : Type 0} (refused : Result T Refusal) → is_memory refused ≡ false → refused ≡ Err OutOfMemory → ⊥
other_refusal (Err OutOfMemory) other is = search rules
other_refusal refused other is = search rules

-- If `row` fits a deed, and the date forbids the deed, the responder answers with the refusal of the date.
pub acts_forbidden : (y : ResponderRecord) (deed : Deed) (today : Date) (row : Row ResponderKind) (refusal : Refusal)
    → deed_row y.state deed ≡ Some row → check_date y deed today ≡ Err refusal → Acts y deed today (Err refusal) y
acts_forbidden y deed today row OutOfMemory is date =
    absurd (other_refusal (check_date y deed today) (date_takes_none y deed today) date)
acts_forbidden y deed today row refusal is date =
    (acts_by_row y deed today row (Err refusal) (next_number y.issued) is date refl, refl)

-- If `row` and the date allow a deed and no number is left, the responder answers with the number's refusal.
pub acts_numberless : (y : ResponderRecord) (deed : Deed) (today : Date) (row : Row ResponderKind) (refusal : Refusal)
    → deed_row y.state deed ≡ Some row → check_date y deed today ≡ Ok tt → next_number y.issued ≡ Err refusal
    → Acts y deed today (Err refusal) y
acts_numberless y deed today row OutOfMemory is date next =
    absurd (other_refusal (next_number y.issued) (number_takes_none (nat_lt (length y.issued) 255) (length y.issued + 1)) next)
acts_numberless y deed today row refusal is date next = (acts_by_row y deed today row (Ok tt) (Err refusal) is date next, refl)

-- If `row`, the date and a number allow a deed, the responder may answer `OutOfMemory`. The record does not change
-- then.
pub acts_wanting : (y : ResponderRecord) (deed : Deed) (today : Date) (row : Row ResponderKind) (number : ℕ)
    → deed_row y.state deed ≡ Some row → check_date y deed today ≡ Ok tt → next_number y.issued ≡ Ok number
    → Acts y deed today (Err OutOfMemory) y
acts_wanting y deed today row number is date next = (subst IsOk (sym (acts_this y deed today row number is date next)) refl, refl)

-- If `y` satisfies the rules of a responder, so does the record after a deed.
pub deed_kept : (y new : ResponderRecord) (deed : Deed) (today : Date) → IsResponder y → acts y deed today ≡ Ok new
    → IsResponder new
deed_kept y new deed today h done =
    of_acts IsResponder y new deed today
    (λ transition is how. is_responder _ (transition_kept y transition (responder_rules y h) is)) done

-- A record with the parts after a row is the record after the deed.
pub deed_is : (y : ResponderRecord) (row : Row ResponderKind) (k : ℕ) (body : Body) (txn : Qualifiers) (state : State)
    (accepted last_cancel last_renew : Option ℕ) (received : Bool) (issued : List Apdu)
    → txn ≡ y.txn → state ≡ next_state row.3 y.state → accepted ≡ number_after ACCEPTS row.4 y.accepted k
    → last_cancel ≡ number_after CANCELS row.4 y.last_cancel k
    → last_renew ≡ number_after RENEWS row.4 y.last_renew k → received ≡ (has_common_bit row.4 RECEIVES || y.received)
    → issued ≡ with_next y.txn y.issued body
    → responder_of txn state accepted last_cancel last_renew received y.request issued ≡ after_deed y row k body
deed_is y row k body txn state accepted last_cancel last_renew received issued t s c n m r i = cc
