-- Proves that the rows of a requester's two tables agree with its definitions.
use Rattle.std.proofs.Common.{rules, ◌≡◌, ℕ, ◌+◌, nat_lt, length, ◌||◌, Bool, true, false, not, List, Option, Some, None, Result}
use Rattle.std.proofs.Common.{Ok, Err, IsOk, if◌then◌else◌, refl, ap, subst, sym, ◌∙◌}
use Rattle.ill_values.specs.Day.{Date}
use Rattle.ill_values.specs.TxnId.{Qualifiers}
use Rattle.ill_values.specs.declared.apdu.Apdu.{Apdu}
use Rattle.ill_values.specs.Body.{Body}
use Rattle.ill_values.specs.declared.apdu.BodyWith.TheVariants as types
use Rattle.ill_values.specs.declared.apdu.AnswerResult.TheVariants as results
use Rattle.ill_core.specs.declared.kind.RequesterKind.{RequesterKind}
use Rattle.ill_core.specs.declared.kind.ResponderKind.{ResponderKind}
use Rattle.ill_core.specs.declared.table.Row.{Row}
use Rattle.ill_core.specs.declared.requester.standing.TheConstants.{MARK}
use Rattle.ill_core.specs.declared.state.State.{State}
use Rattle.ill_core.specs.declared.state.State.TheVariants.{Idle, Conditional, Received, Recall, RenewPending, RenewOverdue}
use Rattle.ill_core.specs.declared.refusal.Refusal.{Refusal}
use Rattle.ill_core.specs.declared.refusal.Refusal.TheVariants as refusals
use Rattle.ill_core.specs.declared.requester.Wish.{Wish}
use Rattle.ill_core.specs.declared.requester.Wish.TheVariants as wishes
use Rattle.ill_core.specs.declared.taking.Taking.{Taking}
use Rattle.ill_core.specs.Answers.{taken, stale, conflict}
use Rattle.ill_values.specs.Bodies.{is_renew, is_received, declines}
use Rattle.ill_core.specs.Dates.{is_after_due}
use Rattle.ill_core.specs.Issued.{is_message_with, has_message_with, next_number, with_next}
use Rattle.ill_core.specs.Numbers.{is_equal_number}
use Rattle.ill_core.specs.Kinds.{wish_kind, responder_kind, number_in}
use Rattle.ill_values.specs.Bodies.{date_in}
use Rattle.ill_core.specs.Tables as tables
use Rattle.ill_core.specs.Tables.{taking_of, next_state, fits}
use Rattle.ill_core.specs.Requester.{RequesterRecord, requester_of, IsRequester, last_renew}
use Rattle.ill_core.specs.RequesterTables.{held_after, due_after, after, delivery_guards, delivery_rows, delivery_row}
use Rattle.ill_core.specs.RequesterTables.{delivery_row_of, wish_guards, wish_rows, wish_row, wish_body}
use Rattle.ill_core.specs.RequesterDeliveries.{take_message}
use Rattle.ill_core.specs.RequesterActions.{Transition, transition_of, record_after, acts_by, acts, Acts}
use Rattle.ill_core.proofs.TableLemmas.{answer_of, by_tests, found_by_tests}
use Rattle.ill_core.proofs.RequesterRows.{message_row}
use Rattle.ill_core.proofs.Rules.{requester_rules, is_requester}
use Rattle.ill_core.proofs.RequesterLaws.{acts_kept}

-- Returns the answer that a row gives to an APDU, and the record after it. `row.3` is the effect of the row.
abbrev pub hit : RequesterRecord → Apdu → Body → Row ResponderKind → Result Taking Refusal × RequesterRecord
hit x a body row = (Ok (taking_of row.3 x.state), after x row (number_in a body) (date_in body))

-- Returns the answer of the first row of the kind that fits, and the record after it. The rows are tested one after
-- another. Without a kind, or if no row fits, the answer is a conflict.
abbrev pub tests_of : RequesterRecord → Apdu → Body → Option ResponderKind → Result Taking Refusal × RequesterRecord
tests_of x a body None = conflict x.state x
tests_of x a body (Some kind) =
    by_tests x.state (delivery_guards x (number_in a body) (date_in body)) (hit x a body) (conflict x.state x)
    (delivery_rows kind)

-- If two rows test a guard that a definition tests once, both give one answer.
asked_twice : {A : Type 0} (last later : Bool) (taken none others : A)
    → (if last then (if later then taken else (if last then none else others)) else (if last then none else others))
    ≡ (if last then (if later then taken else none) else others)
asked_twice true later taken none others = refl
asked_twice false later taken none others = refl

-- The rows of deliveries agree with `take_message` for each APDU and each state.
pub tabled : (body : Body) (state : State) (txn : Qualifiers) (held : Option ℕ) (checked_in : Bool) (due : Option Date)
    (issued : List Apdu) (a : Apdu)
    → tests_of (requester_of txn state held checked_in due issued) a body (responder_kind body)
    ≡ take_message (requester_of txn state held checked_in due issued) a body
tabled (types.IllAnswer results.Conditional) Idle txn held checked_in due issued a = refl
tabled (types.IllAnswer results.Conditional) state txn held checked_in due issued a = refl
tabled (types.IllAnswer answer) Idle txn held checked_in due issued a = refl
tabled (types.IllAnswer answer) state txn held checked_in due issued a = refl
tabled (types.CancelReply c true) Idle txn held checked_in due issued a = refl
tabled (types.CancelReply c true) state txn held checked_in due issued a = refl
tabled (types.CancelReply c false) Idle txn held checked_in due issued a = refl
tabled (types.CancelReply c false) state txn held checked_in due issued a = refl
tabled (types.RenewAnswer c (Some d)) Idle txn held checked_in due issued a = refl
tabled (types.RenewAnswer c (Some d)) RenewPending txn held checked_in due issued a =
    let x : RequesterRecord = requester_of txn RenewPending held checked_in due issued in
    asked_twice (is_equal_number c (last_renew x)) (is_after_due d due) (taken (record x { state = Received; due = Some d }))
    (conflict RenewPending x)
    (if is_message_with is_renew issued c then stale x else conflict RenewPending x)
tabled (types.RenewAnswer c (Some d)) RenewOverdue txn held checked_in due issued a =
    let x : RequesterRecord = requester_of txn RenewOverdue held checked_in due issued in
    asked_twice (is_equal_number c (last_renew x)) (is_after_due d due) (taken (record x { state = Received; due = Some d }))
    (conflict RenewOverdue x)
    (if is_message_with is_renew issued c then stale x else conflict RenewOverdue x)
tabled (types.RenewAnswer c (Some d)) state txn held checked_in due issued a = refl
tabled (types.RenewAnswer c None) Idle txn held checked_in due issued a = refl
tabled (types.RenewAnswer c None) state txn held checked_in due issued a = refl
tabled (types.ConditionalReply c true) Idle txn held checked_in due issued a = refl
tabled body Idle txn held checked_in due issued a = refl
tabled body state txn held checked_in due issued a = refl

-- The answer of the first row that fits equals the tests of the rows of its kind.
found : (x : RequesterRecord) (a : Apdu) (body : Body) (kind : Option ResponderKind)
    → answer_of (hit x a body) (conflict x.state x) (delivery_row_of x a body kind) ≡ tests_of x a body kind
found x a body None = refl
found x a body (Some kind) = found_by_tests x.state (delivery_guards x (number_in a body) (date_in body)) (hit x a body)
    (conflict x.state x) (delivery_rows kind)

-- The first row that fits an APDU gives the answer of `take_message`. If no row fits, the answer is a conflict.
pub takes_row : (x : RequesterRecord) (a : Apdu)
    → answer_of (hit x a a.body) (conflict x.state x) (delivery_row x a) ≡ take_message x a a.body
takes_row x a = found x a a.body (responder_kind a.body) ∙ tabled a.body x.state x.txn x.held x.checked_in x.due x.issued a

-- If `row` is the first row that fits an APDU, it gives the answer of `take_message`.
pub takes_this : (x : RequesterRecord) (a : Apdu) (row : Row ResponderKind) → delivery_row x a ≡ Some row
    → hit x a a.body row ≡ take_message x a a.body
takes_this x a row is = ap (answer_of (hit x a a.body) (conflict x.state x)) (sym is) ∙ takes_row x a

-- If no row fits an APDU, `take_message` answers a conflict.
pub takes_none : (x : RequesterRecord) (a : Apdu) → delivery_row x a ≡ None → conflict x.state x ≡ take_message x a a.body
takes_none x a is = ap (answer_of (hit x a a.body) (conflict x.state x)) (sym is) ∙ takes_row x a

-- Let `x` be a requester's record, and `row` the first that fits an APDU. Then the record after `row` satisfies the
-- rules of a requester.
pub takes_kept : (x : RequesterRecord) (a : Apdu) (row : Row ResponderKind) → IsRequester x → delivery_row x a ≡ Some row
    → IsRequester (after x row (number_in a a.body) (date_in a.body))
takes_kept x a row h is = subst (λ answer. IsRequester answer.1) (sym (takes_this x a row is))
    (is_requester _ ((message_row x a a.body).kept (requester_rules x h)))

-- Record `x` with `state`, `held`, `checked_in` and `due` is the record after `row`, if these are the parts after
-- `row`.
pub after_is : (x : RequesterRecord) (row : Row ResponderKind) (k : ℕ) (date : Option Date) (state : State) (held : Option ℕ)
    (checked_in : Bool) (due : Option Date)
    → state ≡ next_state row.3 x.state → held ≡ held_after row.4 x.held k
    → checked_in ≡ (tables.has_common_bit row.4 MARK || x.checked_in) → due ≡ due_after row.4 x.due date
    → requester_of x.txn state held checked_in due x.issued ≡ after x row k date
after_is x row k date state held checked_in due s h m d = cc

-- ---- wishes

-- Returns the record after a row is followed for a wish, which issues message `k`. `row.3` is the effect of the row,
-- and `row.4` are its changes.
abbrev pub wished : RequesterRecord → Wish → ℕ → Row RequesterKind → RequesterRecord
wished x wish k row =
    requester_of x.txn (next_state row.3 x.state) (held_after row.4 x.held k) (tables.has_common_bit row.4 MARK || x.checked_in)
    (due_after row.4 x.due None)
    (with_next x.txn x.issued (wish_body x wish))

-- Returns the record after a transition, or the refusal if there is none.
abbrev pub by_transition : RequesterRecord → Result Transition Refusal → Result RequesterRecord Refusal
by_transition x (Err refusal) = Err refusal
by_transition x (Ok transition) = Ok (record_after x transition)

-- The record after a choice of two transitions is the choice of their two records.
by_test : (x : RequesterRecord) (test : Bool) (here others : Result Transition Refusal)
    → (if test then by_transition x here else by_transition x others) ≡ by_transition x (if test then here else others)
by_test x true here others = refl
by_test x false here others = refl

-- The rows of a wish agree with its transition, in each state.
wish_tests : (wish : Wish) (state : State) (txn : Qualifiers) (held : Option ℕ) (checked_in : Bool) (due : Option Date)
    (issued : List Apdu) (k : ℕ)
    → (let x : RequesterRecord = requester_of txn state held checked_in due issued in
    by_tests state (wish_guards x) (λ row. Ok (wished x wish k row)) (Err (refusals.NotNow state)) (wish_rows (wish_kind wish))
    ≡ by_transition x (transition_of x wish))
wish_tests (wishes.Reply true) Conditional txn held checked_in due issued k =
    by_test (requester_of txn Conditional held checked_in due issued) (not (has_message_with declines issued)) _ _
wish_tests (wishes.Reply true) state txn held checked_in due issued k = refl
wish_tests (wishes.Reply false) Conditional txn held checked_in due issued k =
    by_test (requester_of txn Conditional held checked_in due issued) (not (has_message_with declines issued)) _ _
wish_tests (wishes.Reply false) state txn held checked_in due issued k = refl
wish_tests wishes.Receive Recall txn held checked_in due issued k =
    by_test (requester_of txn Recall held checked_in due issued) (not (has_message_with is_received issued)) _ _
wish_tests wishes.Receive state txn held checked_in due issued k = refl
wish_tests wishes.Return Recall txn held checked_in due issued k =
    by_test (requester_of txn Recall held checked_in due issued) (has_message_with is_received issued) _ _
wish_tests wishes.Return state txn held checked_in due issued k = refl
wish_tests wish Idle txn held checked_in due issued k = refl
wish_tests wish state txn held checked_in due issued k = refl

-- The first row that fits a wish gives the record after its transition, or `NotNow` if none fits.
wish_rows_say : (x : RequesterRecord) (wish : Wish) (k : ℕ)
    → answer_of (λ row. Ok (wished x wish k row)) (Err (refusals.NotNow x.state)) (wish_row x wish)
    ≡ by_transition x (transition_of x wish)
wish_rows_say x wish k =
    found_by_tests x.state (wish_guards x) (λ row. Ok (wished x wish k row)) (Err (refusals.NotNow x.state))
    (wish_rows (wish_kind wish))
    ∙ wish_tests wish x.state x.txn x.held x.checked_in x.due x.issued k

-- If `row` is the first that fits a wish, it gives the record after the transition.
by_this : (x : RequesterRecord) (wish : Wish) (k : ℕ) (row : Row RequesterKind) → wish_row x wish ≡ Some row
    → Ok (wished x wish k row) ≡ by_transition x (transition_of x wish)
by_this x wish k row is = ap (answer_of (λ r. Ok (wished x wish k r)) (Err (refusals.NotNow x.state))) (sym is)
    ∙ wish_rows_say x wish k

-- If no row fits a wish, its transition is the refusal `NotNow`.
by_none : (x : RequesterRecord) (wish : Wish) → wish_row x wish ≡ None
    → Err (refusals.NotNow x.state) ≡ by_transition x (transition_of x wish)
by_none x wish is = ap (answer_of (λ r. Ok (wished x wish 0 r)) (Err (refusals.NotNow x.state))) (sym is) ∙ wish_rows_say x wish 0

-- If a transition leads to `new` and a number is left, the wish succeeds with `new`.
numbered : (x new : RequesterRecord) (found : Result Transition Refusal) (n : ℕ) → Ok new ≡ by_transition x found
    → acts_by x found (Ok n) ≡ Ok new
numbered x new (Ok transition) n is = sym is
numbered x new (Err refusal) n is = search rules

-- If a wish has a transition and no number is left, it is refused with the refusal of the number.
used : (x new : RequesterRecord) (found : Result Transition Refusal) (refusal : Refusal) → Ok new ≡ by_transition x found
    → acts_by x found (Err refusal) ≡ Err refusal
used x new (Ok transition) refusal is = refl
used x new (Err other) refusal is = search rules

-- If a wish has no transition, it is refused with the refusal of the transition, for any number.
not_now : (x : RequesterRecord) (found : Result Transition Refusal) (refusal : Refusal) (number : Result ℕ Refusal)
    → Err refusal ≡ by_transition x found → acts_by x found number ≡ Err refusal
not_now x (Err other) refusal number is = sym is
not_now x (Ok transition) refusal number is = search rules

-- Let `row` be the first that fits a wish, and a number be left. Then the wish leads to the record after `row`.
pub acts_this : (x : RequesterRecord) (wish : Wish) (row : Row RequesterKind) (k n : ℕ) → wish_row x wish ≡ Some row
    → next_number x.issued ≡ Ok n
    → acts x wish ≡ Ok (wished x wish k row)
acts_this x wish row k n is next =
    ap (acts_by x (transition_of x wish)) next
    ∙ numbered x (wished x wish k row) (transition_of x wish) n (by_this x wish k row is)

-- Let `row` be the first that fits a wish, and no number be left. Then the wish is refused with the refusal of the
-- number.
pub acts_used : (x : RequesterRecord) (wish : Wish) (row : Row RequesterKind) (refusal : Refusal)
    → wish_row x wish ≡ Some row → next_number x.issued ≡ Err refusal
    → acts x wish ≡ Err refusal
acts_used x wish row refusal is next =
    ap (acts_by x (transition_of x wish)) next
    ∙ used x (wished x wish 0 row) (transition_of x wish) refusal (by_this x wish 0 row is)

-- If no row fits a wish, it is refused with `NotNow`.
pub acts_none : (x : RequesterRecord) (wish : Wish) → wish_row x wish ≡ None → acts x wish ≡ Err (refusals.NotNow x.state)
acts_none x wish is = not_now x (transition_of x wish) (refusals.NotNow x.state) (next_number x.issued) (by_none x wish is)

-- If a record is the one after a transition, the transition exists.
has_transition : (x new : RequesterRecord) (found : Result Transition Refusal) → Ok new ≡ by_transition x found → IsOk found
has_transition x new (Ok transition) is = search rules
has_transition x new (Err refusal) is = search rules

-- If `row` is the first that fits a wish, the wish has a transition.
pub transition_there : (x : RequesterRecord) (wish : Wish) (row : Row RequesterKind) → wish_row x wish ≡ Some row
    → IsOk (transition_of x wish)
transition_there x wish row is = has_transition x (wished x wish 0 row) (transition_of x wish) (by_this x wish 0 row is)

-- Let `row` be the first that fits a wish of a requester, and a number be left. Then the record after `row` satisfies
-- the rules of a requester.
pub wished_kept : (x : RequesterRecord) (wish : Wish) (row : Row RequesterKind) (k n : ℕ) → IsRequester x
    → wish_row x wish ≡ Some row → next_number x.issued ≡ Ok n
    → IsRequester (wished x wish k row)
wished_kept x wish row k n h is next = acts_kept x (wished x wish k row) wish (acts_this x wish row k n is next) h

-- The record with these six parts is the record after the wish, if they are the parts after `row`.
pub wished_is : (x : RequesterRecord) (wish : Wish) (row : Row RequesterKind) (k : ℕ) (txn : Qualifiers) (state : State)
    (held : Option ℕ) (checked_in : Bool) (due : Option Date) (issued : List Apdu)
    → (txn ≡ x.txn) → state ≡ next_state row.3 x.state → held ≡ held_after row.4 x.held k
    → checked_in ≡ (tables.has_common_bit row.4 MARK || x.checked_in) → due ≡ due_after row.4 x.due None
    → issued ≡ with_next x.txn x.issued (wish_body x wish)
    → requester_of txn state held checked_in due issued ≡ wished x wish k row
wished_is x wish row k txn state held checked_in due issued t s h m d i = cc

-- If a wish is refused because no number is left, the requester answers with this refusal. The record does not change.
-- `few` says that fewer than 255 messages were issued.
refused_used : (x : RequesterRecord) (wish : Wish) (few : Bool) (refusal : Refusal) → acts x wish ≡ Err refusal
    → (if few then Ok (length x.issued + 1) else Err refusals.NumbersUsed) ≡ Err refusal
    → Acts x wish (Err refusal) x
refused_used x wish true refusal acted is = search rules
refused_used x wish false refusals.NumbersUsed acted is = (acted, refl)
refused_used x wish false refusal acted is = search rules

-- Let `row` be the first that fits a wish, and no number be left. Then the requester answers with the refusal of the
-- number, and the record does not change.
pub act_used : (x : RequesterRecord) (wish : Wish) (row : Row RequesterKind) (refusal : Refusal)
    → wish_row x wish ≡ Some row → next_number x.issued ≡ Err refusal
    → Acts x wish (Err refusal) x
act_used x wish row refusal is next =
    refused_used x wish (nat_lt (length x.issued) 255) refusal (acts_used x wish row refusal is next) next

-- Let `row` be the first that fits a wish, and a number be left. Then the requester may answer `OutOfMemory`, and the
-- record does not change.
pub act_memory : (x : RequesterRecord) (wish : Wish) (row : Row RequesterKind) (n : ℕ) (refusal : Refusal)
    → wish_row x wish ≡ Some row → next_number x.issued ≡ Ok n
    → refusal ≡ refusals.OutOfMemory → Acts x wish (Err refusal) x
act_memory x wish row n refusal is next memory =
    subst (λ r. Acts x wish (Err r) x) (sym memory)
    (subst (λ found. IsOk found) (sym (acts_this x wish row n n is next)) (search rules), refl)
