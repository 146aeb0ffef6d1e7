-- Defines the table of a requester's messages to a responder (this profile's own). The first transition that fits
-- decides. An APDU that no transition fits is a conflict with the present state.
use Rattle.std.specs.Prelude.{◌≡◌, ℕ, Bool, true, false, not, ◌&&◌, [], ◌∷◌, Some, Result, Ok, Err, if◌then◌else◌}
use Rattle.ill_values.specs.declared.apdu.Apdu.{Apdu}
use Rattle.ill_values.specs.Body.{Body}
use Rattle.ill_values.specs.declared.apdu.BodyWith.TheVariants as types
use Rattle.ill_values.specs.declared.apdu.AnswerResult.TheVariants.{Unfilled}
use Rattle.ill_core.specs.declared.state.State.TheVariants.{Idle, InProcess, Conditional, CancelPending, NotSupplied, Shipped}
use Rattle.ill_core.specs.declared.state.State.TheVariants.{RenewPending, Overdue, RenewOverdue, Recall, Returned, CheckedIn}
use Rattle.ill_core.specs.declared.refusal.Refusal.{Refusal}
use Rattle.ill_core.specs.declared.refusal.Refusal.TheVariants as refusals
use Rattle.ill_core.specs.declared.taking.Taking.{Taking}
use Rattle.ill_core.specs.declared.taking.Taking.TheVariants.{Taken}
use Rattle.ill_core.specs.State.{is_among}
use Rattle.ill_core.specs.Answers.{taken, repeat, stale, conflict, unless_refused}
use Rattle.ill_core.specs.Numbers.{is_equal_number, is_at_most}
use Rattle.ill_values.specs.Bodies.{names_conditions, is_requesters}
use Rattle.ill_core.specs.Issued.{is_message_with, first_refusal, next_number}
use Rattle.ill_core.specs.Responder.{ResponderRecord, outstanding_number, later}
use Rattle.ill_core.specs.ResponderActions.{issues_to}

-- Returns the answer to an ILL-Request. IDLE takes it, keeps it, and leads to IN-PROCESS. In any other state it is a
-- repeat.
abbrev pub take_request : ResponderRecord → Apdu → Result Taking Refusal × ResponderRecord
take_request y a =
    if is_among (Idle ∷ []) y.state then taken (record y { state = InProcess; request = Some a })
    else repeat y

-- Returns the answer to a Conditional-Reply yes to message `c`. If `c` is outstanding, it leads to IN-PROCESS, and `c`
-- is accepted. If `c` is accepted, it is a repeat. If `c` named other conditions, it is stale.
abbrev pub take_yes : ResponderRecord → ℕ → Result Taking Refusal × ResponderRecord
take_yes y c =
    if is_equal_number c (outstanding_number y) then taken (record y { state = InProcess; accepted = Some c })
    else if is_equal_number c y.accepted then repeat y
    else if is_message_with names_conditions y.issued c then stale y
    else conflict y.state y

-- Returns the answer to a no that is taken. It issues an ILL-Answer unfilled, and leads to NOT-SUPPLIED. It is refused
-- if no number is left.
abbrev pub answers_no : ResponderRecord → Result ℕ Refusal → Result Taking Refusal × ResponderRecord
answers_no y (Ok number) = taken (issues_to y (types.IllAnswer Unfilled) NotSupplied)
answers_no y (Err refusal) = (Err refusal, y)

-- Returns the answer to a Conditional-Reply no. IN-PROCESS and CONDITIONAL take it. In NOT-SUPPLIED it is a repeat.
abbrev pub take_no : ResponderRecord → Result Taking Refusal × ResponderRecord
take_no y =
    if is_among (InProcess ∷ Conditional ∷ []) y.state then answers_no y (next_number y.issued)
    else if is_among (NotSupplied ∷ []) y.state then repeat y
    else conflict y.state y

-- Returns the answer to a Cancel with number `n`. It is a repeat if `n` is at most the last Cancel. Else IN-PROCESS and
-- CONDITIONAL take it, and lead to CANCEL-PENDING.
abbrev pub take_cancel : ResponderRecord → ℕ → Result Taking Refusal × ResponderRecord
take_cancel y n =
    if is_at_most n y.last_cancel then repeat y
    else if is_among (InProcess ∷ Conditional ∷ []) y.state
    then taken (record y { state = CancelPending; last_cancel = Some n })
    else conflict y.state y

-- Returns the answer to a Received. SHIPPED or later takes the first one, which sets the received mark. A later one is
-- a repeat.
abbrev pub take_received : ResponderRecord → Result Taking Refusal × ResponderRecord
take_received y =
    if is_among later y.state && not y.received then taken (record y { received = true })
    else if is_among later y.state then repeat y
    else conflict y.state y

-- Returns the answer to a Renew with number `n`. It is a repeat if `n` is at most the last Renew. Else SHIPPED takes it
-- to RENEW/PENDING, and OVERDUE takes it to RENEW/OVERDUE.
abbrev pub take_renew : ResponderRecord → ℕ → Result Taking Refusal × ResponderRecord
take_renew y n =
    if is_at_most n y.last_renew then repeat y
    else if is_among (Shipped ∷ []) y.state
    then taken (record y { state = RenewPending; last_renew = Some n })
    else if is_among (Overdue ∷ []) y.state
    then taken (record y { state = RenewOverdue; last_renew = Some n })
    else conflict y.state y

-- Returns the answer to a Returned. It leads to RETURNED while the item is lent. In RETURNED and CHECKED-IN it is a
-- repeat.
abbrev pub take_returned : ResponderRecord → Result Taking Refusal × ResponderRecord
take_returned y =
    if is_among (Shipped ∷ RenewPending ∷ Overdue ∷ RenewOverdue ∷ Recall ∷ []) y.state
    then taken (record y { state = Returned })
    else if is_among (Returned ∷ CheckedIn ∷ []) y.state then repeat y
    else conflict y.state y

-- Returns the answer of responder `y` to APDU `a` of a requester, and the record after it. The third argument is the
-- body of `a`.
abbrev pub take_message : ResponderRecord → Apdu → Body → Result Taking Refusal × ResponderRecord
take_message y a (types.IllRequest expiry item) = take_request y a
take_message y a (types.ConditionalReply c true) = take_yes y c
take_message y a (types.ConditionalReply c false) = take_no y
take_message y a types.Cancel = take_cancel y a.number
take_message y a types.Received = take_received y
take_message y a (types.Renew wished) = take_renew y a.number
take_message y a types.Returned = take_returned y
take_message y a other = conflict y.state y

-- Returns the answer of a responder to an APDU, and the record after it. An APDU of another transaction, or of a type
-- that a responder issues, is refused.
abbrev pub takes : ResponderRecord → Apdu → Result Taking Refusal × ResponderRecord
takes y a =
    unless_refused (first_refusal y.txn (not (is_requesters a.body)) a) y (take_message y a a.body)

-- Returns true if the delivery takes memory: an ILL-Request in IDLE, or a Conditional-Reply no in IN-PROCESS or
-- CONDITIONAL.
abbrev pub takes_memory : ResponderRecord → Body → Bool
takes_memory y (types.IllRequest expiry item) = is_among (Idle ∷ []) y.state
takes_memory y (types.ConditionalReply c false) = is_among (InProcess ∷ Conditional ∷ []) y.state
takes_memory y other = false

-- A call returns the expected answer and record. If the expected answer is `Taken` and `memory` is true, it may return
-- `OutOfMemory` instead, and not change the record.
abbrev pub MayRunOutOfMemory : Result Taking Refusal × ResponderRecord → Bool → ResponderRecord →
    Result Taking Refusal → ResponderRecord → Type 0
MayRunOutOfMemory expected memory old (Err refusals.OutOfMemory) new =
    (expected.0 ≡ Ok Taken) × (memory ≡ true) × (new ≡ old)
MayRunOutOfMemory expected memory old answer new = (answer, new) ≡ expected

-- A responder in record `old` answers APDU `a` with `answer`, and `new` is the record after it.
abbrev pub Takes : ResponderRecord → Apdu → Result Taking Refusal → ResponderRecord → Type 0
Takes old a answer new = MayRunOutOfMemory (takes old a) (takes_memory old a.body) old answer new
