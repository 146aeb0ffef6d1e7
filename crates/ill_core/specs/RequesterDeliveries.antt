-- Defines how a requester answers each message of a responder: the first transition that fits decides. If none
-- fits, the answer is a conflict with the present state. The table is this profile's own.
use Rattle.std.specs.Prelude.{◌≡◌, ℕ, Bool, true, not, ◌&&◌, [], ◌∷◌, Option, Some, None, Result, if◌then◌else◌}
use Rattle.ill_values.specs.Day.{Date}
use Rattle.ill_values.specs.declared.apdu.Apdu.{Apdu}
use Rattle.ill_values.specs.Body.{Body}
use Rattle.ill_values.specs.declared.apdu.BodyWith.TheVariants as types
use Rattle.ill_values.specs.declared.apdu.AnswerResult.{AnswerResult}
use Rattle.ill_values.specs.declared.apdu.AnswerResult.TheVariants as results
use Rattle.ill_core.specs.declared.state.State.TheVariants.{Pending, Conditional, CancelPending, Cancelled, NotSupplied, Shipped}
use Rattle.ill_core.specs.declared.state.State.TheVariants.{Received, RenewPending, Overdue, RenewOverdue, NotReceivedOverdue}
use Rattle.ill_core.specs.declared.state.State.TheVariants.{Recall, Returned}
use Rattle.ill_core.specs.declared.refusal.Refusal.{Refusal}
use Rattle.ill_core.specs.declared.taking.Taking.{Taking}
use Rattle.ill_core.specs.State.{is_among}
use Rattle.ill_core.specs.Answers.{taken, repeat, stale, conflict, unless_refused}
use Rattle.ill_core.specs.Dates.{is_due_on, is_after_due}
use Rattle.ill_core.specs.Numbers.{is_equal_number, is_at_most}
use Rattle.ill_values.specs.Bodies.{is_cancel, is_renew, is_requesters}
use Rattle.ill_core.specs.Issued.{is_message_with, first_refusal}
use Rattle.ill_core.specs.Requester.{RequesterRecord, accepted_number, last_cancel, last_renew, later}

-- Returns the answer to conditions with number `k`. They are a repeat if `k` is at most the accepted number, or is held
-- in CONDITIONAL. Else PENDING takes them, and leads to CONDITIONAL with `k` held.
abbrev pub take_conditions : RequesterRecord → ℕ → Result Taking Refusal × RequesterRecord
take_conditions x k =
    if is_at_most k (accepted_number x) then repeat x
    else if is_among (Conditional ∷ []) x.state && is_equal_number k x.held then repeat x
    else if is_among (Pending ∷ []) x.state
    then taken (record x { state = Conditional; held = Some k })
    else conflict x.state x

-- Returns the answer to an ILL-Answer will-supply or hold-placed. PENDING takes it, and the record does not change.
abbrev pub take_promise : RequesterRecord → Result Taking Refusal × RequesterRecord
take_promise x = if is_among (Pending ∷ []) x.state then taken x else conflict x.state x

-- Returns the answer to a message that ends the request without the item. It is a repeat in NOT-SUPPLIED. PENDING,
-- CONDITIONAL and CANCEL-PENDING take it, and lead to NOT-SUPPLIED.
abbrev pub take_end : RequesterRecord → Result Taking Refusal × RequesterRecord
take_end x =
    if is_among (NotSupplied ∷ []) x.state then repeat x
    else if is_among (Pending ∷ Conditional ∷ CancelPending ∷ []) x.state
    then taken (record x { state = NotSupplied; held = None })
    else conflict x.state x

-- Returns the answer to a Cancel-Reply to message `c`. In CANCEL-PENDING a reply to the last Cancel leads to CANCELLED
-- on yes, and to PENDING on no. In CANCELLED that yes is a repeat. Any other reply to a Cancel is stale.
abbrev pub take_cancel_reply : RequesterRecord → ℕ → Bool → Result Taking Refusal × RequesterRecord
take_cancel_reply x c is_yes =
    if is_among (CancelPending ∷ []) x.state && is_equal_number c (last_cancel x)
    then taken (record x { state = (if is_yes then Cancelled else Pending) })
    else if is_among (Cancelled ∷ []) x.state && (is_yes && is_equal_number c (last_cancel x))
    then repeat x
    else if is_message_with is_cancel x.issued c then stale x
    else conflict x.state x

-- Returns the answer to a Shipped with due date `d`. PENDING, CONDITIONAL and CANCEL-PENDING take it, and lead to
-- SHIPPED. In SHIPPED or later it is a repeat.
abbrev pub take_shipped : RequesterRecord → Date → Result Taking Refusal × RequesterRecord
take_shipped x d =
    if is_among (Pending ∷ Conditional ∷ CancelPending ∷ []) x.state
    then taken (record x { state = Shipped; due = Some d; held = None })
    else if is_among later x.state then repeat x
    else conflict x.state x

-- Returns the answer to an Overdue for day `d`. In SHIPPED or later it is stale if `d` is not the due date. Else it
-- leads from SHIPPED, RECEIVED or RENEW/PENDING to the overdue form of that state.
abbrev pub take_overdue : RequesterRecord → Date → Result Taking Refusal × RequesterRecord
take_overdue x d =
    if is_among later x.state && not (is_due_on d x.due) then stale x
    else if is_among (Shipped ∷ []) x.state then taken (record x { state = NotReceivedOverdue })
    else if is_among (Received ∷ []) x.state then taken (record x { state = Overdue })
    else if is_among (RenewPending ∷ []) x.state then taken (record x { state = RenewOverdue })
    else if is_among (NotReceivedOverdue ∷ Overdue ∷ RenewOverdue ∷ []) x.state then repeat x
    else conflict x.state x

-- Returns the answer to a Renew-Answer to the open Renew. A yes leads to RECEIVED if its date is after the due date,
-- and else is a conflict. A no leads to RECEIVED from RENEW/PENDING, and else to OVERDUE.
abbrev pub take_renewal : RequesterRecord → Option Date → Result Taking Refusal × RequesterRecord
take_renewal x (Some d) =
    if is_after_due d x.due then taken (record x { state = Received; due = Some d })
    else conflict x.state x
take_renewal x None =
    taken (record x { state = (if is_among (RenewPending ∷ []) x.state then Received else Overdue) })

-- Returns the answer to a Renew-Answer to message `c`. In RENEW/PENDING and RENEW/OVERDUE an answer to the last Renew
-- decides it. Any other answer to a Renew is stale.
abbrev pub take_renew_answer : RequesterRecord → ℕ → Option Date →
    Result Taking Refusal × RequesterRecord
take_renew_answer x c granted =
    if is_among (RenewPending ∷ RenewOverdue ∷ []) x.state && is_equal_number c (last_renew x)
    then take_renewal x granted
    else if is_message_with is_renew x.issued c then stale x
    else conflict x.state x

-- Returns the answer to a Recall. Each state from SHIPPED on but RECALL and RETURNED takes it, and leads to RECALL. In
-- RECALL it is a repeat.
abbrev pub take_recall : RequesterRecord → Result Taking Refusal × RequesterRecord
take_recall x =
    if is_among
    (Shipped ∷ NotReceivedOverdue ∷ Received ∷ Overdue ∷ RenewPending ∷ RenewOverdue ∷ []) x.state
    then taken (record x { state = Recall })
    else if is_among (Recall ∷ []) x.state then repeat x
    else conflict x.state x

-- Returns the answer to a Checked-In. RETURNED takes the first one, which sets the checked-in mark. A later one is a
-- repeat.
abbrev pub take_checked_in : RequesterRecord → Result Taking Refusal × RequesterRecord
take_checked_in x =
    if is_among (Returned ∷ []) x.state && not x.checked_in
    then taken (record x { checked_in = true })
    else if is_among (Returned ∷ []) x.state then repeat x
    else conflict x.state x

-- Returns the answer to an ILL-Answer with number `k`, which names conditions, promises supply, or ends the request.
abbrev pub take_answer : RequesterRecord → ℕ → AnswerResult →
    Result Taking Refusal × RequesterRecord
take_answer x k results.Conditional = take_conditions x k
take_answer x k results.WillSupply = take_promise x
take_answer x k results.HoldPlaced = take_promise x
take_answer x k other = take_end x

-- Returns the answer of requester `x` to APDU `a` of a responder, and the record after it. The third argument is the
-- body of `a`.
abbrev pub take_message : RequesterRecord → Apdu → Body → Result Taking Refusal × RequesterRecord
take_message x a (types.IllAnswer answer) = take_answer x a.number answer
take_message x a types.Expired = take_end x
take_message x a (types.CancelReply c is_yes) = take_cancel_reply x c is_yes
take_message x a (types.Shipped d) = take_shipped x d
take_message x a (types.Overdue d) = take_overdue x d
take_message x a (types.RenewAnswer c granted) = take_renew_answer x c granted
take_message x a types.Recall = take_recall x
take_message x a types.CheckedIn = take_checked_in x
take_message x a other = conflict x.state x

-- Returns the answer of a requester to an APDU, and the record after it. An APDU of another transaction, or of a type
-- that a requester issues, is refused.
abbrev pub takes : RequesterRecord → Apdu → Result Taking Refusal × RequesterRecord
takes x a =
    unless_refused (first_refusal x.txn (is_requesters a.body) a) x (take_message x a a.body)

-- A requester in record `old` answers APDU `a` with `answer`, and `new` is the record after it.
abbrev pub Takes : RequesterRecord → Apdu → Result Taking Refusal → RequesterRecord → Type 0
Takes old a answer new = (answer, new) ≡ takes old a
