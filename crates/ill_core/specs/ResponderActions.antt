-- Defines the table of a responder's deeds (this profile's own; the services are those of ISO 10160). A transition has
-- the state after the deed and the APDU that is issued. A date may forbid it. A deed without a transition is refused
-- with `NotNow`.
use Rattle.std.specs.Prelude.{◌≡◌, ℕ, Bool, true, false, not, [], ◌∷◌, Option, Some, None, Result, Ok, Err, IsOk, if◌then◌else◌}
use Rattle.std.specs.Option.{unwrap_or}
use Rattle.ill_values.specs.Day.{Date}
use Rattle.ill_values.specs.declared.apdu.Apdu.{Apdu}
use Rattle.ill_values.specs.Body.{Body}
use Rattle.ill_values.specs.declared.apdu.BodyWith.TheVariants as types
use Rattle.ill_values.specs.declared.apdu.AnswerResult.{AnswerResult}
use Rattle.ill_values.specs.declared.apdu.AnswerResult.TheVariants as results
use Rattle.ill_core.specs.declared.state.State.{State}
use Rattle.ill_core.specs.declared.state.State.TheVariants.{InProcess, Conditional, CancelPending, Cancelled, NotSupplied}
use Rattle.ill_core.specs.declared.state.State.TheVariants.{Shipped, RenewPending, Overdue, RenewOverdue, Recall, Returned}
use Rattle.ill_core.specs.declared.state.State.TheVariants.{CheckedIn}
use Rattle.ill_core.specs.declared.refusal.Refusal.{Refusal}
use Rattle.ill_core.specs.declared.refusal.Refusal.TheVariants as refusals
use Rattle.ill_core.specs.declared.responder.Deed.{Deed}
use Rattle.ill_core.specs.declared.responder.Deed.TheVariants as deeds
use Rattle.ill_core.specs.State.{is_among}
use Rattle.ill_core.specs.Dates.{is_before, is_after_due}
use Rattle.ill_core.specs.Issued.{next_number, with_next}
use Rattle.ill_core.specs.Responder.{ResponderRecord, due_of}

-- The effect of a deed.
pub record Transition : Type 0 where
  pub next : State  -- The state after the deed.
  pub body : Body  -- The body of the APDU that is issued.

-- Returns the transition that leads to `next` and issues `body`.
abbrev pub leads_to : State → Body → Result Transition Refusal
leads_to next body = Ok (record { next = next; body = body })

-- Returns the refusal `NotNow` with the present state.
abbrev pub not_now : ResponderRecord → Result Transition Refusal
not_now y = Err (refusals.NotNow y.state)

-- Returns `transition` if the first argument is true, and else `refusal`. The first argument says that a date allows
-- the deed.
abbrev pub if_allowed : Bool → Refusal → Result Transition Refusal → Result Transition Refusal
if_allowed true refusal transition = transition
if_allowed false refusal transition = Err refusal

-- Returns the state after an ILL-Answer with this result is issued.
abbrev pub after_answer : AnswerResult → State
after_answer results.Conditional = Conditional
after_answer results.WillSupply = InProcess
after_answer results.HoldPlaced = InProcess
after_answer other = NotSupplied

-- Returns the transition of Answer: from IN-PROCESS to the state of its result.
abbrev pub answer_transition : ResponderRecord → AnswerResult → Result Transition Refusal
answer_transition y answer =
    if is_among (InProcess ∷ []) y.state then leads_to (after_answer answer) (types.IllAnswer answer)
    else not_now y

-- Returns the transition of CancelReply: from CANCEL-PENDING to CANCELLED on yes, and to IN-PROCESS on no. It answers
-- the last Cancel.
abbrev pub cancel_reply_transition : ResponderRecord → Bool → Result Transition Refusal
cancel_reply_transition y is_yes =
    if is_among (CancelPending ∷ []) y.state
    then leads_to (if is_yes then Cancelled else InProcess)
    (types.CancelReply (unwrap_or y.last_cancel 0) is_yes)
    else not_now y

-- Returns the transition of Ship: from IN-PROCESS to SHIPPED, unless `due` is before `today`.
abbrev pub ship_transition : ResponderRecord → Date → Date → Result Transition Refusal
ship_transition y due today =
    if is_among (InProcess ∷ []) y.state
    then if_allowed (not (is_before due today)) refusals.DateEarlier
    (leads_to Shipped (types.Shipped due))
    else not_now y

-- Returns the transition of a RenewAnswer, which answers the last Renew. A yes leads to SHIPPED if its date is after
-- the due date. A no leads to `unrenewed`.
abbrev pub renewal_transition : ResponderRecord → State → Option Date → Result Transition Refusal
renewal_transition y unrenewed None = leads_to unrenewed (types.RenewAnswer (unwrap_or y.last_renew 0) None)
renewal_transition y unrenewed (Some d) =
    if_allowed (is_after_due d (due_of y)) refusals.DateNotLater
    (leads_to Shipped (types.RenewAnswer (unwrap_or y.last_renew 0) (Some d)))

-- Returns the transition of RenewAnswer: from RENEW/PENDING or RENEW/OVERDUE. A no leads to SHIPPED from RENEW/PENDING,
-- and to OVERDUE from RENEW/OVERDUE.
abbrev pub renew_answer_transition : ResponderRecord → Option Date → Result Transition Refusal
renew_answer_transition y granted =
    if is_among (RenewPending ∷ []) y.state then renewal_transition y Shipped granted
    else if is_among (RenewOverdue ∷ []) y.state then renewal_transition y Overdue granted
    else not_now y

-- Returns the date that stands for an absent due date: its year, month and day are 0.
abbrev pub no_date : Date
no_date = record { year = 0; month = 0; day = 0 }

-- Returns the transition of Overdue to `next`, if `today` is after the due date. It issues an Overdue for the due date.
abbrev pub overdue_transition_to : ResponderRecord → Date → State → Result Transition Refusal
overdue_transition_to y today next =
    if_allowed (is_after_due today (due_of y)) refusals.NotDue
    (leads_to next (types.Overdue (unwrap_or (due_of y) no_date)))

-- Returns the transition of Overdue: from SHIPPED to OVERDUE, and from RENEW/PENDING to RENEW/OVERDUE.
abbrev pub overdue_transition : ResponderRecord → Date → Result Transition Refusal
overdue_transition y today =
    if is_among (Shipped ∷ []) y.state then overdue_transition_to y today Overdue
    else if is_among (RenewPending ∷ []) y.state then overdue_transition_to y today RenewOverdue
    else not_now y

-- Returns the transition of Recall: from SHIPPED or OVERDUE to RECALL.
abbrev pub recall_transition : ResponderRecord → Result Transition Refusal
recall_transition y =
    if is_among (Shipped ∷ Overdue ∷ []) y.state then leads_to Recall types.Recall
    else not_now y

-- Returns the transition of CheckIn: from RETURNED to CHECKED-IN.
abbrev pub check_in_transition : ResponderRecord → Result Transition Refusal
check_in_transition y =
    if is_among (Returned ∷ []) y.state then leads_to CheckedIn types.CheckedIn
    else not_now y

-- Returns the expiry date of an ILL-Request, or `None`.
abbrev pub expiry_in : Body → Option Date
expiry_in (types.IllRequest expiry item) = expiry
expiry_in other = None

-- Returns the expiry date of a request, or `None`.
abbrev pub expiry_of : Option Apdu → Option Date
expiry_of None = None
expiry_of (Some a) = expiry_in a.body

-- Returns the transition of Expire: from IN-PROCESS or CONDITIONAL to NOT-SUPPLIED, if `today` is after the expiry
-- date.
abbrev pub expire_transition : ResponderRecord → Date → Result Transition Refusal
expire_transition y today =
    if is_among (InProcess ∷ Conditional ∷ []) y.state
    then if_allowed (is_after_due today (expiry_of y.request)) refusals.NotExpired
    (leads_to NotSupplied types.Expired)
    else not_now y

-- Returns the transition of a deed on the day `today`, or the refusal: `NotNow`, or the refusal of its date.
abbrev pub transition_of : ResponderRecord → Deed → Date → Result Transition Refusal
transition_of y (deeds.Answer answer) today = answer_transition y answer
transition_of y (deeds.CancelReply is_yes) today = cancel_reply_transition y is_yes
transition_of y (deeds.Ship due) today = ship_transition y due today
transition_of y (deeds.RenewAnswer granted) today = renew_answer_transition y granted
transition_of y deeds.Overdue today = overdue_transition y today
transition_of y deeds.Recall today = recall_transition y
transition_of y deeds.CheckIn today = check_in_transition y
transition_of y deeds.Expire today = expire_transition y today

-- Returns the record in `state`, with one more APDU, which has `body`.
abbrev pub issues_to : ResponderRecord → Body → State → ResponderRecord
issues_to y body state =
    record {
      txn = y.txn;
      state = state;
      accepted = y.accepted;
      last_cancel = y.last_cancel;
      last_renew = y.last_renew;
      received = y.received;
      request = y.request;
      issued = with_next y.txn y.issued body;
    }

-- Returns the record after a transition.
abbrev pub record_after : ResponderRecord → Transition → ResponderRecord
record_after y transition = issues_to y transition.body transition.next

-- Returns the record after a transition, or the refusal of the transition, or else the refusal of the number.
abbrev pub acts_by : ResponderRecord → Result Transition Refusal → Result ℕ Refusal →
    Result ResponderRecord Refusal
acts_by y (Err refusal) number = Err refusal
acts_by y (Ok transition) (Err refusal) = Err refusal
acts_by y (Ok transition) (Ok number) = Ok (record_after y transition)

-- Returns the record after a deed on the day `today`, or its refusal. The order of refusals is `NotNow`, the refusal of
-- its date, `NumbersUsed`.
abbrev pub acts : ResponderRecord → Deed → Date → Result ResponderRecord Refusal
acts y deed today = acts_by y (transition_of y deed today) (next_number y.issued)

-- A responder in record `old` answers `deed` on the day `today` with the result, and has record `new` afterwards.
-- `OutOfMemory` comes only for a deed that would succeed. A refusal does not change the record.
abbrev pub Acts : ResponderRecord → Deed → Date → Result Unit Refusal → ResponderRecord → Type 0
Acts old deed today (Ok done) new = acts old deed today ≡ Ok new
Acts old deed today (Err refusals.OutOfMemory) new = IsOk (acts old deed today) × (new ≡ old)
Acts old deed today (Err refusal) new = (acts old deed today ≡ Err refusal) × (new ≡ old)
