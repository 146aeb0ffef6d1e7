-- Defines the table of a requester's wishes (this profile's own; the services are those of ISO 10160). A transition has
-- the state after the wish, the APDU that is issued, and the conditions held afterwards. A wish without a transition is
-- refused with `NotNow`.
use Rattle.std.specs.Prelude.{◌≡◌, ℕ, Bool, not, ◌&&◌, [], ◌∷◌, List, Option, None, Result, Ok, Err, IsOk, if◌then◌else◌}
use Rattle.std.specs.Option.{unwrap_or}
use Rattle.ill_values.specs.Day.{Date}
use Rattle.ill_values.specs.Body.{Body}
use Rattle.ill_values.specs.declared.apdu.BodyWith.TheVariants as types
use Rattle.ill_core.specs.declared.state.State.{State}
use Rattle.ill_core.specs.declared.state.State.TheVariants.{Idle, Pending, Conditional, CancelPending, Shipped, Received}
use Rattle.ill_core.specs.declared.state.State.TheVariants.{RenewPending, Overdue, RenewOverdue, NotReceivedOverdue, Recall}
use Rattle.ill_core.specs.declared.state.State.TheVariants.{Returned}
use Rattle.ill_core.specs.declared.refusal.Refusal.{Refusal}
use Rattle.ill_core.specs.declared.refusal.Refusal.TheVariants as refusals
use Rattle.ill_core.specs.declared.requester.Wish.{Wish}
use Rattle.ill_core.specs.declared.requester.Wish.TheVariants as wishes
use Rattle.ill_core.specs.State.{is_among}
use Rattle.ill_core.specs.Issued.{next_number, with_next}
use Rattle.ill_core.specs.Requester.{RequesterRecord, is_declined, is_received_by}

-- The effect of a wish: the next state, the APDU that is issued, and the conditions held afterwards.
pub record Transition : Type 0 where
  pub next : State
  pub body : Body
  pub held : Option ℕ

-- Returns the transition that leads to `next`, issues `body`, and does not change the conditions held.
abbrev pub leads_to : State → Body → RequesterRecord → Result Transition Refusal
leads_to next body x = Ok (record { next = next; body = body; held = x.held })

-- Returns the refusal `NotNow` with the present state.
abbrev pub not_now : RequesterRecord → Result Transition Refusal
not_now x = Err (refusals.NotNow x.state)

-- Returns the transition of Request: from IDLE to PENDING, with an ILL-Request with `expiry` and `item`.
abbrev pub request_transition : RequesterRecord → Option Date → List ℕ → Result Transition Refusal
request_transition x expiry item =
    if is_among (Idle ∷ []) x.state then leads_to Pending (types.IllRequest expiry item) x
    else not_now x

-- Returns the transition of Cancel: from PENDING to CANCEL-PENDING, with a Cancel.
abbrev pub cancel_transition : RequesterRecord → Result Transition Refusal
cancel_transition x =
    if is_among (Pending ∷ []) x.state then leads_to CancelPending types.Cancel x
    else not_now x

-- Returns the transition that answers the conditions held. A yes leads to PENDING and holds none; a no stays in
-- CONDITIONAL.
abbrev pub answer_held : RequesterRecord → Bool → Transition
answer_held x is_yes =
    record {
      next = if is_yes then Pending else Conditional;
      body = types.ConditionalReply (unwrap_or x.held 0) is_yes;
      held = if is_yes then None else x.held;
    }

-- Returns the transition of Reply. It exists in CONDITIONAL, unless the conditions were declined.
abbrev pub reply_transition : RequesterRecord → Bool → Result Transition Refusal
reply_transition x is_yes =
    if is_among (Conditional ∷ []) x.state && not (is_declined x) then Ok (answer_held x is_yes)
    else not_now x

-- Returns the transition of Receive: from SHIPPED to RECEIVED, and from NOT-RECEIVED/OVERDUE to OVERDUE. In RECALL the
-- state stays, and no Received may have been issued before.
abbrev pub receive_transition : RequesterRecord → Result Transition Refusal
receive_transition x =
    if is_among (Shipped ∷ []) x.state then leads_to Received types.Received x
    else if is_among (NotReceivedOverdue ∷ []) x.state then leads_to Overdue types.Received x
    else if is_among (Recall ∷ []) x.state && not (is_received_by x)
    then leads_to Recall types.Received x
    else not_now x

-- Returns the transition of Renew: from RECEIVED to RENEW/PENDING, and from OVERDUE to RENEW/OVERDUE.
abbrev pub renew_transition : RequesterRecord → Option Date → Result Transition Refusal
renew_transition x wished =
    if is_among (Received ∷ []) x.state then leads_to RenewPending (types.Renew wished) x
    else if is_among (Overdue ∷ []) x.state then leads_to RenewOverdue (types.Renew wished) x
    else not_now x

-- Returns the transition of Return: to RETURNED, from each state in which the requester has the item.
abbrev pub return_transition : RequesterRecord → Result Transition Refusal
return_transition x =
    if is_among (Received ∷ RenewPending ∷ Overdue ∷ RenewOverdue ∷ []) x.state
    then leads_to Returned types.Returned x
    else if is_among (Recall ∷ []) x.state && is_received_by x
    then leads_to Returned types.Returned x
    else not_now x

-- Returns the transition of a wish, or the refusal `NotNow`.
abbrev pub transition_of : RequesterRecord → Wish → Result Transition Refusal
transition_of x (wishes.Request expiry item) = request_transition x expiry item
transition_of x wishes.Cancel = cancel_transition x
transition_of x (wishes.Reply is_yes) = reply_transition x is_yes
transition_of x wishes.Receive = receive_transition x
transition_of x (wishes.Renew wished) = renew_transition x wished
transition_of x wishes.Return = return_transition x

-- Returns the record after a transition: it has the next state, the conditions of the transition, and one more APDU.
abbrev pub record_after : RequesterRecord → Transition → RequesterRecord
record_after x transition =
    record {
      txn = x.txn;
      state = transition.next;
      held = transition.held;
      checked_in = x.checked_in;
      due = x.due;
      issued = with_next x.txn x.issued transition.body;
    }

-- Returns the record after a transition, or the refusal of the transition, or else the refusal of the number.
abbrev pub acts_by : RequesterRecord → Result Transition Refusal → Result ℕ Refusal →
    Result RequesterRecord Refusal
acts_by x (Err refusal) number = Err refusal
acts_by x (Ok transition) (Err refusal) = Err refusal
acts_by x (Ok transition) (Ok number) = Ok (record_after x transition)

-- Returns the record after a wish, or its refusal: first `NotNow`, then `NumbersUsed`.
abbrev pub acts : RequesterRecord → Wish → Result RequesterRecord Refusal
acts x wish = acts_by x (transition_of x wish) (next_number x.issued)

-- A requester in record `old` answers `wish` with the result, and has record `new` afterwards. `OutOfMemory` comes only
-- for a wish that would succeed. A refusal does not change the record.
abbrev pub Acts : RequesterRecord → Wish → Result Unit Refusal → RequesterRecord → Type 0
Acts old wish (Ok done) new = acts old wish ≡ Ok new
Acts old wish (Err refusals.OutOfMemory) new = IsOk (acts old wish) × (new ≡ old)
Acts old wish (Err refusal) new = (acts old wish ≡ Err refusal) × (new ≡ old)
