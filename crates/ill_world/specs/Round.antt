-- In a round all messages of the requester reach the responder, in order. Then all messages of the responder reach the
-- requester. If the responder can answer a Conditional-Reply no, both records are converged after the round. The round
-- is this profile's own.
use Rattle.std.specs.Prelude.{◌≡◌, ◌⊎◌, ℕ, zero, suc, ◌+◌, ◌<◌, true, false, List, [], ◌∷◌, ◌++◌, length, Result, Ok, Err}
use Rattle.ill_core.specs.declared.state.State.{State}
use Rattle.ill_core.specs.declared.state.State.TheVariants as states
use Rattle.ill_core.specs.State.{is_among}
use Rattle.ill_values.specs.Bodies.{is_end, is_received, declines}
use Rattle.ill_core.specs.Issued.{has_message_with}
use Rattle.ill_core.specs.Requester.{RequesterRecord, is_declined, is_received_by}
use Rattle.ill_core.specs.Responder.{ResponderRecord, due_of, later}
use Rattle.ill_record.specs.declared.side.Side.{Side}
use Rattle.ill_record.specs.Side.{issued_of, other, IsPrefix}
use Rattle.ill_record.specs.declared.role.Role.{Role}
use Rattle.ill_record.specs.declared.role.Role.TheVariants.{Requester, Responder}
use Rattle.ill_world.specs.declared.event.Event.{Event}
use Rattle.ill_world.specs.declared.event.Event.TheVariants.{Save, Send, Deliver}
use Rattle.ill_world.specs.World.{Parties, party, run_of}
use Rattle.ill_world.specs.Agreement.{Facing}

-- ---- the events of a round

-- Returns a Send and a Deliver for each of `count` messages of `who`, from `number` on, one after another.
unfoldable pub sends_and_delivers : Role → ℕ → ℕ → List Event
sends_and_delivers who number zero = []
sends_and_delivers who number (suc count) =
    Send who number ∷ Deliver (other who) number ∷ sends_and_delivers who (number + 1) count

-- Returns the events of a half of a round: `who` saves, and all its messages are sent and delivered.
abbrev pub half_of : Role → Parties → List Event
half_of who w = Save who ∷ sends_and_delivers who 1 (length (issued_of (party w who).live))

-- Returns the requester's half of a round, and then the responder's.
abbrev pub round_of : Parties → List Event
round_of w = half_of Requester w ++ half_of Responder (run_of w (half_of Requester w))

-- The function `run` gives the world after events. If the result is Ok, `new` is the world after `events`, from `old`
-- on. If memory ran out, `new` is the world after a prefix of `events`.
abbrev pub Performs : {W E M : Type 0} → (W → List E → W) → List E → W → Result (Unit {0}) M → W → Type 0
Performs run events old (Ok done) new = new ≡ run old events
Performs {E = E} run events old (Err memory) new = (first : List E) × IsPrefix first events × (new ≡ run old first)

-- ---- the two records after a round

-- Returns the states of a responder that a requester in this state may face.
abbrev pub faced_in : State → List State
faced_in states.Idle = states.Idle ∷ []
faced_in states.Pending = states.InProcess ∷ []
faced_in states.Conditional = states.Conditional ∷ states.InProcess ∷ []
faced_in states.CancelPending = states.CancelPending ∷ []
faced_in states.Cancelled = states.Cancelled ∷ []
faced_in states.NotSupplied = states.NotSupplied ∷ []
faced_in states.Shipped = states.Shipped ∷ []
faced_in states.Received = states.Shipped ∷ []
faced_in states.RenewPending = states.RenewPending ∷ []
faced_in states.NotReceivedOverdue = states.Overdue ∷ []
faced_in states.Overdue = states.Overdue ∷ []
faced_in states.RenewOverdue = states.RenewOverdue ∷ []
faced_in states.Recall = states.Recall ∷ []
faced_in states.Returned = states.Returned ∷ states.CheckedIn ∷ []
faced_in other = []

-- The two records are converged. Their states face each other, and no conditions are declined. A responder in SHIPPED
-- or later has the received mark exactly if the requester has issued a Received. The requester has the checked-in mark
-- exactly if the responder is in CHECKED-IN. The due dates are equal, unless the item was recalled or returned.
pub record HaveConverged (x : RequesterRecord) (y : ResponderRecord) : Type 0 where
  pub faced : is_among (faced_in x.state) y.state ≡ true
  pub undeclined : is_declined x ≡ false
  pub received : is_among later y.state ≡ true → y.received ≡ is_received_by x
  pub checked_in : x.checked_in ≡ is_among (states.CheckedIn ∷ []) y.state
  pub due : is_among (states.Recall ∷ states.Returned ∷ []) x.state ≡ false → x.due ≡ due_of y

-- The live records of both sides are converged.
abbrev pub AreConverged : Parties → Type 0
AreConverged w = Facing HaveConverged w.requester.live w.responder.live

-- The responder can answer a Conditional-Reply no: it has ended the request, or has a number left.
abbrev pub CanAnswer : Side → Type 0
CanAnswer side = (has_message_with is_end (issued_of side) ≡ true) ⊎ (length (issued_of side) < 255)

-- ---- two records that are not converged

-- Returns the states of a requester that a responder in this state may face.
abbrev pub facing_in : State → List State
facing_in states.Idle = states.Idle ∷ []
facing_in states.InProcess = states.Pending ∷ states.Conditional ∷ []
facing_in states.Conditional = states.Conditional ∷ []
facing_in states.CancelPending = states.CancelPending ∷ []
facing_in states.Cancelled = states.Cancelled ∷ []
facing_in states.NotSupplied = states.NotSupplied ∷ []
facing_in states.Shipped = states.Shipped ∷ states.Received ∷ []
facing_in states.RenewPending = states.RenewPending ∷ []
facing_in states.Overdue = states.NotReceivedOverdue ∷ states.Overdue ∷ []
facing_in states.RenewOverdue = states.RenewOverdue ∷ []
facing_in states.Recall = states.Recall ∷ []
facing_in states.Returned = states.Returned ∷ []
facing_in states.CheckedIn = states.Returned ∷ []
facing_in other = []

-- The two records are not converged. Each case gives one reason.
pub data HaveDiverged (x : RequesterRecord) (y : ResponderRecord) : Type 0 where
  -- The two states do not face each other.
  unfaced : is_among (facing_in y.state) x.state ≡ false → HaveDiverged x y
  -- The conditions were declined, and the requester is still in CONDITIONAL.
  declined : x.state ≡ states.Conditional → has_message_with declines x.issued ≡ true → HaveDiverged x y
  -- The item was received, and the responder lacks the mark. Or it was not, and the responder has the mark.
  unmarked : is_among later y.state ≡ true → has_message_with is_received x.issued ≡ true → y.received ≡ false → HaveDiverged x y
  unreceived : is_among later y.state ≡ true → has_message_with is_received x.issued ≡ false → y.received ≡ true
      → HaveDiverged x y
  -- The item was checked in, and the requester lacks the mark. Or it was not, and the requester has the mark.
  not_yet_checked_in : y.state ≡ states.CheckedIn → x.checked_in ≡ false → HaveDiverged x y
  checked_in_early : (y.state ≡ states.CheckedIn → ⊥) → x.checked_in ≡ true → HaveDiverged x y
  -- The due dates differ, and the item was neither recalled nor returned.
  due_apart : is_among (states.Recall ∷ states.Returned ∷ []) x.state ≡ false → (x.due ≡ due_of y → ⊥) →
      HaveDiverged x y
