-- These are the events of two desks that belong to a transaction, and events that no run may have. By the laws the
-- definitions on desks take the former, and exclude the latter.
use Rattle.std.specs.Prelude.{◌≡◌, ◌⊎◌, ℕ, nat_lt, Bool, true, false, List, [], ◌∷◌, length, Some, None}
use Rattle.ill_values.specs.Day.{Date}
use Rattle.ill_values.specs.TxnId.{Qualifiers}
use Rattle.ill_values.specs.declared.apdu.Apdu.{Apdu}
use Rattle.ill_values.specs.Body.{Body}
use Rattle.ill_values.specs.declared.apdu.BodyWith.TheVariants as bodies
use Rattle.ill_values.specs.declared.apdu.AnswerResult.{AnswerResult}
use Rattle.ill_core.specs.declared.state.State.{State}
use Rattle.ill_core.specs.declared.state.State.TheVariants as states
use Rattle.ill_values.specs.Bodies.{is_final, is_ill_request}
use Rattle.ill_core.specs.declared.requester.Wish.{Wish as RequesterWish}
use Rattle.ill_core.specs.declared.responder.Deed.{Deed as ResponderDeed}
use Rattle.ill_core.specs.Requester.{later}
use Rattle.ill_record.specs.declared.role.Role.{Role}
use Rattle.ill_record.specs.declared.role.Role.TheVariants.{Requester, Responder}
use Rattle.ill_record.specs.declared.side.Action.TheVariants as actions
use Rattle.ill_record.specs.declared.side.Side.{Side}
use Rattle.ill_record.specs.Side.{other, begins}
use Rattle.ill_record.specs.Sides.{side_with}
use Rattle.ill_saved.specs.Holdings.{DeskEntry}
use Rattle.ill_saved.specs.ManySides.{found_by, txn_held, held_for}
use Rattle.ill_world.specs.declared.event.DeskEvent.{DeskEvent}
use Rattle.ill_world.specs.declared.event.DeskEvent.TheVariants.{Wish, Deed, Send, Deliver}
use Rattle.ill_words.specs.declared.outcome.DeskOutcome.{DeskOutcome}
use Rattle.ill_words.specs.declared.outcome.DeskOutcome.TheVariants.{Plain, NoSuchTransaction, DeskFull}
use Rattle.ill_world.specs.World.{Party, Parties, party, who_of, happens, sent_message}
use Rattle.ill_world.specs.Desks.{Sending, DeskParty, DeskParties, plain, txn_sent, sent_for, desks_happen, project}
use Rattle.ill_world.specs.Desks.{is_event_of}
use Rattle.ill_world.specs.BadWorlds.{IsUnheeded}

-- ---- the events of a transaction

-- The event names `txn`.
abbrev pub Names : Qualifiers → DeskEvent → Type 0
Names txn (Wish named wish) = named ≡ txn
Names txn (Deed named deed today) = named ≡ txn
Names txn (Send who named n) = named ≡ txn
Names txn (Deliver who named n) = named ≡ txn
Names txn other = ⊥

-- The outcome is NoSuchTransaction or DeskFull: the event reaches no side.
abbrev pub IsNotReached : DeskOutcome → Type 0
IsNotReached outcome = (outcome ≡ NoSuchTransaction) ⊎ (outcome ≡ DeskFull)

-- The event names a transaction that its desk holds, and its outcome is NoSuchTransaction or DeskFull.
abbrev pub MissesHeld : DeskParties → DeskEvent → Type 0
MissesHeld w event =
    (txn : Qualifiers) × (held : DeskEntry) × Names txn event
    × (found_by txn_held txn (party w (who_of (plain event))).live.held ≡ Some held)
    × IsNotReached (desks_happen w event).0

-- Returns the desk to which the event happens.
abbrev pub desk_of : DeskParties → DeskEvent → DeskParty
desk_of w event = party w (who_of (plain event))

-- The event names `txn`, and `may` is true if the event may begin a side. Only a Request may, and the delivery of an
-- ILL-Request that was sent.
pub data MayBegin (w : DeskParties) (txn : Qualifiers) (may : Bool) : DeskEvent → Type 0 where
  by_wish : (wish : RequesterWish) → begins (actions.Wish wish) ≡ may → MayBegin w txn may (Wish txn wish)
  by_deed : (deed : ResponderDeed) (today : Date) → may ≡ false → MayBegin w txn may (Deed txn deed today)
  by_sending : (who : Role) (n : ℕ) → may ≡ false → MayBegin w txn may (Send who txn n)
  by_delivery : (who : Role) (n : ℕ) (a : Apdu) → sent_message (sent_for txn (party w (other who)).sent) n ≡ Some a →
      is_ill_request a.body ≡ may → MayBegin w txn may (Deliver who txn n)

-- The event has a wrong outcome. No side of its transaction is held, or the event is one of a whole desk. Each case
-- gives one reason.
pub data MissesNew (w : DeskParties) (event : DeskEvent) : Type 0 where
  -- It may begin a side of a transaction, and there is room. But it reaches none.
  begins_none : (txn : Qualifiers) → MayBegin w txn true event →
      found_by txn_held txn (desk_of w event).live.held ≡ None →
      nat_lt (length (desk_of w event).live.held) 1000 ≡ true → IsNotReached (desks_happen w event).0 → MissesNew w event
  -- It may begin one, and the desk is full. But the outcome is not DeskFull.
  overfills : (txn : Qualifiers) → MayBegin w txn true event →
      found_by txn_held txn (desk_of w event).live.held ≡ None →
      nat_lt (length (desk_of w event).live.held) 1000 ≡ false → ((desks_happen w event).0 ≡ DeskFull → ⊥) →
      MissesNew w event
  -- It may begin none. But the outcome is not NoSuchTransaction.
  finds_one : (txn : Qualifiers) → MayBegin w txn false event →
      found_by txn_held txn (desk_of w event).live.held ≡ None →
      ((desks_happen w event).0 ≡ NoSuchTransaction → ⊥) → MissesNew w event
  -- It is of a whole desk, and its outcome says that it was not reached.
  misses_desk : ((txn : Qualifiers) → Names txn event → ⊥) → IsNotReached (desks_happen w event).0 → MissesNew w event

-- The outcome is NoSuchTransaction or DeskFull, and the projection has changed.
abbrev pub ChangesUnreached : DeskOutcome → Parties → Parties → Type 0
ChangesUnreached outcome old new = IsNotReached outcome × (new ≡ old → ⊥)

-- ---- projections

-- `shown` lacks something that desk `p` holds, is committed or has sent in `txn`.
pub data Hides (p : DeskParty) (txn : Qualifiers) (shown : Party) : Type 0 where
  hides_side : (held : DeskEntry) → found_by txn_held txn p.live.held ≡ Some held → (shown.live ≡ held.side → ⊥) →
      Hides p txn shown
  hides_release : (held : DeskEntry) → found_by txn_held txn p.live.held ≡ Some held →
      (shown.released ≡ held.released → ⊥) → Hides p txn shown
  hides_committed : (side : Side) → side_with txn p.committed.sides ≡ Some side → (shown.committed ≡ side → ⊥) →
      Hides p txn shown
  hides_sent : (sending : Sending) → found_by txn_sent txn p.sent ≡ Some sending → (shown.sent ≡ sending.sent → ⊥) →
      Hides p txn shown

-- The event of desks is not seen in `txn` as `Projects` says.
pub data IsMisseen (txn : Qualifiers) (w : DeskParties) (event : DeskEvent) : Type 0 where
  -- It is an event of `txn`. But its outcome, or the projection after it, is not that of the event of two parties.
  other_outcome : is_event_of txn w event ≡ true →
      ((desks_happen w event).0 ≡ Plain (happens (project txn w) (plain event)).0 → ⊥) → IsMisseen txn w event
  other_world : is_event_of txn w event ≡ true →
      (project txn (desks_happen w event).1 ≡ (happens (project txn w) (plain event)).1 → ⊥) → IsMisseen txn w event
  -- It is no event of `txn`, and changes the projection.
  no_event : is_event_of txn w event ≡ false → (project txn (desks_happen w event).1 ≡ project txn w → ⊥) →
      IsMisseen txn w event

-- ---- deliveries

-- The APDU ends the request, and must lead the requester to one of these states.
pub data EndsIn : Body → List State → Type 0 where
  shipped : (due : Date) → EndsIn (bodies.Shipped due) later
  cancelled : (c : ℕ) → EndsIn (bodies.CancelReply c true) (states.Cancelled ∷ [])
  expired : EndsIn bodies.Expired (states.NotSupplied ∷ [])
  refused : (answer : AnswerResult) → is_final answer ≡ true →
      EndsIn (bodies.IllAnswer answer) (states.NotSupplied ∷ [])

-- The delivery does not reach its transaction, or `IsUnheeded` holds of its outcome and the side.
abbrev pub IsUnheededAt : List State → DeskOutcome → Side → Type 0
IsUnheededAt among (Plain outcome) side = IsUnheeded among outcome side
IsUnheededAt among other side = Unit {0}

-- A message sent in a transaction arrives in vain: `IsUnheededAt` holds after its delivery. The message ends the
-- request and comes to the requester's desk, or is a Returned and comes to the responder's.
pub data ArrivesInVainAt (w : DeskParties) : DeskEvent → Type 0 where
  end_in_vain : (txn : Qualifiers) (n : ℕ) (a : Apdu) (among : List State) →
      sent_message (sent_for txn w.responder.sent) n ≡ Some a → EndsIn a.body among →
      IsUnheededAt among (desks_happen w (Deliver Requester txn n)).0
      (held_for txn (desks_happen w (Deliver Requester txn n)).1.requester.live).side →
      ArrivesInVainAt w (Deliver Requester txn n)
  returned_in_vain : (txn : Qualifiers) (n : ℕ) (a : Apdu) →
      sent_message (sent_for txn w.requester.sent) n ≡ Some a → a.body ≡ bodies.Returned →
      IsUnheededAt (states.Returned ∷ states.CheckedIn ∷ []) (desks_happen w (Deliver Responder txn n)).0
      (held_for txn (desks_happen w (Deliver Responder txn n)).1.responder.live).side →
      ArrivesInVainAt w (Deliver Responder txn n)
