-- These are worlds that no run may lead to, and events that no world may have. Each case has its own fault. By the laws
-- such a world is not safe, or its sides do not agree. Such an event breaks a promise on events.
use Rattle.std.specs.Prelude.{◌≡◌, ◌⊎◌, ℕ, Bool, true, false, List, [], ◌∷◌, Option, Some}
use Rattle.ill_values.specs.Day.{Date}
use Rattle.ill_values.specs.declared.apdu.Apdu.{Apdu}
use Rattle.ill_values.specs.Body.{Body}
use Rattle.ill_values.specs.declared.apdu.BodyWith.TheVariants.{IllAnswer, ConditionalReply, CancelReply, Shipped, Returned}
use Rattle.ill_values.specs.declared.apdu.BodyWith.TheVariants.{RenewAnswer, Expired}
use Rattle.ill_values.specs.declared.apdu.AnswerResult.{AnswerResult}
use Rattle.ill_core.specs.declared.state.State.{State}
use Rattle.ill_core.specs.declared.state.State.TheVariants as states
use Rattle.ill_core.specs.declared.taking.Taking.TheVariants.{Taken, Repeat}
use Rattle.ill_core.specs.State.{is_among}
use Rattle.ill_core.specs.Dates.{is_before}
use Rattle.ill_values.specs.Bodies.{is_end, is_final, is_received, is_shipped, accepts, grant_in}
use Rattle.ill_core.specs.Issued.{message, has_message_with}
use Rattle.ill_core.specs.Requester.{RequesterRecord, later}
use Rattle.ill_core.specs.Responder.{ResponderRecord, due_of}
use Rattle.ill_record.specs.declared.side.Side.{Side}
use Rattle.ill_record.specs.declared.side.Side.TheVariants as sides
use Rattle.ill_record.specs.Side.{state_of, due_date_of, issued_of}
use Rattle.ill_record.specs.declared.role.Role.TheVariants.{Requester, Responder}
use Rattle.ill_world.specs.declared.event.Event.{Event}
use Rattle.ill_world.specs.declared.event.Event.TheVariants.{Deliver, Restart}
use Rattle.ill_words.specs.declared.outcome.Outcome.{Outcome}
use Rattle.ill_words.specs.declared.outcome.Outcome.TheVariants.{Answered}
use Rattle.ill_world.specs.World.{Party, Parties, happens, sent_message}

-- `side` is the live or the committed side of `p`.
abbrev pub Has : Party → Side → Type 0
Has p side = (p.live ≡ side) ⊎ (p.committed ≡ side)

-- `says` holds of the body of no message that `at` gives.
abbrev pub NoneSays : (ℕ → Option Apdu) → (Body → Type 0) → Type 0
NoneSays at says = (n : ℕ) (a : Apdu) → at n ≡ Some a → says a.body → ⊥

-- `this` and `that` hold of the bodies of two messages with different numbers.
abbrev pub TwoSay : (ℕ → Option Apdu) → (Body → Type 0) → (Body → Type 0) → Type 0
TwoSay at this that =
    (m n : ℕ) × (a b : Apdu) × (at m ≡ Some a) × (at n ≡ Some b) × (m ≡ n → ⊥) × this a.body × that b.body

-- ---- safety

-- The responder's record contradicts the requester's. Each case gives one reason.
pub data Contradicts (requester responder : Side) : Type 0 where
  -- The requester is in NOT-SUPPLIED or CANCELLED, and the responder is not.
  not_supplied : state_of requester ≡ states.NotSupplied →
      (state_of responder ≡ states.NotSupplied → ⊥) → Contradicts requester responder
  cancelled : state_of requester ≡ states.Cancelled →
      (state_of responder ≡ states.Cancelled → ⊥) → Contradicts requester responder
  -- The requester is in SHIPPED or later, and the responder has issued no Shipped.
  never_shipped : is_among later (state_of requester) ≡ true →
      has_message_with is_shipped (issued_of responder) ≡ false → Contradicts requester responder
  -- The requester has a due date that the responder has not granted.
  never_granted : (due : Date) → due_date_of requester ≡ Some due →
      NoneSays (message (issued_of responder)) (λ body. grant_in body ≡ Some due) → Contradicts requester responder

-- A record of the responder contradicts one of the requester.
pub data IsUnsafe (w : Parties) : Type 0 where
  contradicted : (requester responder : Side) → Has w.requester requester → Has w.responder responder →
      Contradicts requester responder → IsUnsafe w

-- ---- agreement

-- A claim of one record on the other side is wrong.
pub data Misleads (x : RequesterRecord) (y : ResponderRecord) : Type 0 where
  -- The requester's due date is after each due date that the responder has.
  due_later : (due : Date) → x.due ≡ Some due →
      ((granted : Date) → due_of y ≡ Some granted → is_before granted due ≡ true) → Misleads x y
  -- The responder is in RETURNED or CHECKED-IN, and the requester is not in RETURNED.
  not_returned : y.state ≡ states.Returned → (x.state ≡ states.Returned → ⊥) → Misleads x y
  checked_in_unreturned : y.state ≡ states.CheckedIn → (x.state ≡ states.Returned → ⊥) → Misleads x y
  -- The responder is in CANCELLED, and the requester is in neither CANCEL-PENDING nor CANCELLED.
  cancelled_unasked : y.state ≡ states.Cancelled → (x.state ≡ states.CancelPending → ⊥) →
      (x.state ≡ states.Cancelled → ⊥) → Misleads x y
  -- The responder has the received mark, and the requester has issued no Received.
  not_received : y.received ≡ true → has_message_with is_received x.issued ≡ false → Misleads x y
  -- The requester has the checked-in mark, and the responder is not in CHECKED-IN.
  not_checked_in : x.checked_in ≡ true → (y.state ≡ states.CheckedIn → ⊥) → Misleads x y

-- `at` gives the messages of the live side of `p`, or those that `p` has sent.
abbrev pub HasMessages : Party → (ℕ → Option Apdu) → Type 0
HasMessages p at = (at ≡ message (issued_of p.live)) ⊎ (at ≡ sent_message p.sent)

-- The sides of `w` do not agree. Each case gives one reason.
pub data Disagrees (w : Parties) : Type 0 where
  -- The requester has two replies to conditions k, or the responder two answers to Cancel k or to Renew k.
  conditions_twice : (at : ℕ → Option Apdu) (k : ℕ) (said again : Bool) → HasMessages w.requester at →
      TwoSay at (λ body. body ≡ ConditionalReply k said) (λ body. body ≡ ConditionalReply k again) → Disagrees w
  cancel_twice : (at : ℕ → Option Apdu) (k : ℕ) (said again : Bool) → HasMessages w.responder at →
      TwoSay at (λ body. body ≡ CancelReply k said) (λ body. body ≡ CancelReply k again) → Disagrees w
  renew_twice : (at : ℕ → Option Apdu) (k : ℕ) (due again : Option Date) → HasMessages w.responder at →
      TwoSay at (λ body. body ≡ RenewAnswer k due) (λ body. body ≡ RenewAnswer k again) → Disagrees w
  -- The responder has two messages that end the request.
  ended_twice : (responder : Side) → Has w.responder responder →
      TwoSay (message (issued_of responder)) (λ body. is_end body ≡ true) (λ body. is_end body ≡ true) → Disagrees w
  -- The responder has conditions as accepted. But the requester has sent no yes to them, or has no such yes in memory.
  never_accepted : (y : ResponderRecord) (c : ℕ) → Has w.responder (sides.Responder y) → y.accepted ≡ Some c →
      NoneSays (sent_message w.requester.sent) (λ body. accepts body ≡ Some c) → Disagrees w
  acceptance_forgotten : (y : ResponderRecord) (c : ℕ) → Has w.responder (sides.Responder y) → y.accepted ≡ Some c →
      NoneSays (message (issued_of w.requester.live)) (λ body. accepts body ≡ Some c) → Disagrees w
  -- A claim of one record on the other side is wrong.
  misled : (x : RequesterRecord) (y : ResponderRecord) → Has w.requester (sides.Requester x) →
      Has w.responder (sides.Responder y) → Misleads x y → Disagrees w

-- ---- events

-- The `old` due date exists, and the `new` one does not, or is earlier.
abbrev pub IsTakenBack : Option Date → Option Date → Type 0
IsTakenBack old new =
    (due : Date) × (old ≡ Some due) × ((now : Date) → new ≡ Some now → is_before now due ≡ true)

-- The event takes the requester's due date back. It is the live date and the event is not its restart, or it is the
-- committed date.
pub data TakesBack (old : Parties) (event : Event) (new : Parties) : Type 0 where
  in_memory : (event ≡ Restart Requester → ⊥) →
      IsTakenBack (due_date_of old.requester.live) (due_date_of new.requester.live) → TakesBack old event new
  in_store : IsTakenBack (due_date_of old.requester.committed) (due_date_of new.requester.committed) →
      TakesBack old event new

-- The outcome is neither Taken nor a Repeat, or the side is in none of the states `among`.
abbrev pub IsUnheeded : List State → Outcome → Side → Type 0
IsUnheeded among outcome side =
    ((outcome ≡ Answered Taken → ⊥) × (outcome ≡ Answered Repeat → ⊥)) ⊎ (is_among among (state_of side) ≡ false)

-- A sent message arrives in vain: `IsUnheeded` holds after its delivery. The message ends the request and comes to the
-- requester, or is a Returned and comes to the responder.
pub data ArrivesInVain (w : Parties) : Event → Type 0 where
  shipped_in_vain : (n : ℕ) (a : Apdu) (due : Date) → sent_message w.responder.sent n ≡ Some a →
      a.body ≡ Shipped due →
      IsUnheeded later (happens w (Deliver Requester n)).0 (happens w (Deliver Requester n)).1.requester.live →
      ArrivesInVain w (Deliver Requester n)
  cancelled_in_vain : (n : ℕ) (a : Apdu) (c : ℕ) → sent_message w.responder.sent n ≡ Some a →
      a.body ≡ CancelReply c true →
      IsUnheeded (states.Cancelled ∷ []) (happens w (Deliver Requester n)).0
      (happens w (Deliver Requester n)).1.requester.live → ArrivesInVain w (Deliver Requester n)
  expired_in_vain : (n : ℕ) (a : Apdu) → sent_message w.responder.sent n ≡ Some a → a.body ≡ Expired →
      IsUnheeded (states.NotSupplied ∷ []) (happens w (Deliver Requester n)).0
      (happens w (Deliver Requester n)).1.requester.live → ArrivesInVain w (Deliver Requester n)
  refused_in_vain : (n : ℕ) (a : Apdu) (answer : AnswerResult) → sent_message w.responder.sent n ≡ Some a →
      a.body ≡ IllAnswer answer → is_final answer ≡ true →
      IsUnheeded (states.NotSupplied ∷ []) (happens w (Deliver Requester n)).0
      (happens w (Deliver Requester n)).1.requester.live → ArrivesInVain w (Deliver Requester n)
  returned_in_vain : (n : ℕ) (a : Apdu) → sent_message w.requester.sent n ≡ Some a → a.body ≡ Returned →
      IsUnheeded (states.Returned ∷ states.CheckedIn ∷ []) (happens w (Deliver Responder n)).0
      (happens w (Deliver Responder n)).1.responder.live → ArrivesInVain w (Deliver Responder n)
