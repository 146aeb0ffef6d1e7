-- These promises hold in every world of every run, and both sides may rely on them. They are this profile's own.
use Rattle.std.specs.Prelude.{◌≡◌, ◌⊎◌, ℕ, true, false, List, [], ◌∷◌, Option, Some, take}
use Rattle.ill_values.specs.Day.{Date}
use Rattle.ill_values.specs.declared.apdu.Apdu.{Apdu}
use Rattle.ill_values.specs.Body.{Body}
use Rattle.ill_values.specs.declared.apdu.BodyWith.TheVariants as types
use Rattle.ill_core.specs.declared.state.State.{State}
use Rattle.ill_core.specs.declared.state.State.TheVariants as states
use Rattle.ill_core.specs.declared.taking.Taking.TheVariants.{Taken, Repeat}
use Rattle.ill_core.specs.State.{is_among}
use Rattle.ill_core.specs.Dates.{is_before}
use Rattle.ill_values.specs.Bodies.{is_end, is_received, is_returned, accepts}
use Rattle.ill_core.specs.Issued.{message, has_message_with, last_of, number_of_end}
use Rattle.ill_core.specs.Requester.{RequesterRecord}
use Rattle.ill_core.specs.Requester as requester
use Rattle.ill_core.specs.RequesterEvidence.{replied_number, KeepsDue}
use Rattle.ill_core.specs.Responder.{ResponderRecord, due_of}
use Rattle.ill_core.specs.ResponderEvidence.{MayCancel, MayRenew, answered_number}
use Rattle.ill_record.specs.declared.side.Side.{Side}
use Rattle.ill_record.specs.declared.side.Side.TheVariants as sides
use Rattle.ill_record.specs.Side.{issued_of, state_of, due_date_of}
use Rattle.ill_record.specs.declared.role.Role.TheVariants.{Requester, Responder}
use Rattle.ill_world.specs.declared.event.Event.{Event}
use Rattle.ill_world.specs.declared.event.Event.TheVariants.{Deliver, Restart}
use Rattle.ill_words.specs.declared.outcome.Outcome.{Outcome}
use Rattle.ill_words.specs.declared.outcome.Outcome.TheVariants.{Answered}
use Rattle.ill_world.specs.World.{Party, Parties, run_of, happens, sent_message}
use Rattle.ill_world.specs.Safety.{OfBoth}

-- ---- one answer, and one end

-- If the messages m and n of `at` answer one number k, as `answered` tells, m is n.
abbrev pub AnswersOnce : (Body → Option ℕ) → (ℕ → Option Apdu) → Type 0
AnswersOnce answered at =
    (m n k : ℕ) (a b : Apdu) → at m ≡ Some a → at n ≡ Some b →
    answered a.body ≡ Some k → answered b.body ≡ Some k → m ≡ n

-- No two messages of the live side answer one number. Nor do two messages that were sent.
abbrev pub AnswersOnceBoth : (Body → Option ℕ) → Party → Type 0
AnswersOnceBoth answered p = AnswersOnce answered (message (issued_of p.live)) × AnswersOnce answered (sent_message p.sent)

-- No conditions have two replies, and no Cancel and no Renew has two answers. This holds of the live lists and of the
-- sent messages.
pub record EachAnsweredOnce (w : Parties) : Type 0 where
  pub conditions : AnswersOnceBoth replied_number w.requester
  pub cancels : AnswersOnceBoth (answered_number MayCancel) w.responder
  pub renewals : AnswersOnceBoth (answered_number MayRenew) w.responder

-- If message n of `side` ends the request, it is the last one that does. So no two messages end it.
abbrev pub EndsOnce : Side → Type 0
EndsOnce side =
    (n : ℕ) (a : Apdu) → message (issued_of side) n ≡ Some a → is_end a.body ≡ true →
    last_of number_of_end (issued_of side) ≡ Some n

-- ---- a requester and the responder that it faces

-- The first side is a requester's, the second a responder's, and `P` holds of their records.
abbrev pub Facing : (RequesterRecord → ResponderRecord → Type 0) → Side → Side → Type 0
Facing P (sides.Requester x) (sides.Responder y) = P x y
Facing P requester responder = ⊥

-- If a responder has conditions c as accepted, the requester has sent a Conditional-Reply yes to c. The live requester
-- has this message.
abbrev pub AcceptedBy : Parties → Side → Type 0
AcceptedBy w (sides.Responder y) =
    (c : ℕ) → y.accepted ≡ Some c → (n : ℕ) × (a : Apdu) × (sent_message w.requester.sent n ≡ Some a)
    × (message (issued_of w.requester.live) n ≡ Some a) × (accepts a.body ≡ Some c)
AcceptedBy w (sides.Requester x) = ⊥

-- If the requester has a due date, the responder has one that is not earlier.
abbrev pub IsNotLater : RequesterRecord → ResponderRecord → Type 0
IsNotLater x y = (d : Date) → x.due ≡ Some d → (e : Date) × (due_of y ≡ Some e) × (is_before e d ≡ false)

-- The claims of `x` and `y` on each other are right. If `y` is in RETURNED or CHECKED-IN, `x` is in RETURNED. If `y` is
-- in CANCELLED, `x` is in CANCEL-PENDING or CANCELLED. If `y` has the received mark, `x` has issued a Received. If `x`
-- has the checked-in mark, `y` is in CHECKED-IN.
pub record SaysTrue (x : RequesterRecord) (y : ResponderRecord) : Type 0 where
  pub returned : is_among (states.Returned ∷ states.CheckedIn ∷ []) y.state ≡ true → x.state ≡ states.Returned
  pub cancelled : y.state ≡ states.Cancelled →
      is_among (states.CancelPending ∷ states.Cancelled ∷ []) x.state ≡ true
  pub received : y.received ≡ true → has_message_with is_received x.issued ≡ true
  pub checked_in : x.checked_in ≡ true → y.state ≡ states.CheckedIn

-- ---- worlds

-- The sides of `w` agree. Each question has at most one answer, and the request at most one end. The requester has
-- accepted the conditions that the responder has as accepted. The due dates fit, and each record's claims on the other
-- side are right.
pub record Agrees (w : Parties) : Type 0 where
  pub answered : EachAnsweredOnce w
  pub ended : EndsOnce w.responder.live × EndsOnce w.responder.committed
  pub accepted : AcceptedBy w w.responder.live × AcceptedBy w w.responder.committed
  pub dates : OfBoth (Facing IsNotLater) w
  pub says : OfBoth (Facing SaysTrue) w

-- The sides agree in each world to which a prefix of `events` leads from `w`.
abbrev pub IsAgreeingRun : Parties → List Event → Type 0
IsAgreeingRun w events = (n : ℕ) → Agrees (run_of w (take n events))

-- ---- events

-- The requester is `old` before the event, and `new` after it. If `old` has a live due date, an event other than the
-- requester's restart keeps or raises it.
abbrev pub KeepsLiveDate : Event → Party → Party → Type 0
KeepsLiveDate (Restart Requester) old new = Unit {0}
KeepsLiveDate event old new = KeepsDue (due_date_of old.live) (due_date_of new.live)

-- The event leads from `old` to `new`. If the requester has a committed due date, the event keeps or raises it. Unless
-- the event is the requester's restart, it keeps or raises the live due date too.
abbrev pub KeepsDates : Parties → Event → Parties → Type 0
KeepsDates old event new =
    KeepsLiveDate event old.requester new.requester
    × KeepsDue (due_date_of old.requester.committed) (due_date_of new.requester.committed)

-- Returns the states to which an APDU that ends the request leads a requester: SHIPPED and later after a Shipped,
-- CANCELLED after a Cancel-Reply, and NOT-SUPPLIED after any other.
abbrev pub settled_by : Body → List State
settled_by (types.Shipped due) = requester.later
settled_by (types.CancelReply c is_yes) = states.Cancelled ∷ []
settled_by other = states.NotSupplied ∷ []

-- The outcome is Taken or a Repeat, and the side is in one of the states `among`.
abbrev pub Settles : List State → Outcome → Side → Type 0
Settles among outcome side =
    ((outcome ≡ Answered Taken) ⊎ (outcome ≡ Answered Repeat)) × (is_among among (state_of side) ≡ true)

-- The delivery of a sent message that ends the request is Taken or a Repeat. After it the requester is in one of the
-- states of this end (`settled_by`). The delivery of a sent Returned is Taken or a Repeat. After it the responder is in
-- RETURNED or CHECKED-IN.
abbrev pub Arrives : Parties → Event → Type 0
Arrives w (Deliver Requester n) =
    (a : Apdu) → sent_message w.responder.sent n ≡ Some a → is_end a.body ≡ true →
    Settles (settled_by a.body) (happens w (Deliver Requester n)).0
    (happens w (Deliver Requester n)).1.requester.live
Arrives w (Deliver Responder n) =
    (a : Apdu) → sent_message w.requester.sent n ≡ Some a → is_returned a.body ≡ true →
    Settles (states.Returned ∷ states.CheckedIn ∷ []) (happens w (Deliver Responder n)).0
    (happens w (Deliver Responder n)).1.responder.live
Arrives w event = Unit {0}
