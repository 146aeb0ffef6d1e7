-- These definitions state the changes that an event of desks may make, and the sides that it reaches.
use Rattle.std.specs.Prelude.{◌≡◌, nat_lt, Bool, true, false, length, Option, Some, None}
use Rattle.ill_values.specs.TxnId.{Qualifiers}
use Rattle.ill_values.specs.declared.apdu.Apdu.{Apdu}
use Rattle.ill_values.specs.Bodies.{is_ill_request}
use Rattle.ill_record.specs.declared.side.Action.TheVariants as actions
use Rattle.ill_record.specs.declared.side.Side.{Side}
use Rattle.ill_record.specs.Side.{other, begins}
use Rattle.ill_record.specs.Sides.{side_with}
use Rattle.ill_saved.specs.Holdings.{DeskEntry}
use Rattle.ill_saved.specs.ManySides.{found_by, txn_held}
use Rattle.ill_world.specs.declared.event.DeskEvent.{DeskEvent}
use Rattle.ill_world.specs.declared.event.DeskEvent.TheVariants.{Wish, Deed, Send, Deliver}
use Rattle.ill_words.specs.declared.outcome.DeskOutcome.{DeskOutcome}
use Rattle.ill_words.specs.declared.outcome.DeskOutcome.TheVariants.{Plain, NoSuchTransaction, DeskFull}
use Rattle.ill_world.specs.World.{Party, Parties, party, sent_message}
use Rattle.ill_world.specs.Changes.{MayChange, OnlyCommittedChanges}
use Rattle.ill_world.specs.Desks.{Sending, DeskParty, DeskParties, txn_sent, sent_for, desks_happen}

-- `shown` has the held side of `txn`, its committed side and its sent messages, if the desk has them.
pub record ProjectsTo (p : DeskParty) (txn : Qualifiers) (shown : Party) : Type 0 where
  pub live : (held : DeskEntry) → found_by txn_held txn p.live.held ≡ Some held →
      (shown.live ≡ held.side) × (shown.released ≡ held.released)
  pub committed : (side : Side) → side_with txn p.committed.sides ≡ Some side → shown.committed ≡ side
  pub sent : (sending : Sending) → found_by txn_sent txn p.sent ≡ Some sending → shown.sent ≡ sending.sent

-- The outcome is an outcome of the two-party model: neither NoSuchTransaction nor DeskFull.
abbrev pub IsPlain : DeskOutcome → Type 0
IsPlain (Plain outcome) = Unit {0}
IsPlain other = ⊥

-- If a side is held, the event reaches this side: the outcome is plain. If none is held, the event reaches a new side
-- if `may_begin` and `has_room` are true. If only `may_begin` is true, the outcome is DeskFull. If `may_begin` is
-- false, it is NoSuchTransaction.
abbrev pub Reaches : Bool → Bool → Option DeskEntry → DeskOutcome → Type 0
Reaches may_begin has_room (Some held) outcome = IsPlain outcome
Reaches true true None outcome = IsPlain outcome
Reaches true false None outcome = outcome ≡ DeskFull
Reaches false has_room None outcome = outcome ≡ NoSuchTransaction

-- `Reaches` holds of an event in `txn` at desk `p`. The desk has room if it holds fewer than 1,000 sides.
abbrev pub ReachesAt : Bool → DeskParty → Qualifiers → DeskOutcome → Type 0
ReachesAt may_begin p txn outcome =
    Reaches may_begin (nat_lt (length p.live.held) 1000) (found_by txn_held txn p.live.held) outcome

-- `ReachesAt` holds of an event that names a transaction, at its desk. Only a Request, and an ILL-Request that was
-- sent, may begin a new side. Nothing is said of the delivery of a message that was not sent. An event of a whole desk
-- has a plain outcome.
abbrev pub ReachesSide : DeskParties → DeskEvent → Type 0
ReachesSide w (Wish txn wish) =
    ReachesAt (begins (actions.Wish wish)) w.requester txn (desks_happen w (Wish txn wish)).0
ReachesSide w (Deed txn deed today) = ReachesAt false w.responder txn (desks_happen w (Deed txn deed today)).0
ReachesSide w (Send who txn n) = ReachesAt false (party w who) txn (desks_happen w (Send who txn n)).0
ReachesSide w (Deliver who txn n) =
    (a : Apdu) → sent_message (sent_for txn (party w (other who)).sent) n ≡ Some a →
    ReachesAt (is_ill_request a.body) (party w who) txn (desks_happen w (Deliver who txn n)).0
ReachesSide w event = IsPlain (desks_happen w event).0

-- The outcome allows the change of the projection. An event that reaches no side changes nothing.
abbrev pub DeskMayChange : DeskOutcome → Parties → Parties → Type 0
DeskMayChange (Plain outcome) old new = MayChange OnlyCommittedChanges outcome old new
DeskMayChange other old new = new ≡ old
