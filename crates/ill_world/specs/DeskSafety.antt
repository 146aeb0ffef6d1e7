-- In every run of two desks each transaction has the promises of a world of two parties. They are this profile's own.
use Rattle.std.specs.Prelude.{◌≡◌, ℕ, true, List, ◌∷◌, [], Some, take}
use Rattle.ill_values.specs.TxnId.{Qualifiers}
use Rattle.ill_values.specs.declared.apdu.Apdu.{Apdu}
use Rattle.ill_core.specs.declared.state.State.{State}
use Rattle.ill_core.specs.declared.state.State.TheVariants as states
use Rattle.ill_values.specs.Bodies.{is_end, is_returned}
use Rattle.ill_record.specs.declared.role.Role.{Role}
use Rattle.ill_record.specs.declared.role.Role.TheVariants.{Requester, Responder}
use Rattle.ill_record.specs.declared.side.Side.{Side}
use Rattle.ill_saved.specs.ManySides.{held_for}
use Rattle.ill_world.specs.declared.event.DeskEvent.{DeskEvent}
use Rattle.ill_world.specs.declared.event.DeskEvent.TheVariants.{Deliver}
use Rattle.ill_words.specs.declared.outcome.DeskOutcome.{DeskOutcome}
use Rattle.ill_words.specs.declared.outcome.DeskOutcome.TheVariants.{Plain}
use Rattle.ill_world.specs.World.{sent_message, first_world, run_of}
use Rattle.ill_world.specs.Desks.{DeskParty, DeskParties, first_desks, sent_for, desks_happen, desks_run, project, events_for}
use Rattle.ill_world.specs.DeskCounts.{DesksCount}
use Rattle.ill_world.specs.Safety.{Safe}
use Rattle.ill_world.specs.Agreement.{Agrees, Settles, settled_by}
use Rattle.ill_world.specs.Invariant.{Invariant}

-- ---- the invariant of two desks

-- The desk has this role, and so have its committed sides.
abbrev pub IsDeskOf : Role → DeskParty → Type 0
IsDeskOf role p = (p.live.role ≡ role) × (p.committed.role ≡ role)

-- Each desk has its role, and `DesksCount` holds. The projection to each transaction satisfies the invariant.
pub record DesksInvariant (w : DeskParties) : Type 0 where
  pub requester : IsDeskOf Requester w.requester
  pub responder : IsDeskOf Responder w.responder
  pub counts : DesksCount w
  pub each : (txn : Qualifiers) → Invariant txn (project txn w)

-- ---- runs

-- The desks hold nothing before `events`. Afterwards the projection to each transaction is the world after the events
-- of this transaction.
abbrev pub IsRunOfEach : List DeskEvent → Type 0
IsRunOfEach events =
    (txn : Qualifiers) →
    project txn (desks_run first_desks events) ≡ run_of (first_world txn) (events_for txn first_desks events)

-- The projection to each transaction is safe after each prefix of `events`, from `w` on.
abbrev pub IsSafeDeskRun : DeskParties → List DeskEvent → Type 0
IsSafeDeskRun w events = (txn : Qualifiers) (n : ℕ) → Safe (project txn (desks_run w (take n events)))

-- Both sides of each transaction agree after each prefix of `events`, from `w` on.
abbrev pub IsAgreeingDeskRun : DeskParties → List DeskEvent → Type 0
IsAgreeingDeskRun w events = (txn : Qualifiers) (n : ℕ) → Agrees (project txn (desks_run w (take n events)))

-- ---- events

-- The message reaches its transaction, and is Taken or a Repeat. The side is in one of the states `among`.
abbrev pub SettlesAt : List State → DeskOutcome → Side → Type 0
SettlesAt among (Plain outcome) side = Settles among outcome side
SettlesAt among other side = ⊥

-- The delivery of a sent message that ends the request is Taken or a Repeat. After it the requester's side is in one of
-- the states of this end (`settled_by`). The delivery of a sent Returned is Taken or a Repeat. After it the responder's
-- side is in RETURNED or CHECKED-IN.
abbrev pub ArrivesAt : DeskParties → DeskEvent → Type 0
ArrivesAt w (Deliver Requester txn n) =
    let after = desks_happen w (Deliver Requester txn n) in
    (a : Apdu) → sent_message (sent_for txn w.responder.sent) n ≡ Some a → is_end a.body ≡ true →
    SettlesAt (settled_by a.body) after.0 (held_for txn after.1.requester.live).side
ArrivesAt w (Deliver Responder txn n) =
    let after = desks_happen w (Deliver Responder txn n) in
    (a : Apdu) → sent_message (sent_for txn w.requester.sent) n ≡ Some a → is_returned a.body ≡ true →
    SettlesAt (states.Returned ∷ states.CheckedIn ∷ []) after.0 (held_for txn after.1.responder.live).side
ArrivesAt w event = Unit {0}
