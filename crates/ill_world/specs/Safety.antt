-- Safety holds in every world of every run. The responder's record bears out the end, the Shipped and the due date of
-- the requester's record. Safety is this profile's own.
use Rattle.std.specs.Prelude.{◌≡◌, ℕ, true, List, Some, take}
use Rattle.ill_values.specs.Day.{Date}
use Rattle.ill_values.specs.declared.apdu.Apdu.{Apdu}
use Rattle.ill_core.specs.declared.state.State.TheVariants.{Cancelled, NotSupplied}
use Rattle.ill_core.specs.State.{is_among}
use Rattle.ill_values.specs.Bodies.{is_shipped, grant_in}
use Rattle.ill_core.specs.Issued.{message, has_message_with}
use Rattle.ill_core.specs.Requester.{later}
use Rattle.ill_record.specs.declared.side.Side.{Side}
use Rattle.ill_record.specs.Side.{state_of, due_date_of, issued_of}
use Rattle.ill_world.specs.declared.event.Event.{Event}
use Rattle.ill_world.specs.World.{Parties, run_of}

-- ---- a requester's side, and the responder's that it faces

-- If the requester is in CANCELLED or NOT-SUPPLIED, the responder is in this state too.
abbrev pub EndsAlike : Side → Side → Type 0
EndsAlike requester responder =
    (state_of requester ≡ Cancelled → state_of responder ≡ Cancelled)
    × (state_of requester ≡ NotSupplied → state_of responder ≡ NotSupplied)

-- If the requester is in SHIPPED or later, the responder has issued a Shipped.
abbrev pub WasShipped : Side → Side → Type 0
WasShipped requester responder =
    is_among later (state_of requester) ≡ true → has_message_with is_shipped (issued_of responder) ≡ true

-- One of `apdus` is a Shipped or a Renew-Answer yes with the date `due`.
abbrev pub Grants : List Apdu → Date → Type 0
Grants apdus due = (n : ℕ) × (a : Apdu) × (message apdus n ≡ Some a) × (grant_in a.body ≡ Some due)

-- If the requester has a due date, the responder has granted this date.
abbrev pub WasGranted : Side → Side → Type 0
WasGranted requester responder =
    (due : Date) → due_date_of requester ≡ Some due → Grants (issued_of responder) due

-- ---- worlds

-- `P` holds of the requester's live and committed side, each with the responder's live and committed side.
pub record OfBoth (P : Side → Side → Type 0) (w : Parties) : Type 0 where
  pub live : P w.requester.live w.responder.live
  pub live_committed : P w.requester.live w.responder.committed
  pub committed_live : P w.requester.committed w.responder.live
  pub committed : P w.requester.committed w.responder.committed

-- A world is safe: `EndsAlike`, `WasShipped` and `WasGranted` hold of all four pairs of sides.
pub record Safe (w : Parties) : Type 0 where
  pub ends : OfBoth EndsAlike w
  pub shipped : OfBoth WasShipped w
  pub granted : OfBoth WasGranted w

-- Each world to which a prefix of `events` leads from `w` is safe.
abbrev pub IsSafeRun : Parties → List Event → Type 0
IsSafeRun w events = (n : ℕ) → Safe (run_of w (take n events))
