-- A night of two desks is a night of both sides in each transaction that a desk holds. It is this profile's own.
use Rattle.std.specs.Prelude.{Bool, false, List, ◌++◌, filter}
use Rattle.ill_record.specs.declared.side.Side.{Side}
use Rattle.ill_record.specs.Side.{txn_of}
use Rattle.ill_saved.specs.ManySides.{held_for, sides_held}
use Rattle.ill_record.specs.declared.role.Role.{Role}
use Rattle.ill_record.specs.declared.role.Role.TheVariants.{Requester, Responder}
use Rattle.ill_world.specs.declared.event.DeskEvent.{DeskEvent}
use Rattle.ill_world.specs.World.{party}
use Rattle.ill_world.specs.Desks.{DeskParties, desks_run}
use Rattle.ill_world.specs.DeskRound.{saves_and_passes}
use Rattle.ill_words.specs.Sending.{wants_sending}
use Rattle.ill_world.specs.Night.{asks}

-- Returns the save of desk `who`, and then events that pass on all messages of those sides that `wants` selects.
abbrev pub desk_half_if : (Side → Bool) → Role → DeskParties → List DeskEvent
desk_half_if wants who w = saves_and_passes who (filter wants (sides_held (party w who).live).sides)

-- Returns true if the requester's desk asks in the transaction of `side`.
abbrev pub is_asked_by : DeskParties → Side → Bool
is_asked_by w side = asks (held_for (txn_of side) w.requester.live).side

-- Returns the half of the requester's desk in a night.
abbrev pub desk_asking_half : DeskParties → List DeskEvent
desk_asking_half w = desk_half_if (wants_sending false) Requester w

-- Returns the events of a night: the half of the requester's desk, and then that of the responder's. A side of the
-- responder was asked if the requester's desk asks in its transaction.
abbrev pub desk_night_of : DeskParties → List DeskEvent
desk_night_of w =
    desk_asking_half w
    ++ desk_half_if (λ side. wants_sending (is_asked_by w side) side) Responder (desks_run w (desk_asking_half w))
