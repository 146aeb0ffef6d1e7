-- A round of two desks is a round of both sides in each transaction that a desk holds. It is this profile's own.
use Rattle.std.specs.Prelude.{List, ◌∷◌, ◌++◌, length, map, flat_map}
use Rattle.ill_record.specs.declared.side.Side.{Side}
use Rattle.ill_record.specs.Side.{issued_of, txn_of}
use Rattle.ill_saved.specs.ManySides.{sides_held}
use Rattle.ill_record.specs.declared.role.Role.{Role}
use Rattle.ill_record.specs.declared.role.Role.TheVariants.{Requester, Responder}
use Rattle.ill_world.specs.declared.event.DeskEvent.{DeskEvent}
use Rattle.ill_world.specs.declared.event.DeskEvent.TheVariants.{Save}
use Rattle.ill_world.specs.World.{party}
use Rattle.ill_world.specs.Desks.{DeskParties, desks_run}
use Rattle.ill_world.specs.DeskScript.{in_txn}
use Rattle.ill_world.specs.Round.{sends_and_delivers}

-- Returns a Send and a Deliver for each message of `side`, in its transaction.
abbrev pub passes_side : Role → Side → List DeskEvent
passes_side who side = map (in_txn (txn_of side)) (sends_and_delivers who 1 (length (issued_of side)))

-- Returns the save of desk `who`, and then events that pass on the messages of `sides`, side after side.
abbrev pub saves_and_passes : Role → List Side → List DeskEvent
saves_and_passes who sides = Save who ∷ flat_map (passes_side who) sides

-- Returns the save of desk `who`, and then events that pass on all messages of all sides that it holds.
abbrev pub desk_half_of : Role → DeskParties → List DeskEvent
desk_half_of who w = saves_and_passes who (sides_held (party w who).live).sides

-- Returns the events of a round: the half of the requester's desk, and then that of the responder's.
abbrev pub desk_round_of : DeskParties → List DeskEvent
desk_round_of w = desk_half_of Requester w ++ desk_half_of Responder (desks_run w (desk_half_of Requester w))
