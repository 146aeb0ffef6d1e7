-- Proves the contract of `nothing_leaves_uncopied` (`src/laws.rt`).
use Rattle.ill_room.specs.Sealed.{PutsWith}
use Rattle.ill_exchange.proofs.BadRooms.{none_sends}
use Rattle.ill_exchange.proofs.laws.nothing_leaves_uncopied.Goals as goal

-- By `none_sends` no sending into the outlet is bad, sealed or not.
pub returns : goal.returns
returns g c sealing = none_sends (PutsWith g.O.Outgoing.after sealing)
