-- Proves the clauses `room`, `run` and `unheld` of `deliveries_find_room` (`src/desk_laws.rt`). The requester's desk
-- holds each transaction of the responder's desk, by `finds_room`.
use Rattle.ill_world.specs.Desks.{first_desks, desks_run}
use Rattle.ill_world.proofs.Desks.{desks_stand_on}
use Rattle.ill_world.proofs.DeskCounts.{finds_room, unheld_is_not_sent}
use Rattle.ill_world.proofs.desk_laws.deliveries_find_room.Goals as goal

pub returns-clause-room : goal.returns-clause-room
returns-clause-room c = finds_room c.desks_reach_what_they_hold.ensures

-- A run keeps `DesksInvariant`, so that `finds_room` holds after it.
pub returns-clause-run : goal.returns-clause-run
returns-clause-run c =
    λ events who txn n.
    finds_room c.desks_reach_what_they_hold.ensures (desks_run first_desks events) who txn n
    (desks_stand_on c.desks_stand.ensures.after first_desks events c.desks_stand.ensures.first)

pub returns-clause-unheld : goal.returns-clause-unheld
returns-clause-unheld c = unheld_is_not_sent
