-- Answers the contract of `desk_events_are_events` (`src/desk_laws.rt`).
use Rattle.ill_world.proofs.Desks.{desk_projects}
use Rattle.ill_world.proofs.desk_laws.desk_events_are_events.Goals as goal

pub returns : goal.returns
returns c = desk_projects c.rows_grow.ensures
    (record { requester = c.requester_is_quiet.ensures; responder = c.responder_is_quiet.ensures })
