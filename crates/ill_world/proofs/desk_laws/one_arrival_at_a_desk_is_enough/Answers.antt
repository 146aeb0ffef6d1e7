-- Answers the contract of `one_arrival_at_a_desk_is_enough` (`src/desk_laws.rt`).
use Rattle.ill_world.proofs.DeskArrivals.{arrives_at}
use Rattle.ill_world.proofs.desk_laws.one_arrival_at_a_desk_is_enough.Goals as goal

pub returns : goal.returns
returns c = arrives_at c.desk_events_are_events.ensures c.desks_reach_what_they_hold.ensures c.one_arrival_is_enough.ensures
