-- Answers the contract of `due_dates_stay_at_desks` (`src/desk_laws.rt`).
use Rattle.ill_world.proofs.Desks.{desk_dates}
use Rattle.ill_world.proofs.desk_laws.due_dates_stay_at_desks.Goals as goal

pub returns : goal.returns
returns c = desk_dates c.desk_events_are_events.ensures c.due_dates_stay.ensures
