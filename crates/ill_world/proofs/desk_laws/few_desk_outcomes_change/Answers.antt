-- Answers the contract of `few_desk_outcomes_change` (`src/desk_laws.rt`).
use Rattle.ill_world.proofs.Desks.{desk_changes}
use Rattle.ill_world.proofs.desk_laws.few_desk_outcomes_change.Goals as goal

pub returns : goal.returns
returns c = desk_changes c.desk_events_are_events.ensures c.few_outcomes_change.ensures
