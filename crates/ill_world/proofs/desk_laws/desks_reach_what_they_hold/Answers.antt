-- Answers the contract of `desks_reach_what_they_hold` (`src/desk_laws.rt`).
use Rattle.ill_world.proofs.Reaching.{reaches_side}
use Rattle.ill_world.proofs.desk_laws.desks_reach_what_they_hold.Goals as goal

pub returns : goal.returns
returns c = reaches_side
