-- Answers the contract of `no_bad_event_passes` (`src/laws.rt`).
use Rattle.ill_world.proofs.BadWorlds.{no_date_taken_back, none_in_vain}
use Rattle.ill_world.proofs.laws.no_bad_event_passes.Goals as goal

pub returns-clause-dates : goal.returns-clause-dates
returns-clause-dates c = no_date_taken_back

pub returns-clause-arrives : goal.returns-clause-arrives
returns-clause-arrives c = none_in_vain
