-- Proves the contract of `each_run_through_losses_of_power_is_a_run` (`src/power_laws.rt`). The lemma
-- `powered_run_is_run` gives the events.
use Rattle.ill_runs.proofs.PowerRuns.{powered_run_is_run}
use Rattle.ill_runs.proofs.power_laws.each_run_through_losses_of_power_is_a_run.Goals as goal

pub returns : goal.returns
returns c = powered_run_is_run
