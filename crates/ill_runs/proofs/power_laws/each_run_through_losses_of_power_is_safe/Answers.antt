-- Proves the contract of `each_run_through_losses_of_power_is_safe` (`src/power_laws.rt`). The events alone make a safe
-- run.
use Rattle.ill_runs.specs.Power.{desks_of, first_powered_desks, power_run}
use Rattle.ill_runs.proofs.PowerRuns.{safe_there}
use Rattle.ill_runs.proofs.power_laws.each_run_through_losses_of_power_is_safe.Goals as goal

pub returns : goal.returns
returns c =
    λ happened may txn.
    let run = c.each_run_through_losses_of_power_is_a_run.ensures happened may in
    safe_there c.every_desk_run_is_safe.ensures (desks_of (power_run first_powered_desks happened)) run.0 run.1 txn
