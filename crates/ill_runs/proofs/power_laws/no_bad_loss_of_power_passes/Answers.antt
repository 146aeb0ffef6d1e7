-- Proves the clauses of `no_bad_loss_of_power_passes` (`src/power_laws.rt`).
use Rattle.ill_world.specs.World.{party}
use Rattle.ill_runs.specs.Libraries.{first_libraries, libraries_after}
use Rattle.ill_runs.specs.Power.{desks_of, first_powered_desks, power_run}
use Rattle.ill_runs.proofs.BadLibraries.{none_forgotten}
use Rattle.ill_runs.proofs.BadPower.{none_cuts_so, none_starts_so}
use Rattle.ill_runs.proofs.PowerRuns.{run_forgets_none}
use Rattle.ill_runs.proofs.power_laws.no_bad_loss_of_power_passes.Goals as goal

pub returns-clause-starts : goal.returns-clause-starts
returns-clause-starts c = none_starts_so

pub returns-clause-cuts : goal.returns-clause-cuts
returns-clause-cuts c = none_cuts_so

-- Some events alone lead to the desks, and no desk of the model forgets.
pub returns-clause-sent : goal.returns-clause-sent
returns-clause-sent c = λ happened may forgets.
    let run = c.each_run_through_losses_of_power_is_a_run.ensures happened may in
    run_forgets_none c.desks_stand.ensures.after c.desks_stand.ensures.first
    (desks_of (power_run first_powered_desks happened)) run.0 run.1 forgets

pub returns-clause-left : goal.returns-clause-left
returns-clause-left c = λ later who is forgets.
    none_forgotten (party (libraries_after first_libraries later) who) forgets
    (c.each_history_through_losses_of_power_is_a_history.ensures.left later is who)
