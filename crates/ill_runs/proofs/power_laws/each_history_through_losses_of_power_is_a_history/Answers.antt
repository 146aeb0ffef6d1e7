-- Proves the clauses of `each_history_through_losses_of_power_is_a_history` (`src/power_laws.rt`). Each command that
-- loses its power is a command, so the laws of histories hold.
use Rattle.ill_runs.specs.Libraries.{first_libraries}
use Rattle.ill_runs.proofs.CutOffLemmas.{powered_is_history, powered_is_shelf_history}
use Rattle.ill_runs.proofs.power_laws.each_history_through_losses_of_power_is_a_history.Goals as goal

pub returns-clause-history : goal.returns-clause-history
returns-clause-history c = powered_is_history c.a_command_that_loses_power_is_a_command.ensures

pub returns-clause-shelves : goal.returns-clause-shelves
returns-clause-shelves c = powered_is_shelf_history c.a_command_that_loses_power_is_a_command.ensures

pub returns-clause-safe : goal.returns-clause-safe
returns-clause-safe c = λ later is.
    c.each_history_is_safe.ensures later
    (powered_is_history c.a_command_that_loses_power_is_a_command.ensures first_libraries later is)

pub returns-clause-left : goal.returns-clause-left
returns-clause-left c = λ later is who.
    c.what_has_left_is_in_the_file.ensures later
    (powered_is_history c.a_command_that_loses_power_is_a_command.ensures first_libraries later is) who
