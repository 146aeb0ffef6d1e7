-- Proves the clauses `first`, `next` and `prefix` of `desk_traces_show_runs` (`src/desk_laws.rt`). Each event adds one
-- line at the end of the trace.
use Rattle.ill_world.specs.Desks.{first_desks}
use Rattle.ill_world.specs.DeskSimulation.{two_desks}
use Rattle.ill_script.proofs.Simulations.{trace_of_none}
use Rattle.ill_world.proofs.DeskSimulations.{desks_line, desks_prefix}
use Rattle.ill_world.proofs.desk_laws.desk_traces_show_runs.Goals as goal

pub returns-clause-first : goal.returns-clause-first
returns-clause-first c = trace_of_none two_desks 1 first_desks

pub returns-clause-next : goal.returns-clause-next
returns-clause-next c = desks_line

pub returns-clause-prefix : goal.returns-clause-prefix
returns-clause-prefix c = desks_prefix
