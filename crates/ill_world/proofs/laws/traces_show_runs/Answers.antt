-- Proves the clauses `first`, `next` and `prefix` of `traces_show_runs` (`src/laws.rt`). Each event adds one line at
-- the end of the trace.
use Rattle.ill_world.specs.World.{first_world}
use Rattle.ill_world.specs.Simulation.{two_sides}
use Rattle.ill_script.proofs.Simulations.{trace_of_none}
use Rattle.ill_world.proofs.SideTraces.{sides_line, sides_prefix}
use Rattle.ill_world.proofs.laws.traces_show_runs.Goals as goal

pub returns-clause-first : goal.returns-clause-first
returns-clause-first c = λ txn. trace_of_none two_sides 1 (first_world txn)

pub returns-clause-next : goal.returns-clause-next
returns-clause-next c = sides_line

pub returns-clause-prefix : goal.returns-clause-prefix
returns-clause-prefix c = sides_prefix
