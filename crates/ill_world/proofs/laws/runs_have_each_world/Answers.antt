-- Proves the clauses `safe` and `agrees` of `runs_have_each_world` (`src/laws.rt`). A run of joined events goes through
-- the world after the first of them.
use Rattle.ill_world.specs.World.{happens}
use Rattle.ill_world.specs.Safety.{Safe}
use Rattle.ill_world.specs.Agreement.{Agrees}
use Rattle.ill_world.proofs.Runs.{run_prefix}
use Rattle.ill_world.proofs.laws.runs_have_each_world.Goals as goal

pub returns-clause-safe : goal.returns-clause-safe
returns-clause-safe c = run_prefix happens Safe

pub returns-clause-agrees : goal.returns-clause-agrees
returns-clause-agrees c = run_prefix happens Agrees
