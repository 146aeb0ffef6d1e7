-- Proves the clauses `safe`, `agrees` and `next` of `desk_runs_have_each_world` (`src/desk_laws.rt`). A run of joined
-- events goes through the world after the first of them.
use Rattle.ill_world.specs.Desks.{desks_happen, project}
use Rattle.ill_world.specs.Safety.{Safe}
use Rattle.ill_world.specs.Agreement.{Agrees}
use Rattle.ill_world.proofs.Runs.{run_prefix}
use Rattle.ill_world.proofs.BadDesks.{runs_go_on}
use Rattle.ill_world.proofs.desk_laws.desk_runs_have_each_world.Goals as goal

pub returns-clause-safe : goal.returns-clause-safe
returns-clause-safe c = λ w before after txn each. run_prefix desks_happen (λ v. Safe (project txn v)) w before after (each txn)

pub returns-clause-agrees : goal.returns-clause-agrees
returns-clause-agrees c = λ w before after txn each.
    run_prefix desks_happen (λ v. Agrees (project txn v)) w before after (each txn)

pub returns-clause-next : goal.returns-clause-next
returns-clause-next c = runs_go_on
