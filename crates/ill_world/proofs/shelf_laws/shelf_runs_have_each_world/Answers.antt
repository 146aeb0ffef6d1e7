-- Proves the clauses `safe` and `agrees` of `shelf_runs_have_each_world` (`src/shelf_laws.rt`). A run of joined events
-- goes through the world after the first of them.
use Rattle.ill_world.specs.Desks.{project}
use Rattle.ill_world.specs.Safety.{Safe}
use Rattle.ill_world.specs.Agreement.{Agrees}
use Rattle.ill_world.specs.Shelves.{shelves_happen}
use Rattle.ill_world.proofs.Runs.{run_prefix}
use Rattle.ill_world.proofs.shelf_laws.shelf_runs_have_each_world.Goals as goal

pub returns-clause-safe : goal.returns-clause-safe
returns-clause-safe c = λ w before after txn each.
    run_prefix shelves_happen (λ v. Safe (project txn (v txn.group))) w before after (each txn)

pub returns-clause-agrees : goal.returns-clause-agrees
returns-clause-agrees c = λ w before after txn each.
    run_prefix shelves_happen (λ v. Agrees (project txn (v txn.group))) w before after (each txn)
