-- Proves the clauses `safe` and `agrees` of `retiring_runs_have_each_world` (`src/retire_laws.rt`). A run of joined
-- events goes through the world after the first of them.
use Rattle.ill_world.specs.Desks.{project}
use Rattle.ill_world.specs.Safety.{Safe}
use Rattle.ill_world.specs.Agreement.{Agrees}
use Rattle.ill_world.proofs.Runs.{run_prefix}
use Rattle.ill_progress.specs.Retirement.{retiring_happens}
use Rattle.ill_progress.proofs.retire_laws.retiring_runs_have_each_world.Goals as goal

pub returns-clause-safe : goal.returns-clause-safe
returns-clause-safe c = λ w before after txn each.
    run_prefix retiring_happens (λ v. Safe (project txn (v.shelves txn.group))) w before after (each txn)

pub returns-clause-agrees : goal.returns-clause-agrees
returns-clause-agrees c = λ w before after txn each.
    run_prefix retiring_happens (λ v. Agrees (project txn (v.shelves txn.group))) w before after (each txn)
