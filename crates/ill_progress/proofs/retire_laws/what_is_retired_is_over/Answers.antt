-- Proves the clauses `over` and `rest` of `what_is_retired_is_over` (`src/retire_laws.rt`).
use Rattle.ill_progress.proofs.RetirementLoans.{retired_is_over, retired_rests}
use Rattle.ill_progress.proofs.retire_laws.what_is_retired_is_over.Goals as goal

pub returns-clause-over : goal.returns-clause-over
returns-clause-over c = λ events of group txn held is found. retired_is_over events of group txn held is found

pub returns-clause-rest : goal.returns-clause-rest
returns-clause-rest c =
    retired_rests c.desks_stand.ensures.after c.desks_stand.ensures.first c.requester_is_over_last.ensures
