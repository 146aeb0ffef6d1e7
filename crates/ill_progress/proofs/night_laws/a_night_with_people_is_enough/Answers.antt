-- Proves the clauses of `a_night_with_people_is_enough` (`src/night_laws.rt`).
use Rattle.ill_progress.proofs.WorkedNights.{worked_night, are_committed}
use Rattle.ill_progress.proofs.night_laws.a_night_with_people_is_enough.Goals as goal

-- The responder's half brings both to convergence, since it has heard all.
pub returns-clause-converged : goal.returns-clause-converged
returns-clause-converged c = λ txn w people stands all can.
    worked_night txn (c.night_facts.ensures txn) w stands people all can

-- Each half ends with a save.
pub returns-clause-committed : goal.returns-clause-committed
returns-clause-committed c = λ txn w people stands all.
    are_committed txn (c.night_facts.ensures txn) w stands people all
