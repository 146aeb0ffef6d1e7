-- Answers the contract of `desk_runs_are_runs` (`src/desk_laws.rt`).
use Rattle.ill_world.proofs.Desks.{first_run_projects}
use Rattle.ill_world.proofs.desk_laws.desk_runs_are_runs.Goals as goal

pub returns : goal.returns
returns c = λ events txn. first_run_projects c.desk_events_are_events.ensures c.desks_stand.ensures.after
    c.desks_stand.ensures.first txn events
