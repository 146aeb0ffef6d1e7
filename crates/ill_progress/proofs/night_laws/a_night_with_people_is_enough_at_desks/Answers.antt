-- Proves the clauses of `a_night_with_people_is_enough_at_desks` (`src/night_laws.rt`). The projection of a run of
-- desks is the run of the events of its transaction.
use Rattle.std.proofs.Common.{sym, ap, ◌∙◌, subst}
use Rattle.ill_world.specs.World.{run_of}
use Rattle.ill_world.specs.Desks.{project}
use Rattle.ill_world.specs.Night.{AreConvergedOrAtRest}
use Rattle.ill_world.proofs.Desks.{run_projects}
use Rattle.ill_progress.specs.NightWithPeople.{AreCommitted}
use Rattle.ill_progress.proofs.night_laws.a_night_with_people_is_enough_at_desks.Goals as goal

pub returns-clause-converged : goal.returns-clause-converged
returns-clause-converged c = λ txn w events people stands are all can.
    let whole = run_projects c.desk_events_are_events.ensures c.desks_stand.ensures.after txn w events stands
    ∙ ap (run_of (project txn w)) are in
    subst AreConvergedOrAtRest (sym whole)
    (c.a_night_with_people_is_enough.ensures.converged txn (project txn w) people (stands.each txn) all can)

pub returns-clause-committed : goal.returns-clause-committed
returns-clause-committed c = λ txn w events people stands are all.
    let whole = run_projects c.desk_events_are_events.ensures c.desks_stand.ensures.after txn w events stands
    ∙ ap (run_of (project txn w)) are in
    subst AreCommitted (sym whole)
    (c.a_night_with_people_is_enough.ensures.committed txn (project txn w) people (stands.each txn) all)
