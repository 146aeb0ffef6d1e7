-- Proves the clauses `each`, `converged` and `run` of `one_desk_round_is_enough` (`src/desk_laws.rt`). In each
-- transaction the round is a round of two parties, by `round_alike`.
use Rattle.std.proofs.Common.{sym, subst}
use Rattle.ill_world.specs.Desks.{project, desks_run, first_desks}
use Rattle.ill_world.specs.Round.{AreConverged}
use Rattle.ill_world.proofs.Desks.{desks_stand_on}
use Rattle.ill_world.proofs.DeskRounds.{round_alike}
use Rattle.ill_world.proofs.desk_laws.one_desk_round_is_enough.Goals as goal

pub returns-clause-each : goal.returns-clause-each
returns-clause-each c = round_alike c.desk_events_are_events.ensures c.desks_reach_what_they_hold.ensures
    c.desks_stand.ensures.after

-- In `txn` the round is a round of two parties. After it they are converged.
pub returns-clause-converged : goal.returns-clause-converged
returns-clause-converged c =
    λ txn w stands can.
    subst AreConverged (sym (returns-clause-each c txn w stands))
    (c.one_round_is_enough.ensures.stands txn (project txn w) (stands.each txn) can)

-- A run keeps `DesksInvariant`, so that the clause `converged` holds after it.
pub returns-clause-run : goal.returns-clause-run
returns-clause-run c =
    λ txn events can.
    returns-clause-converged c txn (desks_run first_desks events)
    (desks_stand_on c.desks_stand.ensures.after first_desks events c.desks_stand.ensures.first) can
