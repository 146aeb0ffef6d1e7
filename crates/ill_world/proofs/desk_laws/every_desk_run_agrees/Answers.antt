-- Proves the contract of `every_desk_run_agrees` (`src/desk_laws.rt`). Each projection is the world after events of its
-- transaction, and both sides agree in it.
use Rattle.std.proofs.Common.{sym, subst, take}
use Rattle.ill_world.specs.Desks.{first_desks, events_for}
use Rattle.ill_world.specs.Agreement.{Agrees}
use Rattle.ill_world.proofs.desk_laws.every_desk_run_agrees.Goals as goal

pub returns : goal.returns
returns c =
    λ events txn n.
    subst Agrees (sym (c.desk_runs_are_runs.ensures (take n events) txn))
    (c.every_world_agrees.ensures txn (events_for txn first_desks (take n events)))
