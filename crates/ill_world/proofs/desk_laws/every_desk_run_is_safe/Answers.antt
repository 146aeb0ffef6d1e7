-- Proves the contract of `every_desk_run_is_safe` (`src/desk_laws.rt`). Each projection is the world after events of
-- its transaction, and this world is safe.
use Rattle.std.proofs.Common.{sym, subst, take}
use Rattle.ill_world.specs.Desks.{first_desks, events_for}
use Rattle.ill_world.specs.Safety.{Safe}
use Rattle.ill_world.proofs.desk_laws.every_desk_run_is_safe.Goals as goal

pub returns : goal.returns
returns c =
    λ events txn n.
    subst Safe (sym (c.desk_runs_are_runs.ensures (take n events) txn))
    (c.every_world_is_safe.ensures txn (events_for txn first_desks (take n events)))
