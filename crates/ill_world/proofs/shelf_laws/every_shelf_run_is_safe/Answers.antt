-- Proves the contract of `every_shelf_run_is_safe` (`src/shelf_laws.rt`). The desks of a group are two desks after its
-- events, which are safe.
use Rattle.std.proofs.Common.{[], ◌++◌, sym, subst, take}
use Rattle.ill_world.specs.Desks.{first_desks, project}
use Rattle.ill_world.specs.Shelves.{events_at}
use Rattle.ill_world.specs.Safety.{Safe}
use Rattle.ill_world.proofs.shelf_laws.every_shelf_run_is_safe.Goals as goal

pub returns : goal.returns
returns c =
    λ events txn n.
    let those = events_at txn.group (take n events) in
    subst (λ w. Safe (project txn w)) (sym (c.shelf_runs_are_desk_runs.ensures.first txn.group (take n events)))
    (c.desk_runs_have_each_world.ensures.safe first_desks those [] txn (c.every_desk_run_is_safe.ensures (those ++ [])))
