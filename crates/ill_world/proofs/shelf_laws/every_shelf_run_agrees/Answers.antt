-- Proves the contract of `every_shelf_run_agrees` (`src/shelf_laws.rt`). The desks of a group are two desks after its
-- events, in which both sides agree.
use Rattle.std.proofs.Common.{[], ◌++◌, sym, subst, take}
use Rattle.ill_world.specs.Desks.{first_desks, project}
use Rattle.ill_world.specs.Shelves.{events_at}
use Rattle.ill_world.specs.Agreement.{Agrees}
use Rattle.ill_world.proofs.shelf_laws.every_shelf_run_agrees.Goals as goal

pub returns : goal.returns
returns c =
    λ events txn n.
    let those = events_at txn.group (take n events) in
    subst (λ w. Agrees (project txn w)) (sym (c.shelf_runs_are_desk_runs.ensures.first txn.group (take n events)))
    (c.desk_runs_have_each_world.ensures.agrees first_desks those [] txn (c.every_desk_run_agrees.ensures (those ++ [])))
