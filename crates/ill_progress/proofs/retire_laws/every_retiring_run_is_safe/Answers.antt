-- Proves the contract of `every_retiring_run_is_safe` (`src/retire_laws.rt`). The shelves are those after the events
-- that happen.
use Rattle.std.proofs.Common.{[], ◌++◌, sym, subst, take}
use Rattle.ill_world.specs.Desks.{project}
use Rattle.ill_world.specs.Shelves.{first_shelves}
use Rattle.ill_world.specs.Safety.{Safe}
use Rattle.ill_progress.specs.Retirement.{first_marked_shelves, shelf_events_of}
use Rattle.ill_progress.proofs.retire_laws.every_retiring_run_is_safe.Goals as goal

pub returns : goal.returns
returns c =
    λ events txn n.
    let those = shelf_events_of first_marked_shelves (take n events) in
    subst (λ shelves. Safe (project txn (shelves txn.group)))
    (sym (c.retiring_runs_are_shelf_runs.ensures.shelves first_marked_shelves (take n events)))
    (c.shelf_runs_have_each_world.ensures.safe first_shelves those [] txn (c.every_shelf_run_is_safe.ensures (those ++ [])))
