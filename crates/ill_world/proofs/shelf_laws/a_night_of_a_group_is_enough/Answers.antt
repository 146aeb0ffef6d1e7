-- Proves the clauses `home` and `run` of `a_night_of_a_group_is_enough` (`src/shelf_laws.rt`). The desks of the group
-- perform the night of two desks.
use Rattle.std.proofs.Common.{◌≡◌, sym, ap, subst, ◌∙◌}
use Rattle.ill_world.specs.Desks.{project, desks_run}
use Rattle.ill_world.specs.Round.{CanAnswer}
use Rattle.ill_world.specs.Night.{AreConvergedOrAtRest}
use Rattle.ill_world.specs.DeskNight.{desk_night_of}
use Rattle.ill_world.specs.Shelves.{first_shelves, shelves_run, in_group, events_at}
use Rattle.ill_world.proofs.ShelfNights.{night_at}
use Rattle.ill_world.proofs.shelf_laws.a_night_of_a_group_is_enough.Goals as goal

pub returns-clause-home : goal.returns-clause-home
returns-clause-home c =
    λ group events.
    subst (λ w. events_at group (in_group group (desk_night_of w)) ≡ desk_night_of w)
    (sym (c.shelf_runs_are_desk_runs.ensures.first group events))
    (night_at group c.rows_grow.ensures c.desks_stand.ensures.after c.desks_stand.ensures.first events)

-- The desks of the group are two desks after its events, and the night happens to them alone.
pub returns-clause-run : goal.returns-clause-run
returns-clause-run c =
    λ txn events can.
    let w = shelves_run first_shelves events in
    let night = desk_night_of (w txn.group) in
    let is = c.shelf_runs_are_desk_runs.ensures.each w txn.group (in_group txn.group night)
    ∙ ap (desks_run (w txn.group)) (returns-clause-home c txn.group events) in
    subst (λ v. AreConvergedOrAtRest (project txn v)) (sym is)
    (subst (λ v. CanAnswer (project txn v).responder.live → AreConvergedOrAtRest (project txn (desks_run v (desk_night_of v))))
    (sym (c.shelf_runs_are_desk_runs.ensures.first txn.group events))
    (c.one_desk_night_is_enough.ensures.run txn (events_at txn.group events)) can)
