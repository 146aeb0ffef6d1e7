-- Proves the contract of `a_good_night_is_enough` (`src/laws.rt`). Each command of the night is events of the model.
use Rattle.ill_world.specs.Desks.{first_desks, desks_run}
use Rattle.ill_world.proofs.Desks.{desks_stand_on}
use Rattle.ill_runs.specs.Libraries.{first_libraries, libraries_after}
use Rattle.ill_nights.proofs.CommandNights.{good_night}
use Rattle.ill_nights.proofs.laws.a_good_night_is_enough.Goals as goal

-- The history leads to two desks that satisfy their invariant (`run`). From these desks on `good_night` follows each
-- command of the night. The law `a_night_with_people_is_enough` then gives the sides after the night.
pub returns : goal.returns
returns c =
    λ txn later after history good can.
    let run = c.each_history_is_a_run.ensures later history in
    good_night c.desk_events_are_events.ensures c.desks_reach_what_they_hold.ensures c.desks_stand.ensures.after
    c.few_desk_outcomes_change.ensures c.prefix_or_fault.ensures c.read_again.ensures txn (c.world_stands.ensures.after txn)
    (c.a_night_with_people_is_enough.ensures.converged txn) c.each_command_is_events.ensures
    c.each_history_leads_on.ensures (desks_run first_desks run.0)
    (desks_stand_on c.desks_stand.ensures.after first_desks run.0 c.desks_stand.ensures.first)
    (libraries_after first_libraries later) after run.1 good can
