-- Proves the contract of `a_night_sends_all_or_none` (`src/laws.rt`).
use Rattle.ill_record.specs.Side.{other}
use Rattle.ill_world.specs.World.{party}
use Rattle.ill_world.specs.Desks.{first_desks, desks_run}
use Rattle.ill_world.proofs.Desks.{desks_stand_on}
use Rattle.ill_runs.specs.Libraries.{first_libraries, libraries_after}
use Rattle.ill_runs.proofs.HistoryLemmas.{each_is_at}
use Rattle.ill_nights.proofs.CommandNights.{left_of}
use Rattle.ill_nights.proofs.laws.a_night_sends_all_or_none.Goals as goal

-- The history leads to two desks that satisfy their invariant (`w`). By the laws that are called, `left_of` shows that
-- all of a loan's messages leave, or none.
pub returns : goal.returns
returns c =
    λ txn who later after night history.
    let run = c.each_history_is_a_run.ensures later history in
    let now = libraries_after first_libraries later in
    let w = desks_run first_desks run.0 in
    left_of c.desk_events_are_events.ensures c.desks_reach_what_they_hold.ensures c.desks_stand.ensures.after
    c.few_desk_outcomes_change.ensures c.prefix_or_fault.ensures c.read_again.ensures txn who w
    (desks_stand_on c.desks_stand.ensures.after first_desks run.0 c.desks_stand.ensures.first)
    (party now (other who)).left (each_is_at (other who) now w run.1).left (party now who) after
    (each_is_at who now w run.1) night
