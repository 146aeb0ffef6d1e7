-- Proves the contract of `what_has_left_is_in_the_file` (`src/laws.rt`). What a desk of the model has sent is
-- committed.
use Rattle.ill_world.specs.Desks.{first_desks, desks_run}
use Rattle.ill_world.proofs.Desks.{desks_stand_on}
use Rattle.ill_runs.specs.Libraries.{first_libraries, libraries_after}
use Rattle.ill_runs.proofs.HistoryLemmas.{has_all_left}
use Rattle.ill_runs.proofs.laws.what_has_left_is_in_the_file.Goals as goal

pub returns : goal.returns
returns c =
    λ later is who.
    let run = c.each_history_is_a_run.ensures later is in
    has_all_left (libraries_after first_libraries later) (desks_run first_desks run.0)
    (desks_stand_on c.desks_stand.ensures.after first_desks run.0 c.desks_stand.ensures.first) run.1 who
