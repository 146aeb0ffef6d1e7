-- Proves the contract of `each_history_is_safe` (`src/laws.rt`). The events of a history keep the invariant of both
-- desks.
use Rattle.ill_world.specs.Desks.{first_desks, desks_run}
use Rattle.ill_world.proofs.Desks.{desks_stand_on}
use Rattle.ill_runs.specs.Libraries.{first_libraries, libraries_after}
use Rattle.ill_runs.proofs.HistoryLemmas.{safe_at}
use Rattle.ill_runs.proofs.laws.each_history_is_safe.Goals as goal

pub returns : goal.returns
returns c =
    λ later is.
    let run = c.each_history_is_a_run.ensures later is in
    safe_at c.ends_alike.ensures c.was_shipped.ensures c.was_granted.ensures (libraries_after first_libraries later)
    (desks_run first_desks run.0)
    (desks_stand_on c.desks_stand.ensures.after first_desks run.0 c.desks_stand.ensures.first) run.1
