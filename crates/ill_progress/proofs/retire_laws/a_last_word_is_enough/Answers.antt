-- Proves the contract of `a_last_word_is_enough` (`src/retire_laws.rt`). The last message of a responder tells the end.
use Rattle.ill_progress.proofs.RetirementWords.{word_is_enough}
use Rattle.ill_progress.proofs.retire_laws.a_last_word_is_enough.Goals as goal

pub returns : goal.returns
returns c =
    word_is_enough c.rows_grow.ensures c.desk_events_are_events.ensures c.desks_reach_what_they_hold.ensures
    c.desks_stand.ensures.after c.desks_stand.ensures.first c.world_stands.ensures.first c.world_stands.ensures.after
    c.one_arrival_is_enough.ensures c.sides_agree.ensures c.requester_is_over_last.ensures
