-- Answers the contract of `sent_stays_sent_at_desks` (`src/desk_laws.rt`).
use Rattle.ill_world.proofs.Desks.{desk_keeps_sent}
use Rattle.ill_world.proofs.desk_laws.sent_stays_sent_at_desks.Goals as goal

pub returns : goal.returns
returns c = desk_keeps_sent c.desk_events_are_events.ensures c.sent_stays_sent.ensures.event
