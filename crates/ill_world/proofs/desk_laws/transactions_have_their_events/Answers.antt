-- Proves all clauses of `transactions_have_their_events` (`src/desk_laws.rt`). Each is a case of `events_for` and
-- `is_event_of`, by a lemma of `BadDesks`.
use Rattle.ill_world.proofs.BadDesks.{events_in_order, whole_events, named_event, other_event, unreached_event, noise_event}
use Rattle.ill_world.proofs.desk_laws.transactions_have_their_events.Goals as goal

pub returns-clause-order : goal.returns-clause-order
returns-clause-order c = events_in_order

pub returns-clause-whole : goal.returns-clause-whole
returns-clause-whole c = whole_events

pub returns-clause-named : goal.returns-clause-named
returns-clause-named c = named_event

pub returns-clause-others : goal.returns-clause-others
returns-clause-others c = other_event

pub returns-clause-unreached : goal.returns-clause-unreached
returns-clause-unreached c = unreached_event

pub returns-clause-noise : goal.returns-clause-noise
returns-clause-noise c = noise_event
