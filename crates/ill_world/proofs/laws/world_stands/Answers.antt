-- Proves the clauses `first` and `after` of `world_stands` (`src/laws.rt`). An event changes one party, and keeps the
-- invariant of this party. The sent messages that are the other party's evidence stay sent.
use Rattle.ill_world.proofs.Standings.{requester_keeps, responder_keeps, world_first, world_after}
use Rattle.ill_world.proofs.laws.world_stands.Goals as goal

pub returns-clause-first : goal.returns-clause-first
returns-clause-first c = world_first

pub returns-clause-after : goal.returns-clause-after
returns-clause-after c =
    λ txn w event stands.
    world_after (record { acts = c.requester_keeps_due.ensures.acts; takes = c.requester_keeps_due.ensures.takes }) txn w event
    c.rows_grow.ensures (requester_keeps c.requester_stands.ensures.acts c.requester_stands.ensures.takes txn)
    (responder_keeps c.responder_stands.ensures.acts c.responder_stands.ensures.takes txn) stands
