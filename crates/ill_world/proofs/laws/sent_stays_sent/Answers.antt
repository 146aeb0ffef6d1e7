-- Proves the clauses `event` and `run` of `sent_stays_sent` (`src/laws.rt`). A Send of an earlier number sends an equal
-- message, since it is committed.
use Rattle.ill_world.specs.World.{first_world}
use Rattle.ill_world.proofs.Changes.{event_keeps_sent, run_keeps_sent}
use Rattle.ill_world.proofs.laws.sent_stays_sent.Goals as goal

pub returns-clause-event : goal.returns-clause-event
returns-clause-event c = event_keeps_sent

pub returns-clause-run : goal.returns-clause-run
returns-clause-run c =
    λ txn events more. run_keeps_sent txn (c.world_stands.ensures.after txn) (first_world txn) events more
    (c.world_stands.ensures.first txn)
