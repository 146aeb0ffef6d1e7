-- Proves the contract of `numbers_are_few` (`src/end_laws.rt`). The invariant holds after any events.
use Rattle.ill_world.specs.World.{first_world, run_of}
use Rattle.ill_world.proofs.Runs.{run_stands}
use Rattle.ill_progress.proofs.EndsNumbers.{each_few, both_few, one_longer}
use Rattle.ill_progress.proofs.end_laws.numbers_are_few.Goals as goal

pub returns-clause-each : goal.returns-clause-each
returns-clause-each c =
    λ txn events who.
    each_few txn (run_of (first_world txn) events) who
    (run_stands txn (c.world_stands.ensures.after txn) (first_world txn) events (c.world_stands.ensures.first txn))

pub returns-clause-both : goal.returns-clause-both
returns-clause-both c =
    λ txn events.
    both_few txn (run_of (first_world txn) events)
    (run_stands txn (c.world_stands.ensures.after txn) (first_world txn) events (c.world_stands.ensures.first txn))

-- A wish that is done makes the list of messages one longer; so does a deed below.
pub returns-clause-asks : goal.returns-clause-asks
returns-clause-asks c = λ x new wish done. one_longer x.txn x.issued new.issued (c.requester_issues.ensures.acts x new wish done)

pub returns-clause-lends : goal.returns-clause-lends
returns-clause-lends c =
    λ y new deed today done. one_longer y.txn y.issued new.issued (c.responder_issues.ensures.acts y new deed today done)
