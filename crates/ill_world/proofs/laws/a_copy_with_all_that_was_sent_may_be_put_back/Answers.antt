-- Proves the clauses `stands` and `run` of `a_copy_with_all_that_was_sent_may_be_put_back` (`src/laws.rt`). The other
-- party has sent at least what it had sent when the copy was made.
use Rattle.std.proofs.Common.{take}
use Rattle.ill_world.specs.World.{first_world, party, run_of}
use Rattle.ill_world.specs.Copies.{puts_back}
use Rattle.ill_world.proofs.Copies.{back_stands}
use Rattle.ill_world.proofs.Runs.{run_stands}
use Rattle.ill_world.proofs.laws.a_copy_with_all_that_was_sent_may_be_put_back.Goals as goal

pub returns-clause-stands : goal.returns-clause-stands
returns-clause-stands c = λ txn. back_stands txn (c.world_stands.ensures.after txn)

-- The invariant holds after the copy is put back, and further events keep it. It has the three parts of safety.
pub returns-clause-run : goal.returns-clause-run
returns-clause-run c =
    λ txn events more further who has n.
    let copied = run_of (first_world txn) events in
    let back = puts_back who (party copied who).committed (run_of copied more) in
    let world = run_of back (take n further) in
    let after = c.world_stands.ensures.after txn in
    let stood = run_stands txn after (first_world txn) events (c.world_stands.ensures.first txn) in
    let stands = run_stands txn after back (take n further) (back_stands txn after copied more who stood has) in
    record {
      ends = c.ends_alike.ensures txn world stands;
      shipped = c.was_shipped.ensures txn world stands;
      granted = c.was_granted.ensures txn world stands;
    }
