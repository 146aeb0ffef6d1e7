-- Proves the contract of `every_world_is_safe` (`src/laws.rt`). A run keeps the invariant, and the invariant has the
-- three parts of safety.
use Rattle.ill_world.specs.World.{first_world, run_of}
use Rattle.ill_world.proofs.Runs.{run_stands}
use Rattle.ill_world.proofs.laws.every_world_is_safe.Goals as goal

pub returns : goal.returns
returns c =
    λ txn events.
    let world = run_of (first_world txn) events in
    let stands = run_stands txn (c.world_stands.ensures.after txn) (first_world txn) events (c.world_stands.ensures.first txn) in
    record {
      ends = c.ends_alike.ensures txn world stands;
      shipped = c.was_shipped.ensures txn world stands;
      granted = c.was_granted.ensures txn world stands;
    }
