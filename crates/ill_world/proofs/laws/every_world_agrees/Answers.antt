-- Answers the contract of `every_world_agrees` (`src/laws.rt`).
use Rattle.ill_world.specs.World.{first_world, run_of}
use Rattle.ill_world.proofs.Runs.{run_stands}
use Rattle.ill_world.proofs.laws.every_world_agrees.Goals as goal

pub returns : goal.returns
returns c =
    λ txn events.
    c.sides_agree.ensures txn (run_of (first_world txn) events)
    (run_stands txn (c.world_stands.ensures.after txn) (first_world txn) events (c.world_stands.ensures.first txn))
