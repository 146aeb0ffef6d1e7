-- Proves the contract of `few_outcomes_are_seen` (`src/laws.rt`). A run keeps the invariant, from which `outcome_seen`
-- follows.
use Rattle.ill_world.specs.World.{first_world, run_of}
use Rattle.ill_world.proofs.Runs.{run_stands}
use Rattle.ill_world.proofs.Outcomes.{outcome_seen}
use Rattle.ill_world.proofs.laws.few_outcomes_are_seen.Goals as goal

pub returns : goal.returns
returns c =
    λ txn events event.
    outcome_seen txn (run_of (first_world txn) events) event
    (run_stands txn (c.world_stands.ensures.after txn) (first_world txn) events (c.world_stands.ensures.first txn))
