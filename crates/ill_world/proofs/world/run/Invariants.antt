-- The loop of `run` (`src/world.rt`) keeps this invariant.
use Rattle.std.proofs.Common.{◌≡◌, drop}
use Rattle.ill_world.specs.World.{first_world, run_of}
use Rattle.ill_world.proofs.world.run.Given as goal

-- The events that are left lead to the world to which all events lead.
abbrev pub invariant-loop-event : goal.invariant-loop-event
invariant-loop-event l = run_of l.world (drop l.event-index l.fn.events) ≡ run_of (first_world l.fn.txn) l.fn.events
