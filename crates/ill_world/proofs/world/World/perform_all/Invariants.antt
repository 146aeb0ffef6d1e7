-- The loop of `World::perform_all` (`src/world.rt`) keeps this invariant.
use Rattle.std.proofs.Common.{◌≡◌, take}
use Rattle.ill_world.specs.World.{run_of}
use Rattle.ill_world.proofs.world.World.perform_all.Given as goal

-- The world is the old one after the events so far.
abbrev pub invariant-loop-event : goal.invariant-loop-event
invariant-loop-event l = l.self ≡ run_of l.fn.self (take l.event-index l.fn.events)
