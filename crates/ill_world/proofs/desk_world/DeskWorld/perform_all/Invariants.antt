-- The loop of `DeskWorld::perform_all` (`src/desk_world.rt`) keeps this invariant.
use Rattle.std.proofs.Common.{◌≡◌, take}
use Rattle.ill_world.specs.Desks.{desks_run}
use Rattle.ill_world.proofs.desk_world.DeskWorld.perform_all.Given as goal

-- The desks are the old ones after the events so far.
abbrev pub invariant-loop-event : goal.invariant-loop-event
invariant-loop-event l = l.self ≡ desks_run l.fn.self (take l.event-index l.fn.events)
