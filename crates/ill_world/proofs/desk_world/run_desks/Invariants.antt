-- The loop of `run_desks` (`src/desk_world.rt`) keeps this invariant.
use Rattle.std.proofs.Common.{◌≡◌, drop}
use Rattle.ill_world.specs.Desks.{first_desks, desks_run}
use Rattle.ill_world.proofs.desk_world.run_desks.Given as goal

-- The events that are left lead to the desks to which all events lead.
abbrev pub invariant-loop-event : goal.invariant-loop-event
invariant-loop-event l = desks_run l.world (drop l.event-index l.fn.events) ≡ desks_run first_desks l.fn.events
