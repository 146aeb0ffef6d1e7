-- The loop of `push_passes` (`src/desk_world.rt`) keeps this invariant.
use Rattle.std.proofs.Common.{◌≡◌, ◌++◌, map}
use Rattle.ill_record.specs.Side.{txn_of}
use Rattle.ill_world.specs.DeskScript.{in_txn}
use Rattle.ill_world.specs.DeskRound.{passes_side}
use Rattle.ill_world.proofs.desk_world.push_passes.Given as goal

-- The list so far, and the events that are left, are the old list and all events of the side.
abbrev pub invariant-loop-event : goal.invariant-loop-event
invariant-loop-event l =
    l.events.items ++ map (in_txn (txn_of l.fn.side)) l.event-iterator.rest.items
    ≡ l.fn.events.items ++ passes_side l.fn.who l.fn.side
