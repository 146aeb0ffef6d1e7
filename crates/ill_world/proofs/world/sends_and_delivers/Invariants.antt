-- The loop of `sends_and_delivers` (`src/world.rt`) keeps this invariant.
use Rattle.std.proofs.Common.{◌≡◌, ◌++◌, ◌+◌, ◌-◌}
use Rattle.ill_world.specs.Round.{sends_and_delivers}
use Rattle.ill_world.proofs.world.sends_and_delivers.Given as goal

-- The list so far, and the events of the messages that are left, are the events of all messages.
abbrev pub invariant-loop-index : goal.invariant-loop-index
invariant-loop-index l =
    l.events.items ++ sends_and_delivers l.fn.who (l.index + 1) (l.fn.count - l.index) ≡ sends_and_delivers l.fn.who 1 l.fn.count
