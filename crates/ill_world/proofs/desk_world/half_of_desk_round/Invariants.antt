-- The loop of `half_of_desk_round` (`src/desk_world.rt`) keeps this invariant.
use Rattle.std.proofs.Common.{◌≡◌, ◌∷◌, take}
use Rattle.std.specs.List.{flat_map}
use Rattle.ill_world.specs.declared.event.DeskEvent.TheVariants.{Save}
use Rattle.ill_world.specs.DeskRound.{passes_side}
use Rattle.ill_world.proofs.desk_world.half_of_desk_round.Given as goal

-- The list has the save, and the events of the sides so far.
abbrev pub invariant-loop-place : goal.invariant-loop-place
invariant-loop-place l = l.events.items ≡ Save l.fn.who ∷ flat_map (passes_side l.fn.who) (take l.place l.fn.sides.sides)
