-- Proves that the loop of `half_of_desk_round` (`src/desk_world.rt`) keeps its invariant. `push_passes` appends the
-- events of the next side.
use Rattle.std.proofs.Common.{rules, ◌≡◌, Some}
use Rattle.std.specs.List.{slice_get}
use Rattle.ill_world.specs.declared.event.DeskEvent.TheVariants.{Save}
use Rattle.ill_world.specs.DeskRound.{passes_side}
use Rattle.ill_world.proofs.DeskPasses.{flat_map_grows}
use Rattle.ill_world.proofs.desk_world.half_of_desk_round.Goals as goal

pub loop-place-preserved : goal.loop-place-preserved
loop-place-preserved c =
    let sides = c.args.sides.now.sides in
    let side = c.in-Some.side.now in
    let place = c.loop-place.place in
    let found : slice_get sides place ≡ Some side = search rules in
    flat_map_grows (passes_side c.args.who) sides place side (Save c.args.who) c.loop-place.events.items
    c.push_passes.new.events.items found c.in_ok-push_passes.ensures c.loop-place.invariant
