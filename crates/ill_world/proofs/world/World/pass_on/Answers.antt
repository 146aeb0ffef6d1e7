-- Proves the contract of `World::pass_on` (`src/world.rt`) if memory runs out before the first event. Then no event has
-- happened.
use Rattle.std.proofs.Common.{[], refl}
use Rattle.ill_world.specs.World.{happens, run_by}
use Rattle.ill_world.specs.Round.{half_of}
use Rattle.ill_world.proofs.Rounds.{performs_prefix}
use Rattle.ill_world.proofs.world.World.pass_on.Goals as goal

pub returns-in_err-half_of_round : goal.returns-in_err-half_of_round
unfolding run_by
returns-in_err-half_of_round c =
    let events = half_of c.args.who c.args.self.now in
    performs_prefix happens events [] c.args.self.now c.args.self.now c.from_residual.result c.from_residual.ensures.0
    (events, refl) refl
