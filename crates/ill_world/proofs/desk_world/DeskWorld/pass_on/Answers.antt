-- Proves the contract of `DeskWorld::pass_on` (`src/desk_world.rt`) if memory runs out before the first event. Then no
-- event has happened.
use Rattle.std.proofs.Common.{[], refl}
use Rattle.ill_world.specs.World.{run_by}
use Rattle.ill_world.specs.Desks.{desks_happen}
use Rattle.ill_world.specs.DeskRound.{desk_half_of}
use Rattle.ill_world.proofs.Rounds.{performs_prefix}
use Rattle.ill_world.proofs.desk_world.DeskWorld.pass_on.Goals as goal

pub returns-in_err-events : goal.returns-in_err-events
unfolding run_by
returns-in_err-events c =
    let events = desk_half_of c.args.who c.args.self.now in
    performs_prefix desks_happen events [] c.args.self.now c.args.self.now c.from_residual.result c.from_residual.ensures.0
    (events, refl) refl
