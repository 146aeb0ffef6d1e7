-- Proves the clause `simulates` of `simulate` (`src/simulation.rt`) if memory runs out before line 1. Then no byte is
-- read or written, by `not_begun`.
use Rattle.ill_world.specs.World.{first_world}
use Rattle.ill_script.specs.Replay.{before_first}
use Rattle.ill_world.specs.Simulation.{two_sides}
use Rattle.ill_script.proofs.Steps.{not_begun}
use Rattle.ill_world.proofs.simulation.simulate.Goals as goal

pub returns-in_err-new-clause-simulates : goal.returns-in_err-new-clause-simulates
returns-in_err-new-clause-simulates g c =
    not_begun two_sides (before_first tt (first_world c.args.txn.now)) _ c.from_residual.result c.from_residual.ensures.1
