-- Proves the clause `simulates` of `simulate_desks` (`src/desk_simulation.rt`) if memory runs out before line 1. Then
-- no byte is read or written, by `not_begun`.
use Rattle.std.proofs.Common.{None}
use Rattle.ill_world.specs.Desks.{first_desks}
use Rattle.ill_script.specs.Replay.{before_first}
use Rattle.ill_world.specs.DeskSimulation.{two_desks}
use Rattle.ill_script.proofs.Steps.{not_begun}
use Rattle.ill_world.proofs.desk_simulation.simulate_desks.Goals as goal

pub returns-in_err-new-clause-simulates : goal.returns-in_err-new-clause-simulates
returns-in_err-new-clause-simulates g c =
    not_begun two_desks (before_first None first_desks) _ c.from_residual.result c.from_residual.ensures.1
