-- Answers the contract of `run_simulate_desks` (`src/simulate.rt`).
use Rattle.std.proofs.Common.{Ok, refl}
use Rattle.ill_tool.proofs.simulate.run_simulate_desks.Goals as goal

-- Proves the contract of `run_simulate_desks` if the script is performed to its end. The count of its events is the
-- answer.
pub returns-in-Ok : goal.returns-in-Ok
returns-in-Ok g c = (Ok c.in-Ok.count, c.in-Ok.ensures.simulates, refl)
