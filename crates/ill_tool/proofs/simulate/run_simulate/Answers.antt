-- Answers the contract of `run_simulate` (`src/simulate.rt`).
use Rattle.std.proofs.Common.{Ok}
use Rattle.ill_tool.proofs.SimulateLemmas.{fault_without_id, simulation_performed, fault_performed}
use Rattle.ill_tool.proofs.simulate.run_simulate.Goals as goal

-- Proves the contract of `run_simulate` if `id` makes no transaction id. By `fault_without_id` its fault is the answer.
pub returns-in_err-txn : goal.returns-in_err-txn
returns-in_err-txn g c = fault_without_id _ _ _ c.in_err-txn.field-0.0 c.from_residual.result c.in_err-txn.ensures
    c.from_residual.ensures.1

-- Proves the contract of `run_simulate` if the script is performed to its end. By `simulation_performed` the count is
-- the answer.
pub returns-in-Ok : goal.returns-in-Ok
returns-in-Ok g c = simulation_performed _ _ _ _ _ _ (Ok c.in-Ok.count) c.in_ok-txn.ensures c.in-Ok.ensures.simulates

-- Proves the contract of `run_simulate` if the simulation fails. By `fault_performed` the command's fault for this
-- failure is the answer.
pub returns : goal.returns
returns g c = fault_performed _ _ _ _ _ _ c.in-Err.fault c.fault_of.result c.in_ok-txn.ensures c.in-Err.ensures.simulates
    c.fault_of.ensures
