-- Derives the effect of the command `simulate` from the results of its calls.
use Rattle.std.proofs.Common.{◌≡◌, ℕ, List, [], Option, Result, Ok, Err, refl, sym, ap, subst, ◌∙◌}
use Rattle.std.specs.Prelude.{IsErrAnd}
use Rattle.std.proofs.KnownBytes.{Consumes-nil, Appends-nil}
use Rattle.ill_values.specs.declared.fault.TextFault.{TextFault}
use Rattle.ill_values.specs.TxnId.{Qualifiers}
use Rattle.ill_script.specs.declared.fault.SimFault.{SimFault}
use Rattle.ill_script.specs.declared.fault.SimFault.TheVariants as simulation
use Rattle.ill_script.specs.Replay.{trace_from}
use Rattle.ill_world.specs.Simulation.{Simulates, script}
use Rattle.ill_text.specs.declared.fault.ToolFault.{ToolFault}
use Rattle.ill_line.specs.Asked.{GivesId}
use Rattle.ill_tool.specs.Simulate.{sim_fault, tool_answer, RunsSimulate}

-- `Simulates` allows that a simulation ends with `OutOfMemory` before it reads or writes anything.
not_begun : (txn : Qualifiers) (old before : Option (List ℕ)) → Simulates txn old old before before (Err simulation.OutOfMemory)
unfolding trace_from
not_begun txn old before = ([], [], Consumes-nil old, Appends-nil before, λ more e. ([], ((script more).events, refl), refl))

-- `GivesId` allows `fault` instead of a transaction id for `id`, and `result` is that fault. Then `RunsSimulate` allows
-- `result`: nothing was read or written.
pub fault_without_id : (id : Result Qualifiers TextFault) (old before : Option (List ℕ)) (fault : ToolFault)
    (result : Result ℕ ToolFault)
    → GivesId id (Err fault)
    → IsErrAnd result (λ (f : ToolFault). f ≡ fault) → RunsSimulate id old old before before result
fault_without_id id old before fault (Ok count) given failed = absurd failed
fault_without_id (Ok txn) old before fault (Err tool) given failed =
    subst (λ (f : ToolFault). RunsSimulate (Ok txn) old old before before (Err f)) (sym (failed ∙ given))
    (Err simulation.OutOfMemory, not_begun txn old before, refl)
fault_without_id (Err text) old before fault (Err tool) given failed =
    (ap (λ (f : ToolFault). Err f) (failed ∙ given), Consumes-nil old, Appends-nil before)

-- If `id` gives the transaction `txn`, and its simulation ended with `simulated`, `RunsSimulate` allows this answer of
-- the command.
pub simulation_performed : (id : Result Qualifiers TextFault) (txn : Qualifiers) (old new before after : Option (List ℕ))
    (simulated : Result ℕ SimFault)
    → GivesId id (Ok txn)
    → Simulates txn old new before after simulated → RunsSimulate id old new before after (tool_answer simulated)
simulation_performed (Ok wanted) txn old new before after simulated given done =
    (simulated, subst (λ (t : Qualifiers). Simulates t old new before after simulated) given done, refl)
simulation_performed (Err text) txn old new before after simulated given done = absurd given

-- If `id` gives the transaction `txn`, and its simulation ended with `fault`, `RunsSimulate` allows the fault `tool`.
-- This is the fault of the command for `fault`.
pub fault_performed : (id : Result Qualifiers TextFault) (txn : Qualifiers) (old new before after : Option (List ℕ))
    (fault : SimFault) (tool : ToolFault)
    → GivesId id (Ok txn)
    → Simulates txn old new before after (Err fault) → tool ≡ sim_fault fault → RunsSimulate id old new before after (Err tool)
fault_performed id txn old new before after fault tool given done is =
    subst (λ (f : ToolFault). RunsSimulate id old new before after (Err f)) (sym is)
    (simulation_performed id txn old new before after (Err fault) given done)
