-- The commands `simulate` and `simulate-desks`, which perform a script.
use Rattle.std.specs.Prelude.{◌≡◌, ℕ, List, [], Option, Result, Ok, Err}
use Rattle.std.specs.Io.KnownBytes.{Consumes, Appends}
use Rattle.ill_values.specs.declared.fault.TextFault.{TextFault}
use Rattle.ill_values.specs.TxnId.{Qualifiers}
use Rattle.ill_script.specs.declared.fault.SimFault.{SimFault}
use Rattle.ill_script.specs.declared.fault.SimFault.TheVariants as simulation
use Rattle.ill_world.specs.Simulation.{Simulates}
use Rattle.ill_world.specs.DeskSimulation.{SimulatesDesks}
use Rattle.ill_text.specs.declared.fault.ToolFault.{ToolFault}
use Rattle.ill_text.specs.declared.fault.ToolFault.TheVariants.{Arguments, Script, Read, Write, OutOfMemory}

-- Returns the fault of the command for a fault of its simulation.
abbrev pub sim_fault : SimFault → ToolFault
sim_fault (simulation.Script line) = Script line
sim_fault simulation.Read = Read
sim_fault simulation.Write = Write
sim_fault simulation.OutOfMemory = OutOfMemory

-- Returns the answer of the command for an answer of its simulation.
abbrev pub tool_answer : Result ℕ SimFault → Result ℕ ToolFault
tool_answer (Ok count) = Ok count
tool_answer (Err fault) = Err (sim_fault fault)

-- `result` is the answer of the command for an answer that satisfies `Simulated`.
abbrev pub GivesAnswerOf : (Result ℕ SimFault → Type 0) → Result ℕ ToolFault → Type 0
GivesAnswerOf Simulated result =
    (simulated : Result ℕ SimFault) × Simulated simulated × (result ≡ tool_answer simulated)

-- The command `simulate`: a simulation of the transaction. It reads the input from `old` to `new`, and the
-- output grows from `before` to `after`. If the arguments are no transaction id, the fault is `Arguments`,
-- and nothing is read or written.
abbrev pub RunsSimulate : Result Qualifiers TextFault → Option (List ℕ) → Option (List ℕ) →
    Option (List ℕ) → Option (List ℕ) → Result ℕ ToolFault → Type 0
RunsSimulate (Ok txn) old new before after result = GivesAnswerOf (Simulates txn old new before after) result
RunsSimulate (Err fault) old new before after result =
    (result ≡ Err Arguments) × Consumes old new [] × Appends before after []

-- The command `simulate-desks`: a simulation of two desks. It reads the input from `old` to `new`, and the output grows
-- from `before` to `after`.
abbrev pub RunsSimulateDesks : Option (List ℕ) → Option (List ℕ) → Option (List ℕ) → Option (List ℕ) →
    Result ℕ ToolFault → Type 0
RunsSimulateDesks old new before after result = GivesAnswerOf (SimulatesDesks old new before after) result
