-- The answers of a command at a desk in a file: the file is opened, or the command fails.
use Rattle.std.specs.Prelude.{◌≡◌, ℕ, Bool, true, false, List, Option, Result, Ok}
use Rattle.std.specs.Prelude.{Err, IsErrAnd}
use Rattle.ill_saved.specs.declared.fault.DeskFault.TheVariants.{Store}
use Rattle.ill_store.specs.declared.store.StoreFault.TheVariants.{Failed}
use Rattle.ill_text.specs.declared.fault.ToolFault.{ToolFault}
use Rattle.ill_text.specs.declared.fault.ToolFault.TheVariants.{Desk}
use Rattle.ill_text.specs.Fault.{IsOpenFault}

-- Returns true in place of the answer of a command, or its fault.
abbrev pub all_succeed : {A : Type 0} → Result A ToolFault → Result Bool ToolFault
all_succeed (Ok answer) = Ok true
all_succeed (Err fault) = Err fault

-- Returns `answer` if the output was written, else the fault.
abbrev pub after_writing : Result (Unit {0}) ToolFault → Result Bool ToolFault → Result Bool ToolFault
after_writing (Ok done) answer = answer
after_writing (Err fault) answer = Err fault

-- `Answers` holds of some answer of a command. `result` is true in place of that answer, or its fault.
abbrev pub Succeeds : {A : Type 0} → (Result A ToolFault → Type 0) → Result Bool ToolFault → Type 0
Succeeds {A} Answers result = (answer : Result A ToolFault) × Answers answer × (result ≡ all_succeed answer)

-- The command fails since a file could not be opened or locked, or memory ran out. The output is unchanged: `before`
-- and `after` are equal.
abbrev pub FailsToOpen : {A : Type 0} → Option (List ℕ) → Option (List ℕ) → Result A ToolFault → Type 0
FailsToOpen before after result = IsErrAnd result IsOpenFault × (after ≡ before)

-- Returns true if the argument is true: each name in the folders is UTF-8. Else it returns the fault of a folder that
-- cannot be read.
abbrev pub names_answer : Bool → Result Bool ToolFault
names_answer true = Ok true
names_answer false = Err (Desk (Store Failed))
