-- The contract of `ill help --json`, which writes the command line as objects of JSON.
use Rattle.std.specs.Prelude.{ℕ, Bool, List, Option, Result}
use Rattle.ill_text.specs.Output.{WritesText}
use Rattle.ill_text.specs.declared.fault.ToolFault.{ToolFault}
use Rattle.ill_files.specs.Opening.{Succeeds}

-- Some text was written: the output grew by it or, if the result is a fault, by a prefix of it. No definition says
-- which text it is.
abbrev pub WritesHelp : Option (List ℕ) → Option (List ℕ) → Result (Unit {0}) ToolFault → Type 0
WritesHelp before after result = (text : List ℕ) × WritesText before after text result

-- A text was written, and all went well. Else the output could not be written, or memory ran out.
abbrev pub PrintsHelp : Option (List ℕ) → Option (List ℕ) → Result Bool ToolFault → Type 0
PrintsHelp before after result = Succeeds (WritesHelp before after) result
