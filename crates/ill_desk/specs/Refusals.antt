-- The outcome of a desk's refusal.
use Rattle.std.specs.Prelude.{Result, Ok, Err}
use Rattle.ill_saved.specs.declared.fault.DeskFault.{DeskFault}
use Rattle.ill_saved.specs.declared.fault.DeskFault.TheVariants as desks
use Rattle.ill_words.specs.declared.outcome.Outcome.TheVariants as outcomes
use Rattle.ill_words.specs.declared.outcome.DeskOutcome.{DeskOutcome}
use Rattle.ill_words.specs.declared.outcome.DeskOutcome.TheVariants.{Plain, NoSuchTransaction, DeskFull}
use Rattle.ill_text.specs.declared.fault.ToolFault.{ToolFault}
use Rattle.ill_text.specs.Fault.{desk_fault}

-- Returns the visible outcome of a refusal. Any other fault of a desk is a fault of the command.
abbrev pub refused : DeskFault → Result DeskOutcome ToolFault
refused (desks.Core refusal) = Ok (Plain (outcomes.Refused refusal))
refused desks.NoSuchTransaction = Ok NoSuchTransaction
refused desks.DeskFull = Ok DeskFull
refused fault = Err (desk_fault fault)
