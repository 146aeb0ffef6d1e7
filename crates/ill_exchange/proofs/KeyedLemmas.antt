-- Proves that what a command does without regard to a key, it may do with a key and without.
use Rattle.std.proofs.Common.{ℕ, Bool, List, Option, None, Some, Result, inr}
use Rattle.ill_text.specs.declared.fault.ToolFault.{ToolFault}
use Rattle.ill_exchange.specs.Keyed.{WithKey}

-- If `Does` holds of a command, so does `WithKey key Does`, whether there is a key or not.
pub without_key : (key : Option (List ℕ)) (Does : Option (List ℕ) → Option (List ℕ) → Result Bool ToolFault → Type 0)
    (before after : Option (List ℕ)) (result : Result Bool ToolFault) → Does before after result
    → WithKey key Does before after result
without_key None Does before after result does = does
without_key (Some key) Does before after result does = inr does
