-- The commands on message files with a key: all messages come and go in sealed letters.
use Rattle.std.specs.Prelude.{◌≡◌, ◌⊎◌, ℕ, Bool, List, Option, None, Some, Result, IsErrAnd}
use Rattle.ill_key.specs.KeyCommand.{IsKeyFault}
use Rattle.ill_text.specs.declared.fault.ToolFault.{ToolFault}

-- A command, which `Does` something, with a key or without one. With a key it may fail for want of a key that can be
-- used, and then nothing was written.
abbrev pub WithKey : (key : Option (List ℕ)) → (Does : Option (List ℕ) → Option (List ℕ) → Result Bool ToolFault → Type 0) →
    (before after : Option (List ℕ)) → Result Bool ToolFault → Type 0
WithKey None Does before after result = Does before after result
WithKey (Some key) Does before after result =
    (IsErrAnd result IsKeyFault × (after ≡ before)) ⊎ Does before after result
