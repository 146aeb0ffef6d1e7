-- The bytes that a command has written to its output.
use Rattle.std.specs.Prelude.{◌≡◌, ℕ, List, [], take, Option, Result, Ok, Err}
use Rattle.std.specs.Io.KnownBytes.{Appends}
use Rattle.ill_text.specs.declared.fault.ToolFault.{ToolFault}
use Rattle.ill_text.specs.declared.fault.ToolFault.TheVariants.{Write, OutOfMemory}

-- The output grew from `before` to `after` by all of `bytes`. After the fault `Write` it grew by a prefix of
-- `bytes`. No other fault is possible.
abbrev pub WritesPrefix : Option (List ℕ) → Option (List ℕ) → List ℕ →
    Result (Unit {0}) ToolFault → Type 0
WritesPrefix before after bytes (Ok done) = Appends before after bytes
WritesPrefix before after bytes (Err fault) =
    (fault ≡ Write) × ((size : ℕ) × Appends before after (take size bytes))

-- The output grew from `before` to `after` by `text`. After the fault `Write` it grew by a prefix of `text`,
-- and after `OutOfMemory` by nothing. No other fault is possible.
abbrev pub WritesText : Option (List ℕ) → Option (List ℕ) → List ℕ →
    Result (Unit {0}) ToolFault → Type 0
WritesText before after text (Ok done) = Appends before after text
WritesText before after text (Err Write) = (size : ℕ) × Appends before after (take size text)
WritesText before after text (Err OutOfMemory) = Appends before after []
WritesText before after text (Err other) = ⊥
