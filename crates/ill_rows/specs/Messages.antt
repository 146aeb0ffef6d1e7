-- The text of the messages that some bytes have, as it is written.
use Rattle.std.specs.Prelude.{◌≡◌, ℕ, List, [], Option, Result, Err}
use Rattle.std.specs.Io.KnownBytes.{Appends}
use Rattle.ill_values.specs.declared.apdu.Apdu.{Apdu}
use Rattle.ill_text.specs.declared.fault.ToolFault.{ToolFault}
use Rattle.ill_text.specs.declared.fault.ToolFault.TheVariants.{OutOfMemory}
use Rattle.ill_text.specs.Input.{AreIn}
use Rattle.ill_text.specs.Output.{WritesText}

-- `written` is the `text` of the messages that `bytes` have.
abbrev pub IsTextOf : (List Apdu → List ℕ) → List ℕ → List ℕ → Type 0
IsTextOf text bytes written = (came : List Apdu) × AreIn bytes came × (written ≡ text came)

-- The output grew from `before` to `after` by the `text` of the messages in `bytes`. If memory ran out, it did not
-- grow. If a write failed, it grew by a prefix of the text.
abbrev pub WritesNews : (List Apdu → List ℕ) → List ℕ → Option (List ℕ) → Option (List ℕ) →
    Result (Unit {0}) ToolFault → Type 0
WritesNews text bytes before after (Err OutOfMemory) = Appends before after []
WritesNews text bytes before after result = (came : List Apdu) × AreIn bytes came × WritesText before after (text came) result
