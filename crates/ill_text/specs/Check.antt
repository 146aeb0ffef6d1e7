-- The command `check`: it counts the APDUs of an input, and writes the line of their number.
use Rattle.std.specs.Prelude.{◌≡◌, ℕ, List, [], Option, Result, Ok, Err}
use Rattle.std.specs.Io.KnownBytes.{Appends}
use Rattle.ill_text.specs.declared.fault.ToolFault.{ToolFault}
use Rattle.ill_der.specs.Handling.{Handles}
use Rattle.ill_text.specs.Input.{ReadsInput}
use Rattle.ill_text.specs.Output.{WritesText}
use Rattle.ill_text.specs.Lines.{count_line}

-- An APDU is skipped, with success.
abbrev pub SkipsApdu : Handles (Unit {0}) ToolFault
SkipsApdu before apdu result after = result ≡ Ok tt

-- The APDUs of the input were counted. The input went from `old` to `new`.
abbrev pub Counts : Option (List ℕ) → Option (List ℕ) → Result ℕ ToolFault → Type 0
Counts old new result = ReadsInput SkipsApdu old new tt result tt

-- The line of `count` was written, and `count` returned. After the fault `Write` a prefix of the line was
-- written. After `OutOfMemory` nothing was.
abbrev pub WritesCount : Option (List ℕ) → Option (List ℕ) → ℕ → Result ℕ ToolFault → Type 0
WritesCount before after count (Ok n) = (n ≡ count) × Appends before after (count_line count)
WritesCount before after count (Err fault) = WritesText before after (count_line count) (Err fault)

-- After the count the line of the number was written. If the count has a fault, that is the result, and
-- nothing was written.
abbrev pub Reports : Result ℕ ToolFault → Option (List ℕ) → Option (List ℕ) →
    Result ℕ ToolFault → Type 0
Reports (Ok count) before after result = WritesCount before after count result
Reports (Err fault) before after result = (result ≡ Err fault) × Appends before after []

-- The command `check`. The APDUs were counted, and then their number was written. The input went from `old`
-- to `new`, and the output from `before` to `after`.
abbrev pub Checks : Option (List ℕ) → Option (List ℕ) → Option (List ℕ) → Option (List ℕ) →
    Result ℕ ToolFault → Type 0
Checks old new before after result =
    (counted : Result ℕ ToolFault) × Counts old new counted × Reports counted before after result
