-- The command `show`: it writes the text of each APDU of an input.
use Rattle.std.specs.Prelude.{ℕ, Bool, true, false, List, Option, Result}
use Rattle.ill_der.specs.Handling.{Handles}
use Rattle.ill_text.specs.declared.fault.ToolFault.{ToolFault}
use Rattle.ill_text.specs.Input.{ReadsInput}
use Rattle.ill_text.specs.Output.{WritesText}
use Rattle.ill_text.specs.declared.form.Form.{Form}
use Rattle.ill_text.specs.declared.form.Form.TheVariants.{Lines, Json}
use Rattle.ill_text.specs.ApduObject.{apdu_text}

-- Returns the form of objects if the Bool is true, else the form of lines.
abbrev pub form_of : Bool → Form
form_of true = Json
form_of false = Lines

-- The text of an APDU was written. The states are the output before and after it.
abbrev pub ShowsApdu : Form → Handles (Option (List ℕ)) ToolFault
ShowsApdu form before apdu result after = WritesText before after (apdu_text form apdu) result

-- The command: the text of each APDU of the input was written. The input went from `old` to `new`, and the
-- output from `before` to `after`.
abbrev pub RunsShow : Form → Option (List ℕ) → Option (List ℕ) → Option (List ℕ) → Option (List ℕ) →
    Result ℕ ToolFault → Type 0
RunsShow form old new before after result = ReadsInput (ShowsApdu form) old new before result after
