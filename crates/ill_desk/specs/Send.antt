-- The command `send`: it writes the bytes of one message.
use Rattle.std.specs.Prelude.{◌≡◌, ℕ, nat_le, Bool, true, false, List, [], Option, None, Some, Result, Err}
use Rattle.std.specs.Io.KnownBytes.{Appends}
use Rattle.ill_values.specs.declared.apdu.Apdu.{Apdu}
use Rattle.ill_der.specs.ShortForm.{encoding}
use Rattle.ill_core.specs.Issued.{message}
use Rattle.ill_record.specs.Side.{issued_of}
use Rattle.ill_saved.specs.Holdings.{DeskEntry}
use Rattle.ill_saved.specs.declared.fault.DeskFault.TheVariants.{NoSuchTransaction, NoSuchMessage, NotSaved}
use Rattle.ill_text.specs.declared.fault.ToolFault.{ToolFault}
use Rattle.ill_text.specs.declared.fault.ToolFault.TheVariants.{Desk}
use Rattle.ill_text.specs.Output.{WritesText}

-- The message was written as `text` makes it of its bytes, if there is one and it is released. Else the fault is
-- `NoSuchMessage` or `NotSaved`, and nothing was written.
abbrev pub WritesMessage : (text : List ℕ → List ℕ) → Option Apdu → Bool → Option (List ℕ) → Option (List ℕ) →
    Result (Unit {0}) ToolFault → Type 0
WritesMessage text None is_released before after result =
    (result ≡ Err (Desk NoSuchMessage)) × Appends before after []
WritesMessage text (Some a) false before after result = (result ≡ Err (Desk NotSaved)) × Appends before after []
WritesMessage text (Some a) true before after result = WritesText before after (text (encoding a)) result

-- The message `number` of the side was written as `text` makes it of its bytes, if the side is held. Else the fault
-- is `NoSuchTransaction`, and nothing was written.
abbrev pub RunsSendAs : (text : List ℕ → List ℕ) → Option DeskEntry → ℕ → Option (List ℕ) → Option (List ℕ) →
    Result (Unit {0}) ToolFault → Type 0
RunsSendAs text None number before after result =
    (result ≡ Err (Desk NoSuchTransaction)) × Appends before after []
RunsSendAs text (Some held) number before after result =
    WritesMessage text (message (issued_of held.side) number) (nat_le number held.released) before after result

-- The command: the bytes of the message `number` of the side were written, as `RunsSendAs` says.
abbrev pub RunsSend : Option DeskEntry → ℕ → Option (List ℕ) → Option (List ℕ) → Result (Unit {0}) ToolFault →
    Type 0
RunsSend held number before after result = RunsSendAs (λ bytes. bytes) held number before after result
