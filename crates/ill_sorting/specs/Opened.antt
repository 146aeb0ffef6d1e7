-- The messages in letters that a shelf has opened (this profile's own).
use Rattle.std.specs.Prelude.{ℕ, Bool, true, false, List, ◌++◌, take, codes, Result, Ok, Err}
use Rattle.ill_text.specs.declared.fault.ToolFault.{ToolFault}
use Rattle.ill_text.specs.declared.fault.ToolFault.TheVariants.{Deferred}
use Rattle.sha2.specs.Sha256.{sha256}
use Rattle.hex.specs.Hex.{encode_lower}
use Rattle.ill_night.specs.Outbox.{Letter}

-- Returns the name of the message file of a message that came in a letter. It is of the digest of the message, so
-- messages that differ have names that differ, and an equal message has the same name.
abbrev pub message_name : List ℕ → List ℕ
message_name message = codes "message-" ++ take 32 (encode_lower (sha256 message))

-- Returns the message file of a message that came in a letter. It has exactly the bytes of the message.
abbrev pub file_of_message : List ℕ → Letter
file_of_message message = record { name = message_name message; bytes = message }

-- Returns the answer of letters that were opened. It is the fault `Deferred` if a file waits for the next run. Else it
-- is `are_sealed`: true if no file was quarantined.
abbrev pub opened_answer : (is_waiting are_sealed : Bool) → Result Bool ToolFault
opened_answer true are_sealed = Err Deferred
opened_answer false are_sealed = Ok are_sealed
