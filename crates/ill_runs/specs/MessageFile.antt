-- The messages that come to a desk in a command, and those that leave it.
use Rattle.std.specs.Prelude.{◌≡◌, ℕ, nat_le, Bool, true, List, [], ◌∷◌, ◌++◌, map, take, Option, None, Some, option_map}
use Rattle.std.specs.Prelude.{Result, Ok, Err}
use Rattle.std.specs.List.{slice_get}
use Rattle.std.proofs.Common.{inl, inr, ⊎_elim}
use Rattle.ill_values.specs.TxnId.{Qualifiers}
use Rattle.ill_values.specs.declared.apdu.Apdu.{Apdu}
use Rattle.ill_der.specs.Handling.{Handles}
use Rattle.ill_core.specs.Issued.{message}
use Rattle.ill_record.specs.Ranges.{Each}
use Rattle.ill_record.specs.Side.{issued_of}
use Rattle.ill_saved.specs.Holdings.{DeskEntry}
use Rattle.ill_saved.specs.ManySides.{DeskContents, found_by, many_sides, txn_held}
use Rattle.ill_text.specs.declared.fault.ToolFault.{ToolFault}
use Rattle.ill_text.specs.Input.{ReadsInput}
use Rattle.ill_desk.specs.Performing.{CommandState}
use Rattle.ill_desk.specs.Take.{RunsTaking}
use Rattle.ill_desk.specs.Telling.{Wording}
use Rattle.ill_night.specs.declared.verdict.MessageFile.{MessageFile}
use Rattle.ill_night.specs.declared.verdict.Unfit.{Unfit}
use Rattle.ill_night.specs.MessageFiles.{message_in}
use Rattle.ill_night.specs.Outbox.{leaving_desk}
use Rattle.ill_text.specs.declared.form.Form.{Form}
use Rattle.ill_exchange.specs.Nights.{AskedNight, Night, TakesMessageFiles, ExchangesAt}
use Rattle.ill_world.specs.World.{sent_message}
use Rattle.ill_world.specs.Desks.{Sending, sent_for}

-- ---- messages

-- `a` is one of `apdus`.
abbrev pub IsOneOf : List Apdu → Apdu → Type 0
IsOneOf apdus a = (n : ℕ) × (slice_get apdus n ≡ Some a)

-- `a` is one of the messages that a desk has sent.
abbrev pub WasSent : List Sending → Apdu → Type 0
WasSent sent a = (txn : Qualifiers) × (n : ℕ) × (sent_message (sent_for txn sent) n ≡ Some a)

-- The desk has issued and released `a`, so it may be sent.
abbrev pub IsReleased : DeskContents → Apdu → Type 0
IsReleased live a =
    (txn : Qualifiers) × (n : ℕ) × (held : DeskEntry) × (found_by txn_held txn live.held ≡ Some held)
    × (message (issued_of held.side) n ≡ Some a) × (nat_le n held.released ≡ true)

-- ---- the messages of an input

-- Returns the message with which an input ended, if its handling failed.
abbrev pub message_failed : {S : Type 0} → {handles : Handles S ToolFault} → {old new : Option (List ℕ)} → {before after : S} →
    (result : Result ℕ ToolFault) → ReadsInput handles old new before result after → List Apdu
message_failed (Ok n) read = []
message_failed (Err fault) read = ⊎_elim (λ stops. []) (λ fails. fails.0 ∷ []) read.ended

-- Returns the messages that an input brought, by how it was read.
abbrev pub messages_read : {S : Type 0} → {handles : Handles S ToolFault} → {old new : Option (List ℕ)} → {before after : S} →
    {result : Result ℕ ToolFault} → ReadsInput handles old new before result after → List Apdu
messages_read {result = result} read = read.apdus ++ message_failed result read

-- Returns the messages that a desk took from its input, by how that went.
abbrev pub messages_taken : {is_kept : Bool} → {printed : Wording} → {old new : CommandState DeskContents} →
    {result : Result Bool ToolFault} → RunsTaking is_kept printed many_sides old result new → List Apdu
messages_taken taken = messages_read taken.3

-- ---- the message files of a folder

-- Returns the message of these bytes, if they are just one message.
abbrev pub message_if : Result Apdu Unfit → List Apdu
message_if (Ok a) = a ∷ []
message_if (Err unfit) = []

-- Returns the message of a message file that could be read, if it holds just one.
abbrev pub message_if_read : Option (List ℕ) → List Apdu
message_if_read None = []
message_if_read (Some bytes) = message_if (message_in bytes)

-- Returns the message of a message file, if it could be read and holds just one. Any other message file is noise.
abbrev pub message_of : MessageFile → List Apdu
message_of message_file = message_if_read (option_map (λ bytes. bytes.items) message_file.bytes)

-- `Known` holds of the message of each message file that holds just one.
abbrev pub Bring : (Apdu → Type 0) → List MessageFile → Type 0
Bring Known message_files = Each (λ message_file. Each Known (message_of message_file)) message_files

-- Returns the message files that a desk took from a folder, by how that went.
abbrev pub message_files_taken : {form : Form} → {old new : CommandState DeskContents} → {result : Result Night ToolFault} →
    TakesMessageFiles form old result new → List MessageFile
message_files_taken (inl failed) = []
message_files_taken (inr took) = took.0

-- Returns the message files that a desk took in a night.
abbrev pub message_files_of : (asked : AskedNight) → {old new : CommandState DeskContents} → {result : Result Bool ToolFault} →
    ExchangesAt asked old result new → List MessageFile
message_files_of asked night = message_files_taken night.2

-- ---- the messages that leave

-- `left` are the first `size` of the messages that leave a desk in an outbox. `asking` are the messages that ask.
abbrev pub IsOutbox : DeskContents → List Apdu → Type 0
IsOutbox live left =
    (asking : List Apdu) × (size : ℕ) × (left ≡ take size (map (λ issue. issue.apdu) (leaving_desk asking live.held)))

-- If the deeds of a desk were done and saved, `left` leave it in an outbox. Otherwise none leaves.
abbrev pub LeavesIfDone : Result (Unit {0}) ToolFault → DeskContents → List Apdu → Type 0
LeavesIfDone (Ok done) live left = IsOutbox live left
LeavesIfDone (Err fault) live left = left ≡ []

-- `left` leave a desk in a night, by how the night went. If its message files could not be taken, or its deeds were not
-- done, none leaves.
abbrev pub Leaves : (asked : AskedNight) → {old new : CommandState DeskContents} → {result : Result Bool ToolFault} →
    ExchangesAt asked old result new → List Apdu → Type 0
Leaves asked (met, Err fault, taken, ends) left = left ≡ []
Leaves asked (met, Ok night, taken, ends) left = LeavesIfDone ends.1 ends.0.desk.live left
