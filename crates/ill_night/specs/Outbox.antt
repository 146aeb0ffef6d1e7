-- The command `outbox`: the messages that leave a desk in a night, and the names of their message files. A message
-- asks if it came for a loan that is over at this desk. A responder then sends its messages of the loan
-- again.
use Rattle.std.specs.Prelude.{◌≡◌, ◌⊎◌, ℕ, ◌+◌, ◌/◌, ◌%◌, Bool, false, if◌then◌else◌, List, [], ◌∷◌, ◌++◌, length, take, fold}
use Rattle.std.specs.Prelude.{map, codes, Option, None, Some, option_map, Result, Ok, Err}
use Rattle.std.specs.List.{flat_map, list_any}
use Rattle.std.specs.Io.KnownBytes.{Appends}
use Rattle.sha2.specs.Sha256.{sha256}
use Rattle.hex.specs.Hex.{encode_lower}
use Rattle.ill_values.specs.TxnId.{Qualifiers}
use Rattle.ill_values.specs.declared.apdu.Apdu.{Apdu}
use Rattle.ill_der.specs.ShortForm.{encoding}
use Rattle.ill_core.specs.Issued.{is_same_txn}
use Rattle.ill_record.specs.declared.role.Role.{Role}
use Rattle.ill_record.specs.declared.side.Side.{Side}
use Rattle.ill_record.specs.Side.{role_of, issued_of, txn_of}
use Rattle.ill_words.specs.Sending.{is_over, wants_sending}
use Rattle.ill_record.specs.Sides.{side_with}
use Rattle.ill_saved.specs.Holdings.{DeskEntry}
use Rattle.ill_saved.specs.ManySides.{DeskContents, sides_held}
use Rattle.ill_text.specs.declared.fault.ToolFault.{ToolFault}
use Rattle.ill_text.specs.declared.fault.ToolFault.TheVariants.{OutOfMemory}
use Rattle.ill_text.specs.Fault.{IsFileFault}
use Rattle.ill_night.specs.declared.verdict.MessageFile.{MessageFile}
use Rattle.ill_night.specs.declared.verdict.Verdict.{Verdict}
use Rattle.ill_night.specs.declared.verdict.Verdict.TheVariants.{Done}
use Rattle.ill_night.specs.declared.outbox.Leaving.{Leaving}
use Rattle.ill_night.specs.declared.verdict.Unfit.{Unfit}
use Rattle.ill_night.specs.MessageFiles.{message_in}
use Rattle.ill_text.specs.Input.{AreIn}
use Rattle.ill_text.specs.Output.{WritesText}
use Rattle.ill_record.specs.Roles.{role_name}

-- ---- the messages that ask

-- Returns true if a message of `asking` is of the transaction `txn`.
abbrev pub is_asked : List Apdu → Qualifiers → Bool
is_asked asking txn = list_any (λ a. is_same_txn a.txn txn) asking

-- ---- the messages that leave

-- A message, and the side that issued it.
pub record Issue : Type 0 where
  pub side : Side
  pub apdu : Apdu

-- Returns the released messages of a side.
abbrev pub released_of : DeskEntry → List Apdu
released_of held = take held.released (issued_of held.side)

-- Returns the messages `apdus`, each with the side that issued it.
abbrev pub issues_of : Side → List Apdu → List Issue
issues_of side apdus = map (λ a. record { side = side; apdu = a }) apdus

-- Returns the released messages of a side, in their order, if it wants sending. A responder's side wants it
-- even if the loan is over, if `asking` has a message of the loan.
abbrev pub leaving_side : List Apdu → DeskEntry → List Issue
leaving_side asking held =
    if wants_sending (is_asked asking (txn_of held.side)) held.side
    then issues_of held.side (released_of held) else []

-- Returns the leaving messages of all sides, in the order in which the sides were begun.
abbrev pub leaving_desk : List Apdu → List DeskEntry → List Issue
leaving_desk asking held = flat_map (leaving_side asking) held

-- ---- the message files

-- A message file that leaves: its name and its bytes.
pub record Letter : Type 0 where
  pub name : List ℕ
  pub bytes : List ℕ

-- Returns `text` and a line feed.
abbrev pub line_of : List ℕ → List ℕ
line_of text = text ++ codes "\n"

-- Returns a text of the loan `txn` at a desk of the role `role`. It differs from the text of any other loan or role.
abbrev pub loan_text : Role → Qualifiers → List ℕ
loan_text role txn = line_of (role_name role) ++ (line_of txn.group ++ line_of txn.transaction)

-- Returns the first half of the digest of `loan_text`, in hexadecimal.
abbrev pub loan_stem : Role → Qualifiers → List ℕ
loan_stem role txn = take 32 (encode_lower (sha256 (loan_text role txn)))

-- Returns `n`, a number below 1,000, in three digits.
abbrev pub three_digits : ℕ → List ℕ
three_digits n = (48 + n / 100) ∷ (48 + n / 10 % 10) ∷ (48 + n % 10) ∷ []

-- Returns the name of the message file of the message `number` in a loan. It does not change from run to run. Sorted by
-- name, the message files of a loan are next to each other, in the order of their numbers.
abbrev pub message_file_name : Role → Qualifiers → ℕ → List ℕ
message_file_name role txn number = loan_stem role txn ++ (codes "-" ++ three_digits number)

-- Returns the message file of a message.
abbrev pub letter_of : Issue → Letter
letter_of issue = record {
  name = message_file_name (role_of issue.side) (txn_of issue.side) issue.apdu.number;
  bytes = encoding issue.apdu;
}

-- Returns the message files that leave a desk, given the messages that ask.
abbrev pub letters_of : List Apdu → List DeskEntry → List Letter
letters_of asking held = map letter_of (leaving_desk asking held)

-- ---- the values of the code

-- Returns the model of a message that leaves.
abbrev pub issue_of : Leaving → Issue
issue_of leaving = record { side = leaving.side.now; apdu = leaving.apdu.now }

-- ---- the outlets

-- Returns the content of an outlet after one more message file, if the content is known.
abbrev pub after_one : {M : Type 0} → (M → Letter → M) → Option M → Letter → Option M
after_one after there letter = option_map (λ there. after there letter) there

-- The message file was put into the outlet. Or that failed, and the outlet is unchanged.
abbrev pub PutsOne : {M : Type 0} → (M → Letter → M) → Letter → Option M → Option M → Result (Unit {0}) ToolFault →
    Type 0
PutsOne after letter old new (Ok done) = new ≡ after_one after old letter
PutsOne after letter old new (Err fault) = IsFileFault fault × (new ≡ old)

-- Returns the content of an outlet after `letters`, one after another, if the content is known.
abbrev pub after_all : {M : Type 0} → (M → Letter → M) → List Letter → Option M → Option M
after_all after letters there = fold (after_one after) there letters

-- The messages in `letters` were put into the outlet in message files of the form `form`, and the answer is the number
-- of messages. Or a prefix of these message files was put, and putting the next message file failed.
abbrev pub PutsAs : {M : Type 0} → (M → Letter → M) → (form : List Letter → List Letter) → List Letter → Option M → Option M →
    Result ℕ ToolFault → Type 0
PutsAs after form letters old new (Ok count) = (count ≡ length letters) × (new ≡ after_all after (form letters) old)
PutsAs after form letters old new (Err fault) =
    IsFileFault fault × ((size : ℕ) × (new ≡ after_all after (take size (form letters)) old))

-- Each message was put into the outlet in a message file of its own, and the answer is the number of messages. Or a
-- prefix of these message files was put, and putting the next message file failed.
abbrev pub PutsAll : {M : Type 0} → (M → Letter → M) → List Letter → Option M → Option M → Result ℕ ToolFault → Type 0
PutsAll after letters old new result = PutsAs after (λ message_files. message_files) letters old new result

-- ---- the command

-- A way in which messages are put into an outlet. The relation says what that leads to, and with which answer.
abbrev pub Putting : Type 0 → Type 1
Putting M = List Letter → Option M → Option M → Result ℕ ToolFault → Type 0

-- The command: the messages of `held` that want sending were put into the outlet, as `Puts` says. `bytes` has the
-- messages that ask. If memory ran out before the first message file, the outlet is unchanged.
abbrev pub RunsOutbox : {M : Type 0} → (Puts : Putting M) → List ℕ → List DeskEntry → Option M → Option M → Result ℕ ToolFault
    → Type 0
RunsOutbox Puts bytes held old new (Ok count) =
    (asking : List Apdu) × AreIn bytes asking × Puts (letters_of asking held) old new (Ok count)
RunsOutbox Puts bytes held old new (Err fault) =
    ((fault ≡ OutOfMemory) × (new ≡ old))
    ⊎ ((asking : List Apdu) × AreIn bytes asking × Puts (letters_of asking held) old new (Err fault))

-- Returns the bytes of message files, one after another.
abbrev pub stream_of : List Letter → List ℕ
stream_of letters = flat_map (λ letter. letter.bytes) letters

-- The output grew from `before` to `after` by the messages of `held` that want sending. If the writer failed,
-- it grew by a prefix of them. If memory ran out, it did not grow.
abbrev pub StreamsOutbox : List ℕ → List DeskEntry → Option (List ℕ) → Option (List ℕ) → Result (Unit {0}) ToolFault →
    Type 0
StreamsOutbox bytes held before after (Err OutOfMemory) = Appends before after []
StreamsOutbox bytes held before after result =
    (asking : List Apdu) × AreIn bytes asking × WritesText before after (stream_of (letters_of asking held)) result

-- ---- the messages that ask, by an inbox

-- Returns true if there is a side, and its loan is over.
abbrev pub is_held_over : Option Side → Bool
is_held_over None = false
is_held_over (Some side) = is_over side

-- Returns the bytes of a message file if its message asks: its loan is held at this desk and is over. Else it returns
-- nothing.
abbrev pub asking_bytes : DeskContents → List ℕ → Result Apdu Unfit → List ℕ
asking_bytes live bytes (Ok a) = if is_held_over (side_with a.txn (sides_held live).sides) then bytes else []
asking_bytes live bytes (Err unfit) = []

-- Returns the bytes of a message file that could be read, if its message asks.
abbrev pub asking_bytes_if_read : DeskContents → Option (List ℕ) → List ℕ
asking_bytes_if_read live None = []
asking_bytes_if_read live (Some bytes) = asking_bytes live bytes (message_in bytes)

-- Returns the bytes of a message file with this verdict, if its message asks. A message file that is quarantined or
-- waits does not ask.
abbrev pub asking_bytes_of_message_file : DeskContents → MessageFile → Verdict → List ℕ
asking_bytes_of_message_file live message_file (Done outcome) =
    asking_bytes_if_read live (option_map (λ bytes. bytes.items) message_file.bytes)
asking_bytes_of_message_file live message_file verdict = []

-- Returns the bytes of a message file, if there are a message file and a verdict, and its message asks.
abbrev pub asking_bytes_at : DeskContents → Option MessageFile → Option Verdict → List ℕ
asking_bytes_at live (Some message_file) (Some verdict) = asking_bytes_of_message_file live message_file verdict
asking_bytes_at live message_file verdict = []

-- Returns the bytes of all messages that ask, by the verdicts of their message files.
abbrev pub asked_by : DeskContents → List (MessageFile × Verdict) → List ℕ
asked_by live message_files = flat_map (λ message_file. asking_bytes_of_message_file live message_file.0 message_file.1)
    message_files
