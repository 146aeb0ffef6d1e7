-- The effect of each command on the desk at its place. The desk was loaded from there.
use Rattle.std.specs.Prelude.{◌≡◌, ◌⊎◌, ℕ, Bool, true, List, codes, Option, Result, Ok, IsErrAnd}
use Rattle.ill_values.specs.TxnId.{Qualifiers}
use Rattle.ill_record.specs.declared.role.Role.{Role}
use Rattle.ill_record.specs.RecordsV2.{sides_encoding}
use Rattle.ill_record.specs.Sides.{side_with}
use Rattle.ill_saved.specs.Desk.{DeskOf}
use Rattle.ill_saved.specs.ManySides.{DeskContents, found_by, many_sides, no_sides, sides_held, txn_held}
use Rattle.ill_text.specs.declared.fault.ToolFault.{ToolFault}
use Rattle.ill_text.specs.declared.form.Form.{Form}
use Rattle.ill_text.specs.Fault.{IsOpenFault}
use Rattle.ill_text.specs.Output.{WritesText}
use Rattle.ill_files.specs.Opening.{FailsToOpen, Succeeds, after_writing, all_succeed}
use Rattle.ill_place.specs.Place.{IsAt, PlaceOf, StartsAt}
use Rattle.ill_desk.specs.Performing.{CommandState, HeldAndCommitted, command_state, view_of, with_input}
use Rattle.ill_desk.specs.New.{BeginsIn, RunsNew}
use Rattle.ill_desk.specs.ActAs.{Asking, RunsActAs}
use Rattle.ill_desk.specs.Telling.{wording}
use Rattle.ill_desk.specs.Take.{RunsTaking}
use Rattle.ill_desk.specs.declared.take.TakeForm.{TakeForm}
use Rattle.ill_desk.specs.Send.{RunsSend}
use Rattle.ill_show.specs.Loan.{FilesBeside, RunsLoan}
use Rattle.ill_show.specs.declared.loan.LoanForm.{LoanForm}
use Rattle.ill_show.specs.Verify.{RunsVerify}
use Rattle.ill_show.specs.ItemLine.{item_line, item_of}
use Rattle.ill_show.specs.Objects.{status_of_desk}
use Rattle.ill_slip.specs.Slip.{RunsSlip}
use Rattle.ill_commands.specs.Streams.{Streams}

-- ---- a new desk

-- Returns the first record of a desk of `role`, which has no sides.
abbrev pub first_record : Role → List ℕ
first_record role = sides_encoding (sides_held (no_sides role))

-- A desk of `role` was begun at the place, over the store `old`. The save of its first record led the store from `old`
-- to `new`, with the answer `begun`.
abbrev pub BeginsDesk : {S : Type 0} → PlaceOf S → Role → (old : S) → Result (Unit {0}) ToolFault → (new : S) → Type 0
BeginsDesk place role old begun new =
    IsAt place old × BeginsIn (first_record role) (place.state old) begun (place.state new)

-- A desk of `role` was begun at the place. Or its file could not be opened.
abbrev pub NewAtFile : {S : Type 0} → PlaceOf S → Role → Option (List ℕ) → Option (List ℕ) → Result Bool ToolFault → Type 0
NewAtFile {S} place role before after result =
    FailsToOpen before after result
    ⊎ ((old new : S) × (begun : Result (Unit {0}) ToolFault) × BeginsDesk place role old begun new
    × RunsNew (codes "done\n") before after begun × (result ≡ all_succeed begun))

-- ---- actions

-- After an action with the answer `acted`, the item of its loan was written, if `is_long` is true and there is no
-- fault.
abbrev pub PrintsItem : (is_long : Bool) → (item : Option (List ℕ)) → (acted : Result Bool ToolFault) → Option (List ℕ) →
    Option (List ℕ) → Result Bool ToolFault → Type 0
PrintsItem true item (Ok is_success) before after result =
    (written : Result (Unit {0}) ToolFault) × WritesText before after (item_line item) written
    × (result ≡ after_writing written (Ok is_success))
PrintsItem is_long item acted before after result = (result ≡ acted) × (after ≡ before)

-- The action `asked`, for which a person asks, was performed at a desk, or tried. If `is_long` is true, the item of the
-- loan was written after it.
abbrev pub ActsOn : Asking → (is_long : Bool) → (old : CommandState DeskContents) → Result Bool ToolFault →
    (new : CommandState DeskContents) → Type 0
ActsOn asked is_long old result new =
    (between : Option (List ℕ)) × (acted : Result Bool ToolFault)
    × RunsActAs asked old acted (command_state new.desk between)
    × PrintsItem is_long (item_of (side_with asked.txn (sides_held new.desk.live).sides)) acted between new.written result

-- The action was performed or tried at the desk of the place. Or its file could not be opened.
abbrev pub ActsAtFile : {S : Type 0} → PlaceOf S → Asking → (is_long : Bool) → Option (List ℕ) → Option (List ℕ) →
    Result Bool ToolFault → Type 0
ActsAtFile {S} place asked is_long before after result =
    FailsToOpen before after result
    ⊎ ((old new : DeskOf DeskContents S) × StartsAt place old
    × ActsOn asked is_long (command_state (view_of place.state old) before) result
    (command_state (view_of place.state new) after))

-- ---- messages

-- Returns the state of a command on `desk` with these streams.
abbrev pub with_streams : HeldAndCommitted DeskContents → Streams → CommandState DeskContents
with_streams desk streams = with_input streams.unread (command_state desk streams.written)

-- The APDUs of the input were taken at a desk, in this form. Or a file beside it could not be opened, and nothing
-- changed.
abbrev pub TakesOn : TakeForm → (old : CommandState DeskContents) → Result Bool ToolFault → (new : CommandState DeskContents) →
    Type 0
TakesOn form old result new =
    (IsErrAnd result IsOpenFault × (new ≡ old))
    ⊎ RunsTaking form.is_kept (wording form.is_long) many_sides old result new

-- The APDUs of the input were taken at a desk, which went from `before` to `after`. Its streams went from `old` to
-- `new`.
abbrev pub TakesHere : TakeForm → (before after : HeldAndCommitted DeskContents) → Streams → Result Bool ToolFault → Streams
    → Type 0
TakesHere form before after old result new =
    TakesOn form (with_streams before old) result (with_streams after new)

-- The APDUs of the input were taken at the desk of the place, in this form. Or its file could not be opened.
abbrev pub TakesAtFile : {S : Type 0} → PlaceOf S → TakeForm → Streams → Result Bool ToolFault → Streams → Type 0
TakesAtFile {S} place form old result new =
    (FailsToOpen old.written new.written result × (new.unread ≡ old.unread))
    ⊎ ((before after : DeskOf DeskContents S) × StartsAt place before
    × TakesHere form (view_of place.state before) (view_of place.state after) old result new)

-- A message: its transaction and its number.
pub record MessageOf : Type 0 where
  pub txn : Qualifiers
  pub number : ℕ

-- Returns the message `number` of `txn`.
abbrev pub message_of : Qualifiers → ℕ → MessageOf
message_of txn number = record { txn = txn; number = number }

-- The message at the desk of the place was written. Or its file could not be opened.
abbrev pub SendsAtFile : {S : Type 0} → PlaceOf S → MessageOf → Option (List ℕ) → Option (List ℕ) → Result Bool ToolFault →
    Type 0
SendsAtFile {S} place message before after result =
    FailsToOpen before after result
    ⊎ ((desk : DeskOf DeskContents S) × StartsAt place desk
    × Succeeds (RunsSend (found_by txn_held message.txn desk.live.held) message.number before after) result)

-- ---- what is shown

-- The sides of the desk of the place were written in this form. Or its file could not be opened.
abbrev pub ShowsFile : {S : Type 0} → PlaceOf S → Form → Option (List ℕ) → Option (List ℕ) → Result Bool ToolFault → Type 0
ShowsFile {S} place form before after result =
    FailsToOpen before after result
    ⊎ ((desk : DeskOf DeskContents S) × StartsAt place desk
    × Succeeds (WritesText before after (status_of_desk form desk.live.held)) result)

-- The transaction `txn` at the desk of the place was shown or drawn. `beside` has the notes, the diary and the messages
-- that came, whose content no contract tells. Or a file could not be opened.
abbrev pub LoanAtFile : {S : Type 0} → PlaceOf S → LoanForm → Qualifiers → Option (List ℕ) → Option (List ℕ) →
    Result Bool ToolFault → Type 0
LoanAtFile {S} place form txn before after result =
    FailsToOpen before after result
    ⊎ ((desk : DeskOf DeskContents S) × StartsAt place desk × (beside : FilesBeside)
    × Succeeds (RunsLoan form beside (found_by txn_held txn desk.live.held) before after) result)

-- The slip of the transaction `txn` at the desk of the place was written. Or its file could not be opened.
abbrev pub SlipAtFile : {S : Type 0} → PlaceOf S → Qualifiers → Option (List ℕ) → Option (List ℕ) → Result Bool ToolFault →
    Type 0
SlipAtFile {S} place txn before after result =
    FailsToOpen before after result
    ⊎ ((desk : DeskOf DeskContents S) × StartsAt place desk
    × Succeeds (RunsSlip (found_by txn_held txn desk.live.held) before after) result)

-- The record in the store at the place was verified, and its lines written in this form. Or the file could not be
-- opened.
abbrev pub VerifiesFile : {S : Type 0} → PlaceOf S → Form → Option (List ℕ) → Option (List ℕ) → Result Bool ToolFault → Type 0
VerifiesFile {S} place form before after result =
    FailsToOpen before after result
    ⊎ ((store : S) × IsAt place store × Succeeds (RunsVerify form (place.state store) before after) result)
