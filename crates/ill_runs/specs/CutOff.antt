-- The power of a library goes in a command: in a save or after one that failed, between two saves, or when messages
-- leave. Each save of a command follows a load or a save that is done. So one record is there before it.
use Rattle.std.specs.Prelude.{◌≡◌, ◌⊎◌, ℕ, ◌<◌, ◌≤◌, Bool, true, List, [], ◌∷◌, ◌++◌, length, take, Some, Result, Ok}
use Rattle.std.specs.List.{AllByRecursion}
use Rattle.ill_values.specs.Apdu.{IsApdu}
use Rattle.ill_values.specs.Day.{Date}
use Rattle.ill_values.specs.TxnId.{Qualifiers}
use Rattle.ill_values.specs.declared.apdu.Apdu.{Apdu}
use Rattle.ill_der.specs.Handling.{Handled}
use Rattle.ill_record.specs.declared.role.Role.{Role}
use Rattle.ill_record.specs.declared.side.Action.{Action}
use Rattle.ill_saved.specs.Holdings.{IsReadAgain}
use Rattle.ill_record.specs.Ranges.{Each}
use Rattle.ill_record.specs.Side.{other}
use Rattle.ill_saved.specs.ManySides.{DeskContents, many_sides}
use Rattle.ill_words.specs.declared.outcome.DeskOutcome.{DeskOutcome}
use Rattle.ill_text.specs.declared.fault.ToolFault.{ToolFault}
use Rattle.ill_text.specs.declared.form.Form.{Form}
use Rattle.ill_desk.specs.Performing.{HeldAndCommitted, CommandState, Run, IsChange, acted, handed, with_sides}
use Rattle.ill_desk.specs.Take.{Progress, TakesMessage, progress}
use Rattle.ill_desk.specs.Telling.{Wording}
use Rattle.ill_night.specs.declared.verdict.MessageFile.{MessageFile}
use Rattle.ill_night.specs.declared.night.Dates.{Dates}
use Rattle.ill_inbox.specs.Inbox.{after_message_files, inbox_run}
use Rattle.ill_inbox.specs.Dates.{after_dates, deeds_run}
use Rattle.ill_exchange.specs.Nights.{Night, TakesMessageFiles}
use Rattle.ill_world.specs.World.{party}
use Rattle.ill_runs.specs.MessageFile.{IsOneOf, Bring, message_files_taken}
use Rattle.ill_runs.specs.Libraries.{Library, Libraries, StartsFrom, IsCommand, Exchanges, Sends, Commands}
use Rattle.ill_runs.specs.ShelfLibraries.{ShelfLibraries, GroupVisit, after_visit}

-- ---- the saves of a command

-- An event at the desk `old` is a change. The desk saves the sides of `now`, to which the event leads.
abbrev pub SavesChange : HeldAndCommitted DeskContents → Result DeskOutcome ToolFault × DeskContents
    → HeldAndCommitted DeskContents
    → Type 0
SavesChange old event now = IsChange event.0 × (now ≡ with_sides old event.1)

-- A run at the desk `old` has changed it. The desk saves the sides of `now`, to which the run leads.
abbrev pub SavesRun : {A : Type 0} → HeldAndCommitted DeskContents → Run DeskContents A → HeldAndCommitted DeskContents → Type 0
SavesRun old run now = (run.has_changed ≡ true) × (now ≡ with_sides old run.live)

-- The command `act`, which began at the desk `old`, saves the sides of `now`: an action is done.
abbrev pub ActSaves : HeldAndCommitted DeskContents → HeldAndCommitted DeskContents → Type 0
ActSaves old now =
    (txn : Qualifiers) × (action : Action) × SavesChange old (acted old.live (many_sides.acts old.live txn action)) now

-- The command `take`, which began at the desk `old`, has handled `apdus`, and saved what it has taken. Its state is
-- `last` now. The messages are among `others`.
pub record TakeReaches (others : List Apdu) (old : HeldAndCommitted DeskContents) (last : Progress DeskContents) : Type 0 where
  pub is_kept : Bool
  pub printed : Wording
  pub start : CommandState DeskContents
  pub from : start.desk ≡ old
  pub apdus : List Apdu
  pub handled : Handled (TakesMessage is_kept printed many_sides) (progress start true) apdus last
  pub came : Each (IsOneOf others) apdus
  pub are : AllByRecursion IsApdu apdus
  pub most : length apdus ≤ 100000

-- The command `take`, which began at the desk `old`, saves the sides of `now`: it takes a further message, one of
-- `others`.
abbrev pub TakeSaves : List Apdu → HeldAndCommitted DeskContents → HeldAndCommitted DeskContents → Type 0
TakeSaves others old now =
    (last : Progress DeskContents) × (reached : TakeReaches others old last) × (a : Apdu) × IsOneOf others a × IsApdu a
    × (length reached.apdus < 100000) × SavesChange last.state.desk (handed many_sides last.state.desk.live a) now

-- The commands `inbox` and `exchange`, which began at the desk `old`, save the sides of `now`. They have taken message
-- files, whose messages are among `others`.
abbrev pub InboxSaves : List Apdu → HeldAndCommitted DeskContents → HeldAndCommitted DeskContents → Type 0
InboxSaves others old now =
    (form : Form) × (message_files : List MessageFile) × Bring (IsOneOf others) message_files
    × SavesRun old (inbox_run (after_message_files many_sides form old.live message_files) 0) now

-- The commands `inbox` and `exchange`, which began at the desk `old`, have taken and saved message files, whose
-- messages are among `others`. Their state is `met` now.
pub record NightReaches (others : List Apdu) (old : HeldAndCommitted DeskContents) (met : CommandState DeskContents) : Type 0
  where
    pub form : Form
    pub start : CommandState DeskContents
    pub from : start.desk ≡ old
    pub night : Night
    pub taken : TakesMessageFiles form start (Ok night) met
    pub came : Bring (IsOneOf others) (message_files_taken taken)

-- Returns the run of the deeds of the day `today` at a desk with the sides `live`, printed in the form `form`.
abbrev pub deeds_of_day : Form → Date → Dates → DeskContents → Run DeskContents (Unit {0})
deeds_of_day form today which live = deeds_run form many_sides (after_dates which today live)

-- The command `exchange`, which began at the desk `old`, saves the sides of `now`: after its message files it has done
-- the deeds of the day `today`.
abbrev pub DeedsSave : List Apdu → HeldAndCommitted DeskContents → HeldAndCommitted DeskContents → Type 0
DeedsSave others old now =
    (met : CommandState DeskContents) × (reached : NightReaches others old met) × (today : Date) × (which : Dates)
    × SavesRun met.desk (deeds_of_day reached.form today which met.desk.live) now

-- A command, which began at the desk `old`, comes to a save. It saves the sides of `now`.
abbrev pub Saves : List Apdu → HeldAndCommitted DeskContents → HeldAndCommitted DeskContents → Type 0
Saves others old now = ActSaves old now ⊎ TakeSaves others old now ⊎ InboxSaves others old now ⊎ DeedsSave others old now

-- A command, which began at the desk `old`, has the desk `now`, and is in no save. It has saved nothing yet, or a part.
abbrev pub Reaches : List Apdu → HeldAndCommitted DeskContents → HeldAndCommitted DeskContents → Type 0
Reaches others old now =
    (now ≡ old)
    ⊎ ((last : Progress DeskContents) × TakeReaches others old last × (now ≡ last.state.desk))
    ⊎ ((met : CommandState DeskContents) × NightReaches others old met × (now ≡ met.desk))

-- ---- a command that is cut off

-- The power goes in a save of a command of the library `before`, or after this save has failed. `others` have left the
-- other library. The file then has the record `last`, which it had before the save, or that of the saved sides, which
-- can be read. No message has left.
pub record IsCutInSave (others : List Apdu) (before after : Library) : Type 0 where
  pub old : HeldAndCommitted DeskContents
  pub starts : StartsFrom before.file old
  pub now : HeldAndCommitted DeskContents
  pub saves : Saves others old now
  pub encoded : IsReadAgain many_sides now.live
  pub last : List ℕ
  pub committed : now.committed ≡ Some (Some last)
  pub file : (after.file ≡ last) ⊎ (after.file ≡ many_sides.encoding now.live)
  pub left : after.left ≡ before.left

-- The power goes between the saves of a command of the library `before`, or before the first one. The file has what has
-- committed. No message has left.
pub record IsCutBetweenSaves (others : List Apdu) (before after : Library) : Type 0 where
  pub old : HeldAndCommitted DeskContents
  pub starts : StartsFrom before.file old
  pub now : HeldAndCommitted DeskContents
  pub reaches : Reaches others old now
  pub committed : now.committed ≡ Some (Some after.file)
  pub left : after.left ≡ before.left

-- Returns the library `after` of a command from `before`. Of the messages `leaving` only the first `size` have left.
abbrev pub with_first : ℕ → Library → List Apdu → Library → Library
with_first size before leaving after = record after { left = before.left ++ take size leaving }

-- The power goes when a command of the library `before` sends, by `exchange`, or by `outbox` and `send`. Only the first
-- of its messages have left.
abbrev pub IsCutInSending : List Apdu → Library → Library → Type 0
IsCutInSending others before after =
    (whole : Library) × (size : ℕ)
    × (((command : IsCommand (Exchanges others) before whole) × (after ≡ with_first size before command.leaving whole))
    ⊎ ((command : IsCommand Sends before whole) × (after ≡ with_first size before command.leaving whole)))

-- The power goes in a command of the library `before`, which leaves the library `after`. `others` have left the other
-- library.
abbrev pub LosesPower : List Apdu → Library → Library → Type 0
LosesPower others before after =
    IsCutInSave others before after ⊎ IsCutBetweenSaves others before after ⊎ IsCutInSending others before after

-- ---- histories through losses of power

-- One of the two libraries performs a command, or loses its power in one. The other one stays as it is.
abbrev pub HappensOrLoses : Libraries → Libraries → Type 0
HappensOrLoses before after =
    (who : Role)
    × (Commands (party before (other who)).left (party before who) (party after who)
    ⊎ LosesPower (party before (other who)).left (party before who) (party after who))
    × (party after (other who) ≡ party before (other who))

-- Commands, and losses of power in them, lead from `now` to the first of `later`, and from each of these to the next
-- one.
unfoldable pub IsPoweredHistory : Libraries → List Libraries → Type 0
IsPoweredHistory now [] = Unit {0}
IsPoweredHistory now (next ∷ later) = HappensOrLoses now next × IsPoweredHistory next later

-- Each visit is a command of one of the two libraries at the group, or its power goes in one, one visit after another.
unfoldable pub IsPoweredShelfHistory : ShelfLibraries → List GroupVisit → Type 0
IsPoweredShelfHistory w [] = Unit {0}
IsPoweredShelfHistory w (visit ∷ later) =
    HappensOrLoses (w visit.group) visit.after × IsPoweredShelfHistory (after_visit w visit) later
