-- A good night of two libraries, command by command: which messages leave, which arrive, and what the files then hold.
use Rattle.std.specs.Prelude.{◌≡◌, ℕ, Bool, List, [], ◌∷◌, map, flat_map, Option, None, Some, option_map, Result, Ok, Err}
use Rattle.std.proofs.Common.{inl, inr}
use Rattle.ill_values.specs.Day.{Date}
use Rattle.ill_values.specs.TxnId.{Qualifiers}
use Rattle.ill_values.specs.declared.apdu.Apdu.{Apdu}
use Rattle.ill_der.specs.Laws.{IsBytes}
use Rattle.ill_core.specs.declared.responder.Deed.{Deed}
use Rattle.ill_record.specs.Ranges.{Each}
use Rattle.ill_record.specs.Sides.{SidesOf}
use Rattle.ill_record.specs.RecordsV2.{records_at}
use Rattle.ill_saved.specs.ManySides.{DeskContents, side_for}
use Rattle.ill_text.specs.declared.fault.ToolFault.{ToolFault}
use Rattle.ill_desk.specs.Performing.{CommandState}
use Rattle.ill_night.specs.declared.verdict.MessageFile.{MessageFile}
use Rattle.ill_night.specs.declared.verdict.Verdict.{Verdict}
use Rattle.ill_night.specs.declared.verdict.Verdict.TheVariants.{Done}
use Rattle.ill_night.specs.Outbox.{Issue, is_asked, leaving_desk}
use Rattle.ill_exchange.specs.Nights.{AskedNight, Night, ExchangesAt}
use Rattle.ill_world.specs.Round.{CanAnswer}
use Rattle.ill_runs.specs.MessageFile.{message_files_of, message_files_taken, message_of}
use Rattle.ill_runs.specs.Libraries.{Exchanges, IsCommand, IsHistory, Libraries, Library, TakesMessageFile, libraries_after}
use Rattle.ill_nights.specs.Messages.{ConvergedOrAtRest, after_deeds_of, after_messages, messages_for, sent_by}

-- ---- what leaves in a night

-- A night was whole. Its message files were taken, its deeds were done, its desk was copied, and `left` are all
-- messages of its outbox. `asking` are the messages that ask: their message files are done with, and their loans are
-- over at the desk.
abbrev pub IsWhole : (asked : AskedNight) → {old new : CommandState DeskContents} →
    {result : Result Bool ToolFault} → ExchangesAt asked old result new → (asking left : List Apdu) → Type 0
IsWhole asked (met, Err fault, taken, ends) asking left = ⊥
IsWhole asked (met, Ok night, taken, (rested, Err fault, deeds, sends, same)) asking left = ⊥
IsWhole asked (met, Ok night, taken, (rested, Ok done, deeds, inl failed, same)) asking left = ⊥
IsWhole asked (met, Ok night, taken, (rested, Ok done, deeds, inr (sent, inl failed, ends), same)) asking left = ⊥
IsWhole asked (met, Ok night, taken, (rested, Ok done, deeds, inr (sent, inr (said, are, printed), ends), same)) asking left =
    (said ≡ asking) × (left ≡ map (λ (issue : Issue). issue.apdu) (leaving_desk asking rested.desk.live.held))

-- A whole night leads from the library `before` to `after`, by the command `exchange`. `others` are the messages that
-- have left the other library. `asking` are the messages that ask in this night.
pub record IsNight (others : List Apdu) (before after : Library) : Type 0 where
  pub command : IsCommand (Exchanges others) before after
  pub asking : List Apdu
  pub whole : IsWhole command.runs.0 command.runs.2 asking command.leaving

-- ---- what arrives

-- Returns the messages of `message_files`, in their order. A message file that holds not just one message has none.
abbrev pub messages_of : List MessageFile → List Apdu
messages_of message_files = flat_map message_of message_files

-- Returns the messages of the message files that a night took, in their order.
abbrev pub messages_came : {others : List Apdu} → {before after : Library} → IsNight others before after → List Apdu
messages_came night = messages_of (message_files_of night.command.runs.0 night.command.runs.2)

-- All message files of the transaction were carried, whole and once, and they lay in the order in which they left.
-- `left` have left the other library, and `came` came.
abbrev pub IsCarried : Qualifiers → List Apdu → List Apdu → Type 0
IsCarried txn left came = messages_for txn came ≡ messages_for txn left

-- The desk has done with a message file: it is neither quarantined nor left for the next run.
abbrev pub IsDone : Verdict → Type 0
IsDone (Done outcome) = Unit {0}
IsDone verdict = ⊥

-- Each message file with a message of the transaction has a verdict, and the desk has done with it.
abbrev pub AreDone : Qualifiers → List MessageFile → List Verdict → Type 0
AreDone txn [] verdicts = Unit {0}
AreDone txn (message_file ∷ message_files) [] = (messages_for txn (message_of message_file) ≡ []) × AreDone txn message_files []
AreDone txn (message_file ∷ message_files) (verdict ∷ verdicts) =
    Each (λ a. IsDone verdict) (messages_for txn (message_of message_file)) × AreDone txn message_files verdicts

-- If a message file could be read, it is bytes.
abbrev pub IsBytesOf : Option (List ℕ) → Type 0
IsBytesOf None = Unit {0}
IsBytesOf (Some bytes) = IsBytes bytes

-- Each message file that could be read is bytes.
abbrev pub AreBytes : List MessageFile → Type 0
AreBytes message_files = Each (λ (message_file : MessageFile). IsBytesOf (option_map (λ bytes. bytes.items) message_file.bytes))
    message_files

-- Returns the verdicts of the message files that a desk took in a night. If the taking failed, they are none.
abbrev pub verdicts_of : (asked : AskedNight) → {old new : CommandState DeskContents} →
    {result : Result Bool ToolFault} → ExchangesAt asked old result new → List Verdict
verdicts_of asked (met, Err fault, taken, ends) = []
verdicts_of asked (met, Ok night, taken, ends) = night.verdicts

-- In a night the message files were bytes, and each message file of the transaction was done with.
abbrev pub HasDone : Qualifiers → {others : List Apdu} → {before after : Library} → IsNight others before after → Type 0
HasDone txn night =
    AreBytes (message_files_of night.command.runs.0 night.command.runs.2)
    × AreDone txn (message_files_of night.command.runs.0 night.command.runs.2)
    (verdicts_of night.command.runs.0 night.command.runs.2)

-- ---- what a night does to a loan

-- The file of the library `after` can be read. The messages of the transaction among `left` are all that its side has
-- issued, in order, or none (`sent_by`). If the loan is open, they are all. `asking` are the messages that ask.
abbrev pub LeftOf : Qualifiers → Library → List Apdu → List Apdu → Type 0
LeftOf txn after asking left =
    (held : SidesOf) × (records_at after.file ≡ Ok held)
    × (messages_for txn left ≡ sent_by (is_asked asking txn) (side_for txn held))

-- The files before and after a command can be read. The side of the transaction has taken its messages among `came`, in
-- order, and then done some deeds.
abbrev pub TookOf : Qualifiers → Library → Library → List Apdu → Type 0
TookOf txn before after came =
    (old new : SidesOf) × (deeds : List (Deed × Date)) × (records_at before.file ≡ Ok old) × (records_at after.file ≡ Ok new)
    × (side_for txn new ≡ after_deeds_of (after_messages (side_for txn old) (messages_for txn came)) deeds)

-- ---- a good night

-- All message files of a folder were taken and saved, by the command `inbox`. It leads from the library `before` to
-- `after`. `others` are the messages that have left the other library.
pub record IsInbox (others : List Apdu) (before after : Library) : Type 0 where
  pub command : IsCommand (TakesMessageFile others) before after
  pub night : Night
  pub taken : command.runs.1 ≡ Ok night

-- A library took all its message files, by `inbox` or in a whole night. `others` have left the other library.
pub data TakesAll (others : List Apdu) (before after : Library) : Type 0 where
  by_inbox : IsInbox others before after → TakesAll others before after
  by_night : IsNight others before after → TakesAll others before after

-- Returns the messages of the message files that a library took, in their order.
abbrev pub messages_of_all : {others : List Apdu} → {before after : Library} → TakesAll others before after → List Apdu
messages_of_all (by_inbox inbox) = messages_of (message_files_taken inbox.command.runs.2)
messages_of_all (by_night night) = messages_came night

-- People work at the responder's library: any commands lead from the libraries `asked` to `met`. The requester's
-- library is unchanged then. `people` are the libraries after each command.
pub record AreAtWork (asked met : Libraries) : Type 0 where
  pub people : List Libraries
  pub work : IsHistory asked people
  pub met_then : libraries_after asked people ≡ met
  pub requester : met.requester ≡ asked.requester

-- A good night of the transaction `txn` leads from the libraries `before` to `after`. The requester's library sends its
-- messages, and then people may work at the responder's. The responder's takes the messages, is done with each, and
-- sends its own. The requester's takes these. No message file of `txn` is lost.
pub record IsGoodNight (txn : Qualifiers) (before after : Libraries) : Type 0 where
  pub asked : Library
  pub met : Libraries
  pub asks : IsNight before.responder.left before.requester asked
  pub people : AreAtWork (record { requester = asked; responder = before.responder }) met
  pub answers : IsNight met.requester.left met.responder after.responder
  pub takes : TakesAll after.responder.left met.requester after.requester
  pub there : IsCarried txn asks.command.leaving (messages_came answers)
  pub back : IsCarried txn answers.command.leaving (messages_of_all takes)
  pub done : HasDone txn answers

-- ---- what the files hold

-- The files of both libraries can be read. Their sides of the transaction are converged or at rest.
abbrev pub AreConvergedIn : Qualifiers → Libraries → Type 0
AreConvergedIn txn libraries =
    (requester responder : SidesOf) × (records_at libraries.requester.file ≡ Ok requester)
    × (records_at libraries.responder.file ≡ Ok responder)
    × ConvergedOrAtRest (side_for txn requester) (side_for txn responder)

-- If the file of the library can be read, the side of the transaction there can answer a Conditional-Reply no.
abbrev pub CanAnswerIn : Qualifiers → Library → Type 0
CanAnswerIn txn library = (held : SidesOf) → records_at library.file ≡ Ok held → CanAnswer (side_for txn held)
