-- The commands that take and send the message files of a desk in a file.
use Rattle.std.specs.Prelude.{◌≡◌, ◌⊎◌, ℕ, Bool, true, false, not, if◌then◌else◌, List, length, Option, None, Some, Result, Ok}
use Rattle.std.specs.Prelude.{Err, IsErrAnd}
use Rattle.ill_values.specs.Day.{Date}
use Rattle.ill_values.specs.declared.apdu.Apdu.{Apdu}
use Rattle.ill_saved.specs.Holdings.{DeskEntry}
use Rattle.ill_saved.specs.Desk.{DeskOf}
use Rattle.ill_saved.specs.ManySides.{DeskContents, many_sides}
use Rattle.ill_text.specs.declared.fault.ToolFault.{ToolFault}
use Rattle.ill_text.specs.declared.fault.ToolFault.TheVariants.{Deferred}
use Rattle.std.specs.List.{zip}
use Rattle.ill_record.specs.declared.role.Role.{Role}
use Rattle.ill_desk.specs.Performing.{CommandState, command_state, view_of}
use Rattle.ill_text.specs.Output.{WritesText}
use Rattle.ill_night.specs.declared.verdict.MessageFile.{MessageFile}
use Rattle.ill_night.specs.declared.verdict.Verdict.{Verdict}
use Rattle.ill_night.specs.declared.night.Dates.{Dates}
use Rattle.ill_night.specs.declared.night.Night.{Night as NightRun}
use Rattle.ill_exchange.specs.declared.exchange.Taken.{Taken}
use Rattle.ill_inbox.specs.Dates.{RunsDates}
use Rattle.ill_inbox.specs.DeedDiary.{EntersDeeds, lines_of_dates}
use Rattle.ill_text.specs.Diary.{DiaryState}
use Rattle.ill_night.specs.Person.{wants_person}
use Rattle.ill_inbox.specs.Inbox.{Arrived, RunsInbox, ending, is_waiting, tally_of}
use Rattle.ill_inbox.specs.Objects.{printed_sent}
use Rattle.ill_text.specs.declared.form.Form.{Form}
use Rattle.ill_text.specs.declared.form.Form.TheVariants.{Lines}
use Rattle.ill_text.specs.Input.{AreIn}
use Rattle.ill_night.specs.Outbox.{StreamsOutbox, asked_by, letters_of}
use Rattle.ill_files.specs.Opening.{Succeeds, FailsToOpen}
use Rattle.ill_place.specs.Place.{PlaceOf, StartsAt}
use Rattle.ill_text.specs.Fault.{IsFileFault, IsOpenFault}

-- The message files of a run, their verdicts, and the number of further message files that wait.
pub record Night : Type 0 where
  pub verdicts : List Verdict
  pub message_files : List MessageFile
  pub waiting : ℕ

-- Returns the message files that a run of the code has taken.
abbrev pub taken_of : Taken → Night
taken_of taken = record {
  verdicts = taken.verdicts.items;
  message_files = taken.found.message_files.items;
  waiting = taken.found.waiting;
}

-- A run over `message_files`, beside which `waiting` further ones wait, ended with this answer. Then the files of the
-- message files were settled, and the result is the night. Or that failed. A fault of the run is the result.
abbrev pub SettlesRun : List MessageFile → ℕ → Result (List Verdict) ToolFault → Result Night ToolFault → Type 0
SettlesRun message_files waiting (Ok verdicts) result =
    (result ≡ Ok (record { verdicts = verdicts; message_files = message_files; waiting = waiting })) ⊎ IsErrAnd result IsFileFault
SettlesRun message_files waiting (Err fault) result = result ≡ Err fault

-- Returns the message files that arrived, as they are printed in the form `form`.
abbrev pub arrived_in : Form → List MessageFile → (waiting : ℕ) → Arrived
arrived_in form message_files waiting = record { form = form; message_files = message_files; waiting = waiting }

-- The message files of a folder were taken at a desk, printed in the form `form`, and their files settled. Further
-- message files may wait. Or a file could not be opened, and the desk is unchanged.
abbrev pub TakesMessageFiles : Form → CommandState DeskContents → Result Night ToolFault → CommandState DeskContents → Type 0
TakesMessageFiles form old result new =
    (FailsToOpen old.written new.written result × (new.desk ≡ old.desk))
    ⊎ ((message_files : List MessageFile) × (waiting : ℕ) × (answer : Result (List Verdict) ToolFault)
    × RunsInbox many_sides (arrived_in form message_files waiting) old answer new
    × SettlesRun message_files waiting answer result)

-- Returns the result of `inbox` after a run. It is the fault `Deferred` if message files wait for the next run. Else it
-- is true if no message file was quarantined or in conflict.
abbrev pub ending_of : Result Night ToolFault → Result Bool ToolFault
ending_of (Ok night) = ending (tally_of night.verdicts) night.waiting
ending_of (Err fault) = Err fault

-- The command `inbox` took the message files of a folder at the desk of the place. Or a file could not be opened.
abbrev pub InboxAtFile : {S : Type 0} → PlaceOf S → Option (List ℕ) → Option (List ℕ) → Result Bool ToolFault → Type 0
InboxAtFile {S} place before after result =
    FailsToOpen before after result
    ⊎ ((old new : DeskOf DeskContents S) × StartsAt place old × (taken : Result Night ToolFault)
    × TakesMessageFiles Lines (command_state (view_of place.state old) before) taken
    (command_state (view_of place.state new) after)
    × (result ≡ ending_of taken))

-- The messages that want sending were put into a folder, and their number written in the form `form`. `bytes` has the
-- messages that ask. The content of the folder is not known. Or a file could not be opened.
abbrev pub SendsAsked : Form → List ℕ → List DeskEntry → Option (List ℕ) → Option (List ℕ) → Result (Unit {0}) ToolFault →
    Type 0
SendsAsked form bytes held before after result =
    (IsErrAnd result IsOpenFault × (after ≡ before))
    ⊎ ((asking : List Apdu) × AreIn bytes asking
    × WritesText before after (printed_sent form (length (letters_of asking held))) result)

-- The messages that want sending were put into a folder, and their number written. Some messages ask, in a
-- file of unknown content. Or a file could not be opened.
abbrev pub SendsTo : List DeskEntry → Option (List ℕ) → Option (List ℕ) → Result (Unit {0}) ToolFault → Type 0
SendsTo held before after result =
    FailsToOpen before after result ⊎ ((bytes : List ℕ) × SendsAsked Lines bytes held before after result)

-- The messages that want sending were written to the output, one after another. Or a file could not be
-- opened.
abbrev pub SendsOn : List DeskEntry → Option (List ℕ) → Option (List ℕ) → Result (Unit {0}) ToolFault → Type 0
SendsOn held before after result =
    FailsToOpen before after result ⊎ ((bytes : List ℕ) × StreamsOutbox bytes held before after result)

-- The messages of a desk were put into a folder if the argument is true, else written to the output.
abbrev pub SendsFrom : Bool → List DeskEntry → Option (List ℕ) → Option (List ℕ) → Result (Unit {0}) ToolFault → Type 0
SendsFrom true = SendsTo
SendsFrom false = SendsOn

-- The command `outbox` sent the messages of the desk of the place. Or its file could not be opened.
abbrev pub OutboxAtFile : {S : Type 0} → Bool → PlaceOf S → Option (List ℕ) → Option (List ℕ) → Result Bool ToolFault → Type 0
OutboxAtFile {S} has_folder place before after result =
    FailsToOpen before after result
    ⊎ ((desk : DeskOf DeskContents S) × StartsAt place desk × Succeeds (SendsFrom has_folder desk.live.held before after) result)

-- If `dates` has a day, the deeds of that day were performed, saved, and printed in the form `form`. Else nothing
-- changed.
abbrev pub PerformsDueDeeds : Form → Option (Date × Dates) → CommandState DeskContents → Result (Unit {0}) ToolFault →
    CommandState DeskContents → Type 0
PerformsDueDeeds form None old result new = (result ≡ Ok tt) × (new.written ≡ old.written) × (new.desk ≡ old.desk)
PerformsDueDeeds form (Some (today, which)) old result new = RunsDates form which today old result new

-- The deeds of the day of `dates` at the desk `live` were entered in a diary, with this answer. Each line begins with
-- `begin`. Without a day nothing was entered.
abbrev pub EntersDueDeeds : Option (Date × Dates) → (begin : List ℕ) → (live : DeskContents) → Result (Unit {0}) ToolFault →
    DiaryState → DiaryState → Type 0
EntersDueDeeds None begin live result old new = new ≡ old
EntersDueDeeds (Some (today, which)) begin live result old new =
    EntersDeeds result (lines_of_dates which today begin live) old new

-- Returns the result of a night. It is the fault `Deferred` if message files wait, false if a message file wants a
-- person, else true.
abbrev pub night_ending : Role → Night → Result Bool ToolFault
night_ending role night =
    if is_waiting (tally_of night.verdicts) night.waiting then Err Deferred
    else Ok (not (wants_person role (zip night.message_files night.verdicts)))

-- If the messages were sent, the result is `ending`, or the fault of the file that marks the run. If they
-- were not, it is the fault of the sending.
abbrev pub EndsAfterSending : Result Bool ToolFault → Result (Unit {0}) ToolFault → Result Bool ToolFault → Type 0
EndsAfterSending ending (Ok done) result = (result ≡ ending) ⊎ IsErrAnd result IsFileFault
EndsAfterSending ending (Err fault) result = result ≡ Err fault

-- Returns the messages of a night that ask: they came for loans that are over at the desk `live`.
abbrev pub night_asks : DeskContents → Night → List ℕ
night_asks live night = asked_by live (zip night.message_files night.verdicts)

-- The end of a night, after its deeds: a copy of the desk `live`, and then the sending. A loan that a deed
-- has ended wants sending if a message of it came in this night. If the copy fails, nothing is sent.
abbrev pub SendsAll : Form → Night → DeskContents → Option (List ℕ) → Option (List ℕ) → Result Bool ToolFault → Type 0
SendsAll form night live before after result =
    (IsErrAnd result IsFileFault × (after ≡ before))
    ⊎ ((sent : Result (Unit {0}) ToolFault) × SendsAsked form (night_asks live night) live.held before after sent
    × EndsAfterSending (night_ending live.role night) sent result)

-- The deeds of a night had an answer. If they were performed, `Sends` holds, which says the result of the night. Else
-- the result is the fault of the deeds, and nothing more was written.
abbrev pub AfterDeeds : Result (Unit {0}) ToolFault → Option (List ℕ) → Option (List ℕ) → Type 0 → Result Bool ToolFault →
    Type 0
AfterDeeds (Ok done) before after Sends result = Sends
AfterDeeds (Err fault) before after Sends result = (result ≡ Err fault) × (after ≡ before)

-- The arguments of a night: the day and its deeds, if a day is given, and the form in which all is printed.
pub record AskedNight : Type 0 where
  pub form : Form
  pub dates : Option (Date × Dates)

-- Returns the arguments of a night of the code.
abbrev pub asked_night : NightRun → AskedNight
asked_night night = record { form = night.form; dates = night.dates }

-- The rest of a night, after its message files were taken: the deeds of the day, and then the sending. If the message
-- files could not be taken, nothing more is done.
abbrev pub FinishesNight : AskedNight → Result Night ToolFault → CommandState DeskContents →
    Result Bool ToolFault → CommandState DeskContents → Type 0
FinishesNight asked (Err fault) old result new =
    (result ≡ Err fault) × (new.written ≡ old.written) × (new.desk ≡ old.desk)
FinishesNight asked (Ok night) old result new =
    (met : CommandState DeskContents) × (said : Result (Unit {0}) ToolFault)
    × PerformsDueDeeds asked.form asked.dates old said met
    × AfterDeeds said met.written new.written (SendsAll asked.form night met.desk.live met.written new.written result) result
    × (new.desk ≡ met.desk)

-- A night of a desk leads from `old` to `new`. Its message files were taken, the deeds of the day performed, and its
-- messages sent.
abbrev pub ExchangesAt : AskedNight → CommandState DeskContents → Result Bool ToolFault →
    CommandState DeskContents → Type 0
ExchangesAt asked old result new =
    (met : CommandState DeskContents) × (taken : Result Night ToolFault)
    × TakesMessageFiles asked.form old taken met × FinishesNight asked taken met result new

-- The command `exchange` performed a night of the desk of the place. Or its file could not be opened.
abbrev pub ExchangesAtFile : {S : Type 0} → AskedNight → PlaceOf S → Option (List ℕ) → Option (List ℕ) →
    Result Bool ToolFault → Type 0
ExchangesAtFile {S} asked place before after result =
    FailsToOpen before after result
    ⊎ ((old new : DeskOf DeskContents S) × StartsAt place old
    × ExchangesAt asked (command_state (view_of place.state old) before) result
    (command_state (view_of place.state new) after))
