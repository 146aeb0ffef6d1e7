-- The contract of each command line: the command that it asks for is run.
use Rattle.std.specs.Prelude.{◌≡◌, ℕ, Bool, List, Option, None, is_some, Result, Ok, Err, ◌⊎◌, true, IsErrAnd}
use Rattle.clap.specs.Values.{kind_of}
use Rattle.ill_values.specs.TxnId.{txn_id_of}
use Rattle.ill_store.specs.Store.{StoreState}
use Rattle.ill_text.specs.declared.fault.ToolFault.{ToolFault}
use Rattle.ill_text.specs.declared.fault.ToolFault.TheVariants.{Arguments, OutOfMemory, Write}
use Rattle.ill_text.specs.Show.{RunsShow}
use Rattle.ill_text.specs.Check.{Checks}
use Rattle.ill_tool.specs.Simulate.{RunsSimulate, RunsSimulateDesks}
use Rattle.ill_line.specs.Asked.{Asked, asked}
use Rattle.ill_line.specs.Asked as asks
use Rattle.ill_line.specs.declared.request.Call.{Call}
use Rattle.ill_line.specs.declared.request.Call.TheVariants as calls
use Rattle.ill_line.specs.declared.request.Refusal.{Refusal}
use Rattle.ill_line.specs.declared.request.Refusal.TheVariants.{Usage, Fault}
use Rattle.ill_tool.specs.ExitStatus.{IsFlushed, PrintsKind, exit_status, status_of}
use Rattle.ill_tool.specs.Help.{PrintsHelp}
use Rattle.ill_commands.specs.AtFile.{ActsAtFile, LoanAtFile, NewAtFile, ShowsFile, SlipAtFile}
use Rattle.ill_commands.specs.AtFile.{TakesAtFile, VerifiesFile, message_of}
use Rattle.ill_visits.specs.Visits.{CountsPaths, ListsDesk, ReportsPaths, PrintsDesk, VisitsPaths}
use Rattle.ill_commands.specs.Letters.{SendsWith, TakesWith}
use Rattle.ill_commands.specs.Note.{NotesAtFile}
use Rattle.ill_commands.specs.Streams.{Streams, streams_of}
use Rattle.ill_key.specs.KeyCommand.{RunsKey}
use Rattle.ill_files.specs.Opening.{Succeeds}
use Rattle.ill_place.specs.Place.{file_state, place_of, shelf_of}
use Rattle.ill_beside.specs.Notes.{note_text}
use Rattle.ill_exchange.specs.Keyed.{WithKey}
use Rattle.ill_exchange.specs.Nights.{InboxAtFile, OutboxAtFile, ExchangesAtFile}
use Rattle.ill_line.specs.Guard.{IsGuarded}
use Rattle.ill_shelf.specs.Home.{ActsAtHome, BeginsShelf, LoanAtHome, NotesAtHome, SendsAtHome, SlipAtHome}
use Rattle.ill_shelf.specs.Retiring.{RetiresAtHome}
use Rattle.ill_shelf.specs.Shelf.{Headed, TakesAtShelf, VisitsShelf, VisitsWith, is_lines}

-- A command read nothing. `Does` holds for its output before the command, its output after the command, and its result.
abbrev pub ReadsNothing : (Does : Option (List ℕ) → Option (List ℕ) → Result Bool ToolFault → Type 0) → Streams →
    Result Bool ToolFault → Streams → Type 0
ReadsNothing Does old result new = (new.unread ≡ old.unread) × Does old.written new.written result

-- A command was refused: it read nothing and wrote nothing.
abbrev pub IsRefused : Streams → Result Bool ToolFault → Streams → Type 0
IsRefused old result new = (new ≡ old) × (result ≡ Err Arguments)

-- The command of this request for one desk, or for none, has this result. Its streams went from `old` to `new`. `state`
-- has the states of the stores of desks. Only a shelf retires a group.
abbrev pub Runs : {S : Type 0} → (state : S → StoreState) → Asked → Streams → Result Bool ToolFault → Streams → Type 0
Runs state (asks.Show form) old result new =
    Succeeds (RunsShow form old.unread new.unread old.written new.written) result
Runs state asks.Check old result new = Succeeds (Checks old.unread new.unread old.written new.written) result
Runs state (asks.Simulate group transaction) old result new =
    Succeeds (RunsSimulate (txn_id_of group transaction) old.unread new.unread old.written new.written) result
Runs state asks.SimulateDesks old result new =
    Succeeds (RunsSimulateDesks old.unread new.unread old.written new.written) result
Runs state (asks.New file role) old result new = ReadsNothing (NewAtFile (place_of state file) role) old result new
Runs state (asks.Act file asking by is_long is_new_group) old result new =
    ReadsNothing (ActsAtFile (place_of state file) asking is_long) old result new
Runs state (asks.Take file form stamp key) old result new =
    TakesWith key (TakesAtFile (place_of state file) form) old result new
Runs state (asks.Inbox file folder stamp key) old result new =
    ReadsNothing (WithKey key (InboxAtFile (place_of state file))) old result new
Runs state (asks.Outbox file folder key) old result new =
    ReadsNothing (WithKey key (OutboxAtFile (is_some folder) (place_of state file))) old result new
Runs state (asks.Exchange file incoming outgoing form dates stamp copy heartbeat key) old result new =
    ReadsNothing (WithKey key (ExchangesAtFile (record { form = form; dates = dates }) (place_of state file))) old result new
Runs state (asks.Key file deed) old result new = RunsKey deed old.unread new.unread old.written new.written result
Runs state (asks.Send file txn number key) old result new =
    ReadsNothing (SendsWith (place_of state file) key (message_of txn number)) old result new
Runs state (asks.Listing paths wanted find form) old result new =
    ReadsNothing (VisitsPaths (ListsDesk form wanted find) paths) old result new
Runs state (asks.News paths last since form) old result new =
    ReadsNothing (VisitsPaths (PrintsDesk form last since) paths) old result new
Runs state (asks.Figures paths view) old result new = ReadsNothing (CountsPaths view paths) old result new
Runs state (asks.Status file form) old result new =
    ReadsNothing (ShowsFile (place_of state file) form) old result new
Runs state (asks.Loan file txn form) old result new =
    ReadsNothing (LoanAtFile (place_of state file) form txn) old result new
Runs state (asks.Note file txn words) old result new =
    ReadsNothing (NotesAtFile (place_of state file) txn (note_text words)) old result new
Runs state (asks.Slip file txn) old result new = ReadsNothing (SlipAtFile (place_of state file) txn) old result new
Runs state (asks.Report paths today since) old result new =
    ReadsNothing (ReportsPaths today since paths) old result new
Runs state (asks.Verify file form) old result new =
    ReadsNothing (VerifiesFile (place_of state file) form) old result new
Runs state (asks.Retire file group) old result new = IsRefused old result new

-- The guard refused a request for one desk, and nothing was read or written. Or the command of the request has this
-- result, as `Runs` says.
abbrev pub RunsGuarded : {S : Type 0} → (state : S → StoreState) → Asked → Streams → Result Bool ToolFault → Streams → Type 0
RunsGuarded state asked old result new = (IsErrAnd result (IsGuarded asked) × (new ≡ old)) ⊎ Runs state asked old result new

-- The command of this request on a shelf has this result. Its streams went from `old` to `new`. For one transaction it
-- has the effect of the command for one desk, at the desk of the group. A command that a shelf lacks is refused.
abbrev pub RunsShelf : {S : Type 0} → (state : S → StoreState) → Asked → Streams → Result Bool ToolFault → Streams → Type 0
RunsShelf state (asks.New folder role) old result new =
    ReadsNothing (BeginsShelf (shelf_of state folder) role) old result new
RunsShelf state (asks.Act folder asking by is_long is_new_group) old result new =
    ReadsNothing (ActsAtHome (shelf_of state folder) (record {
      asking = asking;
      is_long = is_long;
      is_new_group = is_new_group;
    })) old result new
RunsShelf state (asks.Take folder form stamp key) old result new =
    TakesWith key (TakesAtShelf (shelf_of state folder) form) old result new
RunsShelf state (asks.Send folder txn number key) old result new =
    ReadsNothing (SendsAtHome (shelf_of state folder) key (message_of txn number)) old result new
RunsShelf state (asks.Loan folder txn form) old result new =
    ReadsNothing (LoanAtHome (shelf_of state folder) form txn) old result new
RunsShelf state (asks.Note folder txn words) old result new =
    ReadsNothing (NotesAtHome (shelf_of state folder) txn (note_text words)) old result new
RunsShelf state (asks.Slip folder txn) old result new =
    ReadsNothing (SlipAtHome (shelf_of state folder) txn) old result new
RunsShelf state (asks.Status folder form) old result new =
    ReadsNothing (VisitsShelf folder (Headed state (is_lines form) (λ place. ShowsFile place form))) old result new
RunsShelf state (asks.Inbox folder incoming stamp key) old result new =
    ReadsNothing (VisitsWith key folder (Headed state true InboxAtFile)) old result new
RunsShelf state (asks.Outbox folder outgoing key) old result new =
    ReadsNothing (WithKey key (VisitsShelf folder (Headed state (is_some outgoing) (OutboxAtFile (is_some outgoing))))) old
    result new
RunsShelf state (asks.Exchange folder incoming outgoing form dates stamp copy heartbeat key) old result new =
    let night = ExchangesAtFile (record { form = form; dates = dates }) in
    ReadsNothing (VisitsWith key folder (Headed state (is_lines form) night)) old result new
RunsShelf state (asks.Retire folder group) old result new =
    ReadsNothing (RetiresAtHome (shelf_of state folder) group) old result new
RunsShelf state other old result new = IsRefused old result new

-- The command of a call has this result: for one desk behind the guard, on a shelf, or for the command line itself. The
-- last reads nothing.
abbrev pub RunsCall : {S : Type 0} → (state : S → StoreState) → Call → Streams → Result Bool ToolFault → Streams → Type 0
RunsCall state (calls.Desk request) old result new = RunsGuarded state (asked request) old result new
RunsCall state (calls.Shelf request) old result new = RunsShelf state (asked request) old result new
RunsCall state calls.Help old result new = ReadsNothing PrintsHelp old result new

-- The command of a call was run. Its streams were `old` before, and `rest` is left of the input. `result` is its
-- result, or the fault `Write` of the flush. Or there was no memory for the buffer of the output.
abbrev pub PerformsCall : {S : Type 0} → (state : S → StoreState) → Call → (old : Streams) → (rest : Option (List ℕ)) →
    Result Bool ToolFault → Type 0
PerformsCall state call old rest result =
    ((result ≡ Err OutOfMemory) × (rest ≡ old.unread))
    ⊎ ((after : Option (List ℕ)) × (done : Result Bool ToolFault)
    × RunsCall state call old done (streams_of rest after) × IsFlushed done result)

-- A call over the files of the host ends with the exit status of its result. Its output was `before`. The reader that
-- counts the messages of the input tells nothing of their bytes, so the input is unknown.
abbrev pub EndsCall : Call → Option (List ℕ) → ℕ → Type 0
EndsCall call before status =
    (result : Result Bool ToolFault) × PerformsCall file_state call (streams_of None before) None result
    × (status ≡ exit_status result)

-- A command line with this reading ends with the exit status `status`. A call ends as `EndsCall` says, and words that
-- `clap` refuses end as `PrintsKind` says. A fault has its own status, or the status of `Write` if the flush fails.
abbrev pub EndsReading : Result Call Refusal → Option (List ℕ) → Option (List ℕ) → ℕ → Type 0
EndsReading (Ok call) before after status = EndsCall call before status
EndsReading (Err (Usage error)) before after status = PrintsKind (kind_of error) before after status
EndsReading (Err (Fault fault)) before after status = (status ≡ status_of fault) ⊎ (status ≡ status_of Write)

-- A command line has some reading, and ends as `EndsReading` says of this reading. Only for `help --json` a contract
-- says which reading it is.
abbrev pub EndsLine : Option (List ℕ) → Option (List ℕ) → ℕ → Type 0
EndsLine before after status = (reading : Result Call Refusal) × EndsReading reading before after status
