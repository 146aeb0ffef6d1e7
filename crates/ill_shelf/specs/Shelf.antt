-- A shelf: a folder of desks of one role, one for each group of transactions. The group of a transaction
-- gives the name of its desk (this profile's own).
use Rattle.std.specs.Prelude.{◌≡◌, ◌⊎◌, ℕ, Bool, true, false, ◌&&◌, List, Option, None, Some, is_some, Result, Ok}
use Rattle.std.specs.Prelude.{Err}
use Rattle.ill_store.specs.Store.{StoreState}
use Rattle.ill_text.specs.declared.fault.ToolFault.{ToolFault}
use Rattle.ill_text.specs.declared.fault.ToolFault.TheVariants.{Deferred}
use Rattle.ill_text.specs.declared.form.Form.{Form}
use Rattle.ill_text.specs.declared.form.Form.TheVariants.{Lines}
use Rattle.ill_shelf.specs.declared.visit.Visit.{Visit}
use Rattle.ill_shelf.specs.declared.visit.Visit.TheVariants as visits
use Rattle.ill_der.specs.Handling.{Handles}
use Rattle.ill_der.specs.ShortForm.{encoding}
use Rattle.ill_commands.specs.AtFile.{ShowsFile, TakesAtFile}
use Rattle.ill_commands.specs.Streams.{Streams, streams_of}
use Rattle.ill_files.specs.Opening.{FailsToOpen}
use Rattle.ill_files.specs.ShelfNames.{AreOnShelf}
use Rattle.ill_place.specs.Place.{PlaceOf, ShelfOf, place_of}
use Rattle.ill_exchange.specs.Nights.{ExchangesAtFile, InboxAtFile, OutboxAtFile, asked_night}
use Rattle.ill_text.specs.Input.{ReadsInput}
use Rattle.ill_desk.specs.Take.{answer_of}
use Rattle.ill_desk.specs.declared.take.TakeForm.{TakeForm}
use Rattle.ill_rows.specs.Heading.{heading}
use Rattle.ill_text.specs.Output.{WritesText}
use Rattle.ill_text.specs.Visits.{Stop, VisitsEach, graver}
use Rattle.ill_text.specs.Fault.{IsFileFault}
use Rattle.ill_key.specs.KeyCommand.{FailsAtKey}
use Rattle.ill_sorting.specs.Opened.{opened_answer}
use Rattle.ill_shelf.specs.Home.{IsDeskFor}

-- ---- one desk after another

-- The effect of a command at the desk of a place. After the place come the output before it, the output after it, and
-- its result.
abbrev pub AtDesk : Type 0 → Type 1
AtDesk S = PlaceOf S → Option (List ℕ) → Option (List ℕ) → Result Bool ToolFault → Type 0

-- If the line of the path was written, the command ran at the desk, as `Runs` says. If the writing of this line failed,
-- its fault is the answer, and nothing more was written.
abbrev pub RunsAfter : (Option (List ℕ) → Option (List ℕ) → Result Bool ToolFault → Type 0) → Result (Unit {0}) ToolFault →
    Option (List ℕ) → Option (List ℕ) → Result Bool ToolFault → Type 0
RunsAfter Runs (Ok done) between after answer = Runs between after answer
RunsAfter Runs (Err fault) between after answer = (answer ≡ Err fault) × (after ≡ between)

-- If `is_headed`, the line of the path was written first. Then the command ran at the desk, as `Runs` says. `state`
-- gives the state of the store of a desk.
abbrev pub Headed : {S : Type 0} → (state : S → StoreState) → Bool → AtDesk S → Stop → Type 0
Headed state is_headed Runs stop =
    (between : Option (List ℕ)) × (printed : Result (Unit {0}) ToolFault)
    × WritesText stop.before between (heading is_headed stop.path) printed
    × RunsAfter (Runs (place_of state stop.path)) printed between stop.after stop.answer

-- Returns true if the form is that of lines.
abbrev pub is_lines : Form → Bool
is_lines Lines = true
is_lines form = false

-- Returns true if the line of its path is written before each desk. No line is written if messages or objects of JSON
-- go to the output.
abbrev pub is_headed : Visit → Bool
is_headed (visits.Status form) = is_lines form
is_headed (visits.Exchange night key) = is_lines night.form
is_headed (visits.Outbox outlet) = is_some outlet
is_headed visit = true

-- The effect of a visit at the desk of a place: that of its command there.
abbrev pub RunsVisit : {S : Type 0} → Visit → AtDesk S
RunsVisit (visits.Status form) = λ place. ShowsFile place form
RunsVisit (visits.Inbox folder) = InboxAtFile
RunsVisit (visits.Outbox outlet) = OutboxAtFile (is_some outlet)
RunsVisit (visits.Exchange night key) = ExchangesAtFile (asked_night night)

-- The desks at `paths` were visited one after another, and `answer` is the gravest of their answers.
abbrev pub VisitsAll : (Visits : Stop → Type 0) → (paths : List (List ℕ)) → Option (List ℕ) → Option (List ℕ) →
    Result Bool ToolFault → Type 0
VisitsAll Visits paths before after answer = VisitsEach (λ is_first. Visits) paths before after answer

-- The result is true, the fault `Deferred` (message files wait for the next run), or the fault of a file or of memory.
abbrev pub IsFurther : Result Bool ToolFault → Type 0
IsFurther (Ok is_success) = is_success ≡ true
IsFurther (Err Deferred) = Unit {0}
IsFurther (Err fault) = IsFileFault fault

-- Desks of the shelf in `folder` were visited. The result is the graver of their gravest answer and of `further`. That
-- tells if message files wait, or a file failed. Or the shelf could not be opened.
abbrev pub VisitsShelf : (folder : List ℕ) → (Visits : Stop → Type 0) → Option (List ℕ) → Option (List ℕ) →
    Result Bool ToolFault → Type 0
VisitsShelf folder Visits before after result =
    FailsToOpen before after result
    ⊎ ((paths : List (List ℕ)) × (answer further : Result Bool ToolFault) × AreOnShelf folder paths
    × VisitsAll Visits paths before after answer × IsFurther further × (result ≡ graver answer further))

-- ---- letters

-- The letters that had come to the shelf in `folder` were opened, and then its desks were visited. The result is the
-- graver of the visits' result and of that of the opening. Or the shelf could not be opened, or no key could be used.
abbrev pub OpensShelf : (folder : List ℕ) → (Visits : Stop → Type 0) → Option (List ℕ) → Option (List ℕ) →
    Result Bool ToolFault → Type 0
OpensShelf folder Visits before after result =
    FailsAtKey before after result
    ⊎ ((done : Result Bool ToolFault) × (is_waiting are_sealed : Bool) × VisitsShelf folder Visits before after done
    × (result ≡ graver done (opened_answer is_waiting are_sealed)))

-- Desks of the shelf in `folder` were visited. With a key, the letters that had come were opened before.
abbrev pub VisitsWith : (key : Option (List ℕ)) → (folder : List ℕ) → (Visits : Stop → Type 0) → Option (List ℕ) →
    Option (List ℕ) → Result Bool ToolFault → Type 0
VisitsWith None folder Visits before after result = VisitsShelf folder Visits before after result
VisitsWith (Some key) folder Visits before after result = OpensShelf folder Visits before after result

-- ---- an input

-- The state of `take` on a shelf: the shelf's folder, the form and the output. `all_fine` is true if all went well so
-- far.
pub record ShelfTaking : Type 0 where
  pub folder : List ℕ
  pub form : TakeForm
  pub all_fine : Bool
  pub written : Option (List ℕ)

-- The APDU `a` was taken as by `take` at the desk of its group, or at the shelf's own desk. `a` alone was the input.
-- `state` gives the state of the store of a desk. If all went well, `all_fine` stays as it was.
abbrev pub TakesAtHome : {S : Type 0} → (state : S → StoreState) → Handles ShelfTaking ToolFault
TakesAtHome state old a (Ok done) new =
    (path : List ℕ) × IsDeskFor old.folder a.txn.group path × (is_success : Bool) × (rest : Option (List ℕ))
    × TakesAtFile (place_of state path) old.form (streams_of (Some (encoding a)) old.written) (Ok is_success)
    (streams_of rest new.written)
    × (new ≡ record old { all_fine = old.all_fine && is_success; written = new.written })
TakesAtHome state old a (Err fault) new =
    (path : List ℕ) × IsDeskFor old.folder a.txn.group path × (rest : Option (List ℕ))
    × TakesAtFile (place_of state path) old.form (streams_of (Some (encoding a)) old.written) (Err fault)
    (streams_of rest new.written)

-- Returns the state before the first APDU.
abbrev pub shelf_taking : (folder : List ℕ) → TakeForm → Option (List ℕ) → ShelfTaking
shelf_taking folder form before = record { folder = folder; form = form; all_fine = true; written = before }

-- The APDUs of the input were taken, each at its desk. Or the shelf could not be opened.
abbrev pub TakesAtShelf : {S : Type 0} → ShelfOf S → TakeForm → Streams → Result Bool ToolFault → Streams → Type 0
TakesAtShelf shelf form old result new =
    (FailsToOpen old.written new.written result × (new.unread ≡ old.unread))
    ⊎ ((count : Result ℕ ToolFault) × (end : ShelfTaking)
    × ReadsInput (TakesAtHome shelf.state) old.unread new.unread (shelf_taking shelf.folder form old.written) count end
    × (new.written ≡ end.written) × (result ≡ answer_of count end.all_fine))
