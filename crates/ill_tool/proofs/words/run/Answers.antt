-- Answers the contract of `run` (`src/words.rt`), command by command. Each answer takes the contract of the called
-- function. The equation `is` of the case says that the request is of this variant.
-- `acted`, `noted`, `sent` and `took` are the contract of the called function, on the request's own texts. `place` is
-- the file of the desk.
-- The streams are `old` before the command and `new` after it, with `before` and `after` as outputs. `left` is the
-- input before the command, and `rest` the input after it.
use Rattle.std.proofs.Common.{ℕ, Bool, Bor, List, map, refl, sym, subst}
use Rattle.ill_line.specs.declared.request.Request.{Request}
use Rattle.ill_line.specs.Asked.{asked}
use Rattle.ill_tool.specs.Runs.{Runs}
use Rattle.ill_beside.specs.Notes.{note_text}
use Rattle.ill_commands.specs.AtFile.{ActsAtFile, TakesAtFile}
use Rattle.ill_commands.specs.Note.{NotesAtFile}
use Rattle.ill_commands.specs.Letters.{TakesWith}
use Rattle.ill_commands.specs.Streams.{streams_of}
use Rattle.ill_exchange.specs.Keyed.{WithKey}
use Rattle.ill_visits.specs.Visits.{ListsDesk, ReportsPaths, PrintsDesk, VisitsPaths}
use Rattle.ill_exchange.specs.Nights.{OutboxAtFile}
use Rattle.ill_place.specs.Place.{place_of}
use Rattle.ill_tool.proofs.WordsLemmas.{is_some_mapped}
use Rattle.ill_desk.specs.declared.take.TakeForm.{TakeForm}
use Rattle.std.specs.Prelude.{option_map}
use Rattle.ill_tool.proofs.words.run.Goals as goal

-- Proves the contract of `run` for the request `Act`. It is the contract of `act`, which reads no input.
pub returns-in-Act : goal.returns-in-Act
returns-in-Act g c =
    let left = g.R.Read.remaining c.args.reader.now in
    let before = g.W.Write.contents c.args.machine.now.writer in
    let after = g.W.Write.contents c.act.new.machine.writer in
    let act = c.in-Act in
    let place = place_of g.D.DeskStore.Store.state act.file.now in
    let acted = subst (λ (words : List (Bor (List ℕ))). ActsAtFile place (record {
      txn = act.txn;
      today = act.today;
      words = map (λ word. word.now) words;
      seen = option_map (λ text. text.now) act.seen;
      is_trial = act.is_trial;
    }) act.is_long before after c.act.result) c.deref.ensures.value c.act.ensures in
    subst (λ (request : Request). Runs g.D.DeskStore.Store.state (asked request) (streams_of left before) c.act.result
    (streams_of left after)) (sym act.is) (refl, acted)

-- Proves the contract of `run` for the request `Status`. It is the contract of `status`, which reads no input.
pub returns-in-Status : goal.returns-in-Status
returns-in-Status g c =
    let left = g.R.Read.remaining c.args.reader.now in
    let old = streams_of left (g.W.Write.contents c.args.machine.now.writer) in
    let new = streams_of left (g.W.Write.contents c.status.new.machine.writer) in
    subst (λ (request : Request). Runs g.D.DeskStore.Store.state (asked request) old c.status.result new) (sym c.in-Status.is)
    (refl, c.status.ensures)

-- Proves the contract of `run` for the request `Note`. It is the contract of `note`, which reads no input.
pub returns-in-Note : goal.returns-in-Note
returns-in-Note g c =
    let left = g.R.Read.remaining c.args.reader.now in
    let before = g.W.Write.contents c.args.machine.now.writer in
    let after = g.W.Write.contents c.note.new.machine.writer in
    let place = place_of g.D.DeskStore.Store.state c.in-Note.file.now in
    let noted = subst (λ (words : List (Bor (List ℕ))).
    NotesAtFile place c.in-Note.txn (note_text (map (λ word. word.now) words)) before after c.note.result)
    c.deref-in-Note.ensures.value c.note.ensures in
    subst (λ (request : Request). Runs g.D.DeskStore.Store.state (asked request) (streams_of left before) c.note.result
    (streams_of left after)) (sym c.in-Note.is) (refl, noted)

-- Proves the contract of `run` for the request `Send`. It is the contract of `send_with`, which reads no input.
pub returns-in-Send : goal.returns-in-Send
returns-in-Send g c =
    let left = g.R.Read.remaining c.args.reader.now in
    let old = streams_of left (g.W.Write.contents c.args.machine.now.writer) in
    let new = streams_of left (g.W.Write.contents c.send_with.new.machine.writer) in
    subst (λ (request : Request). Runs g.D.DeskStore.Store.state (asked request) old c.send_with.result new) (sym c.in-Send.is)
    (refl, c.send_with.ensures)

-- Proves the contract of `run` for the request `Loan`. It is the contract of `loan`, which reads no input.
pub returns-in-Loan : goal.returns-in-Loan
returns-in-Loan g c =
    let left = g.R.Read.remaining c.args.reader.now in
    let old = streams_of left (g.W.Write.contents c.args.machine.now.writer) in
    let new = streams_of left (g.W.Write.contents c.loan.new.machine.writer) in
    subst (λ (request : Request). Runs g.D.DeskStore.Store.state (asked request) old c.loan.result new) (sym c.in-Loan.is)
    (refl, c.loan.ensures)

-- Proves the contract of `run` for the request `Slip`. It is the contract of `slip`, which reads no input.
pub returns-in-Slip : goal.returns-in-Slip
returns-in-Slip g c =
    let left = g.R.Read.remaining c.args.reader.now in
    let old = streams_of left (g.W.Write.contents c.args.machine.now.writer) in
    let new = streams_of left (g.W.Write.contents c.slip.new.machine.writer) in
    subst (λ (request : Request). Runs g.D.DeskStore.Store.state (asked request) old c.slip.result new) (sym c.in-Slip.is)
    (refl, c.slip.ensures)

-- Proves the contract of `run` for the request `List`. It is the contract of `list`, which reads no input.
pub returns-in-List : goal.returns-in-List
returns-in-List g c =
    let left = g.R.Read.remaining c.args.reader.now in
    let before = g.W.Write.contents c.args.machine.now.writer in
    let after = g.W.Write.contents c.list.new.machine.writer in
    let lists = ListsDesk c.in-List.form c.in-List.wanted (option_map (λ text. text.now) c.in-List.find) in
    let listed = subst (λ (paths : List (Bor (List ℕ))). VisitsPaths lists (map (λ path. path.now) paths) before after
    c.list.result) c.deref-in-List.ensures.value c.list.ensures in
    subst (λ (request : Request). Runs g.D.DeskStore.Store.state (asked request) (streams_of left before) c.list.result
    (streams_of left after)) (sym c.in-List.is) (refl, listed)

-- Proves the contract of `run` for the request `News`. It is the contract of `news`, which reads no input.
pub returns-in-News : goal.returns-in-News
returns-in-News g c =
    let left = g.R.Read.remaining c.args.reader.now in
    let before = g.W.Write.contents c.args.machine.now.writer in
    let after = g.W.Write.contents c.news.new.machine.writer in
    let tells = PrintsDesk c.in-News.form c.in-News.last c.in-News.since in
    let printed = subst (λ (paths : List (Bor (List ℕ))). VisitsPaths tells (map (λ path. path.now) paths) before after
    c.news.result) c.deref-in-News.ensures.value c.news.ensures in
    subst (λ (request : Request). Runs g.D.DeskStore.Store.state (asked request) (streams_of left before) c.news.result
    (streams_of left after)) (sym c.in-News.is) (refl, printed)

-- Proves the contract of `run` for the request `Report`. It is the contract of `report`, which reads no input.
pub returns-in-Report : goal.returns-in-Report
returns-in-Report g c =
    let left = g.R.Read.remaining c.args.reader.now in
    let before = g.W.Write.contents c.args.machine.now.writer in
    let after = g.W.Write.contents c.report.new.machine.writer in
    let written = subst (λ (paths : List (Bor (List ℕ))). ReportsPaths c.in-Report.today c.in-Report.since
    (map (λ path. path.now) paths) before after c.report.result) c.deref-in-Report.ensures.value c.report.ensures in
    subst (λ (request : Request). Runs g.D.DeskStore.Store.state (asked request) (streams_of left before) c.report.result
    (streams_of left after)) (sym c.in-Report.is) (refl, written)

-- Proves the contract of `run` for the request `Inbox`. It is the contract of `inbox_with`, which reads no input.
pub returns-in-Inbox : goal.returns-in-Inbox
returns-in-Inbox g c =
    let left = g.R.Read.remaining c.args.reader.now in
    let old = streams_of left (g.W.Write.contents c.args.machine.now.writer) in
    let new = streams_of left (g.W.Write.contents c.inbox_with.new.machine.writer) in
    subst (λ (request : Request). Runs g.D.DeskStore.Store.state (asked request) old c.inbox_with.result new) (sym c.in-Inbox.is)
    (refl, c.inbox_with.ensures)

-- Proves the contract of `run` for the request `Exchange`. It is the contract of `exchange_with`, which reads no input.
pub returns-in-Exchange : goal.returns-in-Exchange
returns-in-Exchange g c =
    let left = g.R.Read.remaining c.args.reader.now in
    let old = streams_of left (g.W.Write.contents c.args.machine.now.writer) in
    let new = streams_of left (g.W.Write.contents c.exchange_with.new.machine.writer) in
    subst (λ (request : Request). Runs g.D.DeskStore.Store.state (asked request) old c.exchange_with.result new)
    (sym c.in-Exchange.is)
    (refl, c.exchange_with.ensures)

-- Proves the contract of `run` for the request `Outbox`. It is the contract of `outbox_with`, which reads no input.
pub returns-in-Outbox : goal.returns-in-Outbox
returns-in-Outbox g c =
    let left = g.R.Read.remaining c.args.reader.now in
    let before = g.W.Write.contents c.args.machine.now.writer in
    let after = g.W.Write.contents c.outbox_with.new.machine.writer in
    let key = option_map (λ text. text.now) c.in-Outbox.key in
    let place = place_of g.D.DeskStore.Store.state c.in-Outbox.file.now in
    let sent = subst (λ (has_folder : Bool).
    WithKey key (OutboxAtFile has_folder place) before after c.outbox_with.result)
    (is_some_mapped (λ text. text.now) c.in-Outbox.folder) c.outbox_with.ensures in
    subst (λ (request : Request). Runs g.D.DeskStore.Store.state (asked request) (streams_of left before)
    c.outbox_with.result (streams_of left after)) (sym c.in-Outbox.is) (refl, sent)

-- Proves the contract of `run` for the request `Take`. It is the contract of `take_with`, in the form that `take_view`
-- passes.
pub returns-in-Take : goal.returns-in-Take
returns-in-Take g c =
    let left = g.R.Read.remaining c.args.reader.now in
    let rest = g.R.Read.remaining c.take_with.new.reader in
    let before = g.W.Write.contents c.args.machine.now.writer in
    let after = g.W.Write.contents c.take_with.new.machine.writer in
    let place = place_of g.D.DeskStore.Store.state c.in-Take.file.now in
    let old = streams_of left before in
    let new = streams_of rest after in
    let took = subst (λ (form : TakeForm). TakesWith (option_map (λ file. file.now) c.in-Take.key) (TakesAtFile place form) old
    c.take_with.result new) c.take_view.ensures c.take_with.ensures in
    subst (λ (request : Request). Runs g.D.DeskStore.Store.state (asked request) old c.take_with.result new)
    (sym c.in-Take.is) took
