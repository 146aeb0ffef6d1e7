-- Answers the contract of `run_on_shelf` (`src/words.rt`), command by command, as `words/run/Answers.antt` does for
-- `run`.
-- The streams are `old` before the command and `new` after it, with `before` and `after` as outputs. `left` is the
-- input before the command, and `rest` the input after it. `shelf` is the shelf in the folder of the request.
use Rattle.std.proofs.Common.{ℕ, Bool, Bor, List, map, refl, sym, subst}
use Rattle.std.specs.Prelude.{option_map}
use Rattle.ill_line.specs.declared.request.Request.{Request}
use Rattle.ill_line.specs.Asked.{asked}
use Rattle.ill_exchange.specs.Keyed.{WithKey}
use Rattle.ill_exchange.specs.Nights.{OutboxAtFile}
use Rattle.ill_tool.specs.Runs.{RunsShelf}
use Rattle.ill_beside.specs.Notes.{note_text}
use Rattle.ill_shelf.specs.Home.{ActsAtHome, NotesAtHome}
use Rattle.ill_shelf.specs.Shelf.{Headed, TakesAtShelf, VisitsShelf}
use Rattle.ill_commands.specs.Letters.{TakesWith}
use Rattle.ill_commands.specs.Streams.{streams_of}
use Rattle.ill_place.specs.Place.{shelf_of}
use Rattle.ill_desk.specs.declared.take.TakeForm.{TakeForm}
use Rattle.ill_tool.proofs.WordsLemmas.{is_some_mapped}
use Rattle.ill_tool.proofs.words.run_on_shelf.Goals as goal

-- Proves the contract of `run_on_shelf` for the request `Act`. It is the contract of `act_on_shelf`, which reads no
-- input.
pub returns-in-Act : goal.returns-in-Act
returns-in-Act g c =
    let left = g.R.Read.remaining c.args.reader.now in
    let before = g.W.Write.contents c.args.machine.now.writer in
    let after = g.W.Write.contents c.act_on_shelf.new.machine.writer in
    let act = c.in-Act in
    let shelf = shelf_of g.D.DeskStore.Store.state act.file.now in
    let acted = subst (λ (words : List (Bor (List ℕ))). ActsAtHome shelf (record {
      asking = record {
        txn = act.txn;
        today = act.today;
        words = map (λ word. word.now) words;
        seen = option_map (λ text. text.now) act.seen;
        is_trial = act.is_trial;
      };
      is_long = act.is_long;
      is_new_group = act.is_new_group;
    }) before after c.act_on_shelf.result) c.deref.ensures.value c.act_on_shelf.ensures in
    subst (λ (request : Request). RunsShelf g.D.DeskStore.Store.state (asked request) (streams_of left before)
    c.act_on_shelf.result (streams_of left after)) (sym act.is) (refl, acted)

-- Proves the contract of `run_on_shelf` for the request `Note`. It is the contract of `note_on_shelf`, which reads no
-- input.
pub returns-in-Note : goal.returns-in-Note
returns-in-Note g c =
    let left = g.R.Read.remaining c.args.reader.now in
    let before = g.W.Write.contents c.args.machine.now.writer in
    let after = g.W.Write.contents c.note_on_shelf.new.machine.writer in
    let shelf = shelf_of g.D.DeskStore.Store.state c.in-Note.file.now in
    let noted = subst (λ (words : List (Bor (List ℕ))).
    NotesAtHome shelf c.in-Note.txn (note_text (map (λ word. word.now) words)) before after
    c.note_on_shelf.result) c.deref-in-Note.ensures.value c.note_on_shelf.ensures in
    subst (λ (request : Request). RunsShelf g.D.DeskStore.Store.state (asked request) (streams_of left before)
    c.note_on_shelf.result (streams_of left after)) (sym c.in-Note.is) (refl, noted)

-- Proves the contract of `run_on_shelf` for the request `Send`. It is the contract of `send_on_shelf_with`, which reads
-- no input.
pub returns-in-Send : goal.returns-in-Send
returns-in-Send g c =
    let left = g.R.Read.remaining c.args.reader.now in
    let old = streams_of left (g.W.Write.contents c.args.machine.now.writer) in
    let new = streams_of left (g.W.Write.contents c.send_on_shelf_with.new.machine.writer) in
    subst (λ (request : Request). RunsShelf g.D.DeskStore.Store.state (asked request) old c.send_on_shelf_with.result new)
    (sym c.in-Send.is) (refl, c.send_on_shelf_with.ensures)

-- Proves the contract of `run_on_shelf` for the request `Loan`. It is the contract of `loan_on_shelf`, which reads no
-- input.
pub returns-in-Loan : goal.returns-in-Loan
returns-in-Loan g c =
    let left = g.R.Read.remaining c.args.reader.now in
    let old = streams_of left (g.W.Write.contents c.args.machine.now.writer) in
    let new = streams_of left (g.W.Write.contents c.loan_on_shelf.new.machine.writer) in
    subst (λ (request : Request). RunsShelf g.D.DeskStore.Store.state (asked request) old c.loan_on_shelf.result new)
    (sym c.in-Loan.is) (refl, c.loan_on_shelf.ensures)

-- Proves the contract of `run_on_shelf` for the request `Status`. It is the contract of `status_of_shelf`, which reads
-- no input.
pub returns-in-Status : goal.returns-in-Status
returns-in-Status g c =
    let left = g.R.Read.remaining c.args.reader.now in
    let old = streams_of left (g.W.Write.contents c.args.machine.now.writer) in
    let new = streams_of left (g.W.Write.contents c.status_of_shelf.new.machine.writer) in
    subst (λ (request : Request). RunsShelf g.D.DeskStore.Store.state (asked request) old c.status_of_shelf.result new)
    (sym c.in-Status.is) (refl, c.status_of_shelf.ensures)

-- Proves the contract of `run_on_shelf` for the request `Outbox`. It is the contract of `outbox_of_shelf_with`, which
-- reads no input.
pub returns-in-Outbox : goal.returns-in-Outbox
returns-in-Outbox g c =
    let left = g.R.Read.remaining c.args.reader.now in
    let before = g.W.Write.contents c.args.machine.now.writer in
    let after = g.W.Write.contents c.outbox_of_shelf_with.new.machine.writer in
    let result = c.outbox_of_shelf_with.result in
    let key = option_map (λ text. text.now) c.in-Outbox.key in
    let sent = subst (λ (has_folder : Bool). WithKey key
    (VisitsShelf c.in-Outbox.file.now (Headed g.D.DeskStore.Store.state has_folder (OutboxAtFile has_folder))) before after
    result)
    (is_some_mapped (λ text. text.now) c.in-Outbox.folder) c.outbox_of_shelf_with.ensures in
    subst (λ (request : Request). RunsShelf g.D.DeskStore.Store.state (asked request) (streams_of left before) result
    (streams_of left after)) (sym c.in-Outbox.is) (refl, sent)

-- Proves the contract of `run_on_shelf` for the request `Exchange`. It is the contract of `exchange_of_shelf_with`,
-- which reads no input.
pub returns-in-Exchange : goal.returns-in-Exchange
returns-in-Exchange g c =
    let left = g.R.Read.remaining c.args.reader.now in
    let old = streams_of left (g.W.Write.contents c.args.machine.now.writer) in
    let new = streams_of left (g.W.Write.contents c.exchange_of_shelf_with.new.machine.writer) in
    subst (λ (request : Request). RunsShelf g.D.DeskStore.Store.state (asked request) old c.exchange_of_shelf_with.result new)
    (sym c.in-Exchange.is) (refl, c.exchange_of_shelf_with.ensures)

-- Proves the contract of `run_on_shelf` for the request `Slip`. It is the contract of `slip_on_shelf`, which reads no
-- input.
pub returns-in-Slip : goal.returns-in-Slip
returns-in-Slip g c =
    let left = g.R.Read.remaining c.args.reader.now in
    let old = streams_of left (g.W.Write.contents c.args.machine.now.writer) in
    let new = streams_of left (g.W.Write.contents c.slip_on_shelf.new.machine.writer) in
    subst (λ (request : Request). RunsShelf g.D.DeskStore.Store.state (asked request) old c.slip_on_shelf.result new)
    (sym c.in-Slip.is) (refl, c.slip_on_shelf.ensures)

-- Proves the contract of `run_on_shelf` for the request `Retire`. It is the contract of `retire`, which reads no
-- input.
pub returns-in-Retire : goal.returns-in-Retire
returns-in-Retire g c =
    let left = g.R.Read.remaining c.args.reader.now in
    let old = streams_of left (g.W.Write.contents c.args.machine.now.writer) in
    let new = streams_of left (g.W.Write.contents c.retire.new.machine.writer) in
    subst (λ (request : Request). RunsShelf g.D.DeskStore.Store.state (asked request) old c.retire.result new)
    (sym c.in-Retire.is) (refl, c.retire.ensures)

-- Proves the contract of `run_on_shelf` for the request `Take`. It is the contract of `take_on_shelf_with`, in the form
-- that `take_view` passes.
pub returns-in-Take : goal.returns-in-Take
returns-in-Take g c =
    let left = g.R.Read.remaining c.args.reader.now in
    let rest = g.R.Read.remaining c.take_on_shelf_with.new.reader in
    let before = g.W.Write.contents c.args.machine.now.writer in
    let after = g.W.Write.contents c.take_on_shelf_with.new.machine.writer in
    let shelf = shelf_of g.D.DeskStore.Store.state c.in-Take.file.now in
    let old = streams_of left before in
    let new = streams_of rest after in
    let took = subst (λ (form : TakeForm). TakesWith (option_map (λ file. file.now) c.in-Take.key) (TakesAtShelf shelf form) old
    c.take_on_shelf_with.result new) c.take_view.ensures c.take_on_shelf_with.ensures in
    subst (λ (request : Request). RunsShelf g.D.DeskStore.Store.state (asked request) old c.take_on_shelf_with.result new)
    (sym c.in-Take.is) took
