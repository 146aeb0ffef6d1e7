-- Answers the contract of `take_message_files` (`src/exchange.rt`).
use Rattle.std.proofs.Common.{ℕ, List, Ok, Err, Result, ap, refl, ◌∙◌}
use Rattle.ill_desk.specs.Performing.{view_of}
use Rattle.ill_text.specs.declared.fault.ToolFault.{ToolFault}
use Rattle.ill_text.specs.declared.form.Form.TheVariants.{Lines}
use Rattle.ill_inbox.specs.Inbox.{arrived_of}
use Rattle.ill_night.specs.declared.verdict.MessageFile.{MessageFile}
use Rattle.ill_night.specs.declared.verdict.Verdict.{Verdict}
use Rattle.ill_exchange.specs.Nights.{Night, taken_of}
use Rattle.ill_exchange.specs.Rooms.{night_of}
use Rattle.ill_exchange.proofs.RoomsLemmas.{message_files_taken}
use Rattle.ill_exchange.proofs.exchange.take_message_files.Goals as goal

-- Returns the answer of a run over these message files.
abbrev answer_of : List Verdict → ℕ → List MessageFile → Result Night ToolFault
answer_of verdicts waiting message_files = Ok (record { verdicts = verdicts; message_files = message_files; waiting = waiting })

-- Proves the contract of `take_message_files` if the message files were taken. `take_in` takes those of the batch of
-- `batch_of`. All else writes nothing.
pub returns-in-Ok : goal.returns-in-Ok
returns-in-Ok g c =
    let view = view_of g.S.Store.state in
    let batch = c.batch_of-batch.result in
    let found = c.in_ok-opened.opened.found in
    let verdicts = c.in-Ok.verdicts.items in
    message_files_taken (arrived_of batch) Lines (view c.args.desk.now) (view c.take_in-taken.new.desk)
    (g.W.Write.contents c.args.machine.now.writer) (g.W.Write.contents c.open_message_files.new.machine.writer)
    (g.W.Write.contents c.take_in-taken.new.machine.writer) (g.W.Write.contents c.warn_of_streams.new.machine.writer)
    (Ok (night_of (arrived_of batch) verdicts)) (Ok (taken_of (record { found = found; verdicts = c.in-Ok.verdicts })))
    c.in-Ok.ensures.takes c.batch_of-batch.ensures.form
    (ap (λ writer. g.W.Write.contents writer) c.in_ok-opened.ensures.silent)
    (ap (λ writer. g.W.Write.contents writer) c.warn_of_streams.ensures)
    (ap (answer_of verdicts batch.waiting) c.batch_of-batch.ensures.message_files
    ∙ ap (λ waiting. answer_of verdicts waiting found.message_files.items) c.batch_of-batch.ensures.waiting)

-- Proves the contract of `take_message_files` if the message files could not be taken. The fault is that of `take_in`.
pub returns : goal.returns
returns g c =
    let view = view_of g.S.Store.state in
    message_files_taken (arrived_of c.batch_of-batch.result) Lines (view c.args.desk.now) (view c.take_in-taken.new.desk)
    (g.W.Write.contents c.args.machine.now.writer) (g.W.Write.contents c.open_message_files.new.machine.writer)
    (g.W.Write.contents c.take_in-taken.new.machine.writer) (g.W.Write.contents c.warn_of_streams.new.machine.writer)
    (Err c.in-Err.fault) (Err c.in-Err.fault) c.in-Err.ensures.takes c.batch_of-batch.ensures.form
    (ap (λ writer. g.W.Write.contents writer) c.in_ok-opened.ensures.silent)
    (ap (λ writer. g.W.Write.contents writer) c.warn_of_streams.ensures) refl
