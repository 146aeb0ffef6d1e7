-- Answers the contract of `exchange_at` (`src/exchange.rt`).
use Rattle.std.proofs.Common.{ap, subst, ◌∙◌}
use Rattle.ill_desk.specs.Performing.{command_state, view_of}
use Rattle.ill_text.specs.declared.form.Form.{Form}
use Rattle.ill_inbox.specs.Inbox.{arrived_of}
use Rattle.ill_exchange.specs.Nights.{ExchangesAt, asked_night}
use Rattle.ill_exchange.proofs.RoomsLemmas.{night_opened, night_unopened}
use Rattle.ill_exchange.proofs.exchange.exchange_at.Goals as goal

-- Proves the contract of `exchange_at` if the message files of the desk could not be opened.
pub returns-in-Err : goal.returns-in-Err
returns-in-Err g c =
    night_unopened (asked_night c.args.night.now) (view_of g.S.Store.state c.args.desk.now)
    (g.W.Write.contents c.args.machine.now.writer) (g.W.Write.contents c.open_message_files.new.machine.writer)
    c.in-Err.fault c.in-Err.ensures.faults (ap (λ writer. g.W.Write.contents writer) c.in-Err.ensures.silent)

-- Proves the contract of `exchange_at` if the message files are opened. The night is that of `night_in`, printed in the
-- form of `night`. All else writes nothing.
pub returns : goal.returns
returns g c =
    let view = view_of g.S.Store.state in
    let old = command_state (view c.args.desk.now) (g.W.Write.contents c.args.machine.now.writer) in
    let new = command_state (view c.night_in-done.new.desk)
    (g.W.Write.contents c.report_fault_of_message_file.new.machine.writer) in
    let night = night_opened (arrived_of c.batch_of.result) c.args.night.now.dates (view c.args.desk.now)
    (view c.night_in-done.new.desk) (g.W.Write.contents c.args.machine.now.writer)
    (g.W.Write.contents c.open_message_files.new.machine.writer) (g.W.Write.contents c.night_in-done.new.machine.writer)
    (g.W.Write.contents c.report_fault_of_message_file.new.machine.writer) c.night_in-done.result
    c.report_fault_of_message_file.result
    c.night_in-done.ensures.over (ap (λ writer. g.W.Write.contents writer) c.in-Ok.ensures.silent)
    (ap (λ writer. g.W.Write.contents writer) (c.report_fault_of_message_file.ensures.silent ∙ c.warn_of_streams.ensures))
    c.report_fault_of_message_file.ensures.answer in
    subst (λ (form : Form). ExchangesAt (record { form = form; dates = c.args.night.now.dates }) old
    c.report_fault_of_message_file.result new) c.batch_of.ensures.form night
