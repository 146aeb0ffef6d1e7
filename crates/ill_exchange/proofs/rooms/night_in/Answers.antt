-- Answers the contract of `night_in` (`src/rooms.rt`).
use Rattle.std.proofs.Common.{List, Ok, subst}
use Rattle.ill_night.specs.declared.verdict.Verdict.{Verdict}
use Rattle.ill_desk.specs.Performing.{command_state, view_of}
use Rattle.ill_inbox.specs.Inbox.{arrived_of}
use Rattle.ill_exchange.specs.Nights.{FinishesNight}
use Rattle.ill_exchange.specs.Rooms.{asked_in, night_of}
use Rattle.ill_exchange.proofs.rooms.night_in.Goals as goal

-- Proves the clause `over` of `night_in` if the message files were taken. The rest of the night is that of `finish_in`.
pub returns-in-Ok-clause-over : goal.returns-in-Ok-clause-over
returns-in-Ok-clause-over g c =
    let view = view_of g.S.Store.state in
    let arrived = arrived_of c.args.plan.now.batch in
    let desk = view c.take_in.new.desk in
    let written = g.W.Write.contents c.take_in.new.machine.writer in
    let rest = subst (λ (verdicts : List Verdict). FinishesNight (asked_in c.args.plan.now)
    (Ok (night_of arrived verdicts)) (command_state desk written) c.finish_in.result
    (command_state (view c.finish_in.new.desk) (g.W.Write.contents c.finish_in.new.machine.writer))) c.deref.ensures.value
    c.finish_in.ensures.finishes in
    (desk, written, Ok (night_of arrived c.in-Ok.verdicts.items), c.in-Ok.ensures.takes, rest)
