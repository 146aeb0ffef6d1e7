-- Answers the contract of `send_copied` (`src/rooms.rt`).
use Rattle.std.proofs.Common.{ℕ, List, Option, Bool, Result, inr, Ok, ap, subst, sym, ◌∙◌}
use Rattle.ill_text.specs.declared.fault.ToolFault.{ToolFault}
use Rattle.std.specs.Prelude.{option_map}
use Rattle.ill_room.specs.Sealed.{PutsWith, sealing_of}
use Rattle.ill_exchange.specs.Nights.{EndsAfterSending, SendsAsked}
use Rattle.ill_exchange.specs.Rooms.{PutsAsked, out_state}
use Rattle.ill_exchange.proofs.RoomsLemmas.{signs_after}
use Rattle.ill_exchange.proofs.rooms.send_copied.Goals as goal

-- Proves the clause `all` of `send_copied` if all messages were sent. `put_asked` has written all output, since the
-- sign of life writes nothing.
pub returns-in-Ok-put_asked-clause-all : goal.returns-in-Ok-put_asked-clause-all
returns-in-Ok-put_asked-clause-all g c =
    let desk = c.args.desk.now.live in
    let sent = Ok c.in-Ok-put_asked.field-0 in
    let before = g.W.Write.contents c.args.machine.now.writer in
    let quiet = ap (λ writer. g.W.Write.contents writer) c.sign.ensures.silent in
    let asks = c.deref.ensures.value ∙ c.in-Ok.ensures in
    let form = c.args.plan.now.batch.form in
    let printed = subst (λ (after : Option (List ℕ)). SendsAsked form c.deref.result.now desk.held before after sent) (sym quiet)
    c.in-Ok-put_asked.ensures.sends in
    inr (
      sent,
      subst (λ (bytes : List ℕ). SendsAsked form bytes desk.held before (g.W.Write.contents c.sign.new.machine.writer) sent) asks
          printed,
      subst (λ (ending : Result Bool ToolFault). EndsAfterSending ending sent c.sign.result) c.ending.ensures
          c.sign.ensures.ends,
    )

-- Proves the clause `sends` of `send_copied` if all messages were sent. Then a sign of life was given, or that
-- failed.
pub returns-in-Ok-put_asked-clause-sends : goal.returns-in-Ok-put_asked-clause-sends
returns-in-Ok-put_asked-clause-sends g c =
    let desk = c.args.desk.now.live in
    let old = out_state g.B.Backup.state g.O.Outgoing.message_files c.args.rooms.now in
    let after = g.O.Outgoing.message_files c.put_asked.new.out in
    let asks = c.deref.ensures.value ∙ c.in-Ok.ensures in
    let sealing = option_map sealing_of c.args.plan.now.seal in
    let puts = subst (λ (bytes : List ℕ). PutsAsked (PutsWith g.O.Outgoing.after sealing) bytes desk old.out after
    (Ok c.in-Ok-put_asked.field-0)) asks c.in-Ok-put_asked.ensures.puts in
    signs_after (PutsWith g.O.Outgoing.after sealing) _ desk old (g.B.Backup.state c.sign.new.backup) after
    c.in-Ok-put_asked.field-0 puts c.sign.ensures.signs
