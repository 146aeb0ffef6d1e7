-- Answers the contract of `visit_next` (`src/visit.rt`).
use Rattle.std.proofs.Common.{◌≡◌, Err, ap, ◌∙◌}
use Rattle.ill_text.specs.declared.fault.ToolFault.TheVariants.{Write}
use Rattle.ill_visits.proofs.VisitLemmas.{nothing_written}
use Rattle.ill_visits.proofs.visit.visit_next.Goals as goal

-- Proves the contract of `visit_next` if the writer has failed before. By `nothing_written` nothing is written then.
pub returns-in-Err-Write : goal.returns-in-Err-Write
returns-in-Err-Write g c =
    let failed : c.in-Err-Write.field-0 ≡ Write = rw c.in-Err-Write.is at c.in-Err-Write.field-0-is in
    nothing_written c.args.visit.now c.args.listed.now.form c.args.listed.now.is_headed c.args.listed.now.is_first
    c.args.listed.now.path.now (g.W.Write.contents c.args.machine.now.writer) _ (c.in-Err-Write.is ∙ ap Err failed)
