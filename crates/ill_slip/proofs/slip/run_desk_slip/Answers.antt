-- Answers the contract of `run_desk_slip` (`src/slip.rt`).
use Rattle.std.proofs.Common.{rules, ◌≡◌, Option, Some, None, Err, ℕ, List, sym, subst, ◌∙◌}
use Rattle.std.proofs.KnownBytes.{Appends-nil}
use Rattle.ill_record.specs.Sides.{side_with}
use Rattle.ill_saved.specs.Holdings.{DeskEntry}
use Rattle.ill_saved.specs.ManySides.{sides_held}
use Rattle.ill_saved.proofs.Contents.{held_there, none_held_there}
use Rattle.ill_text.specs.declared.fault.ToolFault.TheVariants.{OutOfMemory}
use Rattle.ill_text.specs.Output.{WritesPrefix}
use Rattle.ill_slip.specs.Slip.{RunsSlip, slip_page}
use Rattle.ill_slip.proofs.SlipLemmas.{writes_page}
use Rattle.ill_slip.proofs.slip.run_desk_slip.Goals as goal

-- Proves the contract of `run_desk_slip` if the side is held. Its slip is written.
pub returns-in-Ok : goal.returns-in-Ok
returns-in-Ok g c =
    let live = c.args.desk.now.live in
    let txn = c.args.txn.now in
    let side = c.in-Some.side.now in
    let before = g.W.Write.contents c.args.writer.now in
    let after = g.W.Write.contents c.write_whole.new.writer in
    let there : side_with txn (sides_held live).sides ≡ Some side = search rules in
    let page : c.in-Ok.page.items ≡ slip_page side = search rules in
    let writes = subst (λ (t : List ℕ). WritesPrefix before after t c.write_whole.result)
    (c.deref.ensures.value ∙ page) c.write_whole.ensures in
    subst (λ (found : Option DeskEntry). RunsSlip found before after c.write_whole.result)
    (sym (held_there live txn side there)) (writes_page before after (slip_page side) c.write_whole.result writes)

-- Proves the contract of `run_desk_slip` if memory runs out for the slip. Then nothing is written.
pub returns-in-Err : goal.returns-in-Err
returns-in-Err g c =
    let live = c.args.desk.now.live in
    let txn = c.args.txn.now in
    let before = g.W.Write.contents c.args.writer.now in
    let there : side_with txn (sides_held live).sides ≡ Some c.in-Some.side.now = search rules in
    subst (λ (found : Option DeskEntry). RunsSlip found before before (Err OutOfMemory))
    (sym (held_there live txn c.in-Some.side.now there)) (Appends-nil before)

-- Proves the contract of `run_desk_slip` if the side is not held. Then the desk has no entry of it.
pub returns-in-None : goal.returns-in-None
returns-in-None g c =
    let live = c.args.desk.now.live in
    let none : side_with c.args.txn.now (sides_held live).sides ≡ None = search rules in
    let held = none_held_there live c.args.txn.now none in
    search (rules, held)
