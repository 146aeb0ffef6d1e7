-- Answers the contract of `run_desk_loan` (`src/loan.rt`).
use Rattle.std.proofs.Common.{rules, ◌≡◌, Option, Some, None, Err, ℕ, List, sym, subst}
use Rattle.std.proofs.KnownBytes.{Appends-nil}
use Rattle.ill_record.specs.Sides.{side_with}
use Rattle.ill_record.specs.Side.{txn_of}
use Rattle.ill_saved.specs.Holdings.{DeskEntry}
use Rattle.ill_saved.specs.ManySides.{held_for, sides_held}
use Rattle.ill_saved.proofs.Contents.{held_there, none_held_there}
use Rattle.ill_text.specs.declared.fault.ToolFault.TheVariants.{OutOfMemory}
use Rattle.ill_text.specs.Output.{WritesPrefix}
use Rattle.ill_show.specs.Loan.{IsTextOf, RunsLoan, beside_of, loan_text}
use Rattle.ill_beside.specs.Notes.{note_of}
use Rattle.ill_show.proofs.LoanLemmas.{writes_loan}
use Rattle.ill_show.proofs.loan.run_desk_loan.Goals as goal

-- Proves the contract of `run_desk_loan` if the side is held and its text is found. `there` finds the side, and
-- `counted` the number of its released messages. The entry consists of both, and the text of the entry is written.
pub returns-in-Ok : goal.returns-in-Ok
returns-in-Ok g c =
    let live = c.args.desk.now.live in
    let txn = c.args.view.now.txn.now in
    let form = c.args.view.now.form in
    let side = c.in-Some.side.now in
    let beside = beside_of c.args.beside.now in
    let before = g.W.Write.contents c.args.writer.now in
    let after = g.W.Write.contents c.write_whole.new.writer in
    let text = c.in-Ok.text.items in
    let there : side_with txn (sides_held live).sides ≡ Some side = search rules in
    let counted : c.released.result ≡ (held_for txn live).released = search rules in
    let note = note_of beside.notes (txn_of side) in
    let held = loan_text form note beside.diary (record { side = side; released = (held_for txn live).released }) in
    let is = subst (λ (released : ℕ). IsTextOf (loan_text form note beside.diary (record { side = side; released = released }))
    (txn_of side) beside.came text) counted c.in-Ok.ensures in
    let writes = subst (λ (t : List ℕ). WritesPrefix before after t c.write_whole.result) c.deref.ensures.value
    c.write_whole.ensures in
    subst (λ (found : Option DeskEntry). RunsLoan form beside found before after c.write_whole.result)
    (sym (held_there live txn side there))
    (writes_loan held (txn_of side) beside.came text before after c.write_whole.result is writes)

-- Proves the contract of `run_desk_loan` if memory runs out for the text. Then nothing is written.
pub returns-in-Err : goal.returns-in-Err
returns-in-Err g c =
    let live = c.args.desk.now.live in
    let txn = c.args.view.now.txn.now in
    let before = g.W.Write.contents c.args.writer.now in
    let there : side_with txn (sides_held live).sides ≡ Some c.in-Some.side.now = search rules in
    subst (λ (found : Option DeskEntry).
    RunsLoan c.args.view.now.form (beside_of c.args.beside.now) found before before (Err OutOfMemory))
    (sym (held_there live txn c.in-Some.side.now there)) (Appends-nil before)

-- Proves the contract of `run_desk_loan` if the side is not held. Then the desk has no entry of it.
pub returns-in-None : goal.returns-in-None
returns-in-None g c =
    let live = c.args.desk.now.live in
    let none : side_with c.args.view.now.txn.now (sides_held live).sides ≡ None = search rules in
    let held = none_held_there live c.args.view.now.txn.now none in
    search (rules, held)
