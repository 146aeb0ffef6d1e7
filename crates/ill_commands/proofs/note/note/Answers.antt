-- Answers the contract of `note` (`src/note.rt`).
use Rattle.std.proofs.Common.{inr, subst}
use Rattle.ill_record.specs.Sides.{SidesOf, side_with}
use Rattle.ill_beside.specs.Notes.{kept_line}
use Rattle.ill_commands.specs.Note.{KeepsNote, text_of}
use Rattle.ill_commands.proofs.note.note.Goals as goal

-- Proves that the note is kept if the desk that was loaded at the place has the loan.
pub returns : goal.returns
returns g c =
    let desk = c.in_ok-locked.locked.desk in
    let kept = subst (λ (sides : SidesOf). KeepsNote (side_with c.args.view.now.txn.now sides.sides)
    (kept_line c.args.view.now.txn.now (text_of c.args.view.now)) (g.W.Write.contents c.args.machine.now.writer)
    (g.W.Write.contents c.keep_if_held-kept.new.machine.writer) c.keep_if_held-kept.result) c.sides.ensures.value
    c.keep_if_held-kept.ensures in
    inr (desk, c.in_ok-locked.ensures.starts, (c.keep_if_held-kept.result, kept, c.all_succeed.ensures))
