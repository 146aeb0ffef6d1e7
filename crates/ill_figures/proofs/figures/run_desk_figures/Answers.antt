-- Answers the contract of `run_desk_figures` (`src/figures.rt`).
use Rattle.std.proofs.Common.{ℕ, List, subst}
use Rattle.ill_record.specs.Sides.{SidesOf}
use Rattle.ill_text.specs.Output.{WritesPrefix}
use Rattle.ill_beside.specs.FileLines.{lines_of}
use Rattle.ill_rows.specs.Messages.{IsTextOf}
use Rattle.ill_rows.proofs.MessageLemmas.{writes_news}
use Rattle.ill_figures.specs.Figures.{figures_of}
use Rattle.ill_figures.specs.Texts.{figures_text}
use Rattle.ill_figures.proofs.figures.run_desk_figures.Goals as goal

-- Proves the contract of `run_desk_figures` if there is memory for the text. The text of the desk's sides is written.
pub returns-in-Ok : goal.returns-in-Ok
returns-in-Ok g c =
    let listed = c.args.listed.now in
    let sought = c.args.sought.now in
    let before = g.W.Write.contents c.args.writer.now in
    let after = g.W.Write.contents c.write_whole.new.writer in
    let text = c.in-Ok.text.items in
    let is = subst (λ (sides : SidesOf).
    IsTextOf (λ came. figures_text sought.view listed.is_headed listed.is_first listed.path.now
    (figures_of sought.view.span (lines_of sought.diary.now) sides.sides came)) sought.came.now text) c.sides.ensures.value
    c.in-Ok.ensures in
    let writes = subst (λ (t : List ℕ). WritesPrefix before after t c.write_whole.result) c.deref.ensures.value
    c.write_whole.ensures in
    writes_news _ sought.came.now text before after c.write_whole.result is writes
