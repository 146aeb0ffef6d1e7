-- Answers the contract of `write_lines` (`src/list.rt`).
use Rattle.std.proofs.Common.{◌++◌, ap, subst, ◌∙◌, append_assoc}
use Rattle.ill_text.specs.Output.{WritesText}
use Rattle.ill_list.specs.Seeking.{seeking_of}
use Rattle.ill_rows.specs.Heading.{gap, heading}
use Rattle.ill_list.specs.Listing.{list_lines}
use Rattle.ill_list.proofs.ListLemmas.{text_written}
use Rattle.ill_list.proofs.list.write_lines.Goals as goal

-- Proves the contract of `write_lines`. It writes the gap, the heading and then the lines of the loans.
pub returns : goal.returns
returns g c =
    let listed = c.args.listed.now in
    let lines = list_lines c.args.sought.now.wanted.now (seeking_of c.args.sought.now) c.args.sides.now.sides in
    let before = g.W.Write.contents c.args.writer.now in
    let after = g.W.Write.contents c.write_whole.new.writer in
    let text = c.deref.ensures.value ∙ c.in_ok-push_list.ensures ∙ ap (λ heading. heading ++ lines) c.in_ok-lines.ensures
    ∙ append_assoc (gap listed.is_first) (heading listed.is_headed listed.path.now) lines in
    subst (λ text. WritesText before after text c.write_whole.result) text (text_written before after _ _ c.write_whole.ensures)
