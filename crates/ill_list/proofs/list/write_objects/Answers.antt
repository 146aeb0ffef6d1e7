-- Answers the contract of `write_objects` (`src/list.rt`).
use Rattle.std.proofs.Common.{ℕ, ◌++◌, List, Option, option_map, ap, subst, ◌∙◌}
use Rattle.ill_text.specs.Output.{WritesText}
use Rattle.ill_list.specs.Seeking.{seeking_of}
use Rattle.ill_list.specs.Listing.{list_objects}
use Rattle.ill_list.proofs.ListLemmas.{text_written}
use Rattle.ill_list.proofs.list.write_objects.Goals as goal

-- Proves the contract of `write_objects`. It writes the objects of the loans, with the path of the desk if that is
-- printed.
pub returns : goal.returns
returns g c =
    let objects : Option (List ℕ) → List ℕ = λ file.
    list_objects file c.args.sought.now.wanted.now (seeking_of c.args.sought.now) c.args.sides.now.sides in
    let before = g.W.Write.contents c.args.writer.now in
    let after = g.W.Write.contents c.write_whole.new.writer in
    let text = c.deref.ensures.value ∙ c.in_ok-push_list_objects.ensures
    ∙ ap (λ begun. begun ++ objects (option_map (λ path. path.now) c.printed.result)) c.new-text.ensures.items
    ∙ ap objects c.printed.ensures in
    subst (λ text. WritesText before after text c.write_whole.result) text (text_written before after _ _ c.write_whole.ensures)
