-- Answers the contract of `show` (`src/show.rt`).
use Rattle.ill_text.specs.declared.show.Showing.{Showing}
use Rattle.std.proofs.Common.{not, eqb}
use Rattle.ill_text.specs.Show.{form_of, ShowsApdu}
use Rattle.ill_text.proofs.InputLemmas.{reads_on_views}
use Rattle.ill_text.proofs.show.show.Goals as goal

-- Proves the contract of `show`. `reads_on_views` views the state of the handler as the contents of the writer.
pub returns : goal.returns
returns g c =
    let contents = g.W.Write.contents in
    reads_on_views (λ (s : Showing g.row.JSON × g.row.W.Denot) apdu r (t : Showing g.row.JSON × g.row.W.Denot).
    ShowsApdu (form_of (not (eqb g.row.JSON 0))) (contents s.1) apdu r (contents t.1))
    (ShowsApdu (form_of (not (eqb g.row.JSON 0))))
    (λ s. contents s.1) (λ s t apdu r h. h) _ _
    (c.new-shown.result.handler, c.args.writer.now) (c.handle_input.new.counted.handler, c.handle_input.new.context)
    c.handle_input.result c.handle_input.ensures
