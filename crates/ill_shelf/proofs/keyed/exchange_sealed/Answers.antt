-- Answers the contract of `exchange_sealed` (`src/keyed.rt`).
use Rattle.std.proofs.Common.{ℕ, List, Option, inr, ap, subst, ◌∙◌}
use Rattle.ill_exchange.specs.Nights.{ExchangesAtFile, asked_night}
use Rattle.ill_text.specs.Visits.{graver}
use Rattle.ill_shelf.specs.Shelf.{Headed, VisitsShelf, is_lines}
use Rattle.ill_shelf.proofs.keyed.exchange_sealed.Goals as goal

-- Proves the contract of `exchange_sealed`. `look_at_shelf` and `open_letters` write nothing, and `exchange_at_desks`
-- visits the desks (`visited`). These are on the shelf in the folder of `place` (`here`). `graver` combines its answer
-- with that of the letters.
pub returns : goal.returns
returns g c =
    let done = c.exchange_at_desks-done.result in
    let opened = c.in_ok-opened.opened in
    let quiet = ap (λ writer. g.W.Write.contents writer) (c.in_ok-opened.ensures.silent ∙ c.in_ok-shelf.ensures.silent) in
    let heads = is_lines c.args.night.now.form in
    let asked = asked_night c.args.night.now in
    let end = g.W.Write.contents c.exchange_at_desks-done.new.machine.writer in
    let visited = subst (λ (start : Option (List ℕ)).
    VisitsShelf c.in_ok-shelf.shelf.folder.now (Headed g.D.DeskStore.Store.state heads (ExchangesAtFile asked)) start end done)
    quiet
    c.exchange_at_desks-done.ensures in
    let here = subst (λ (folder : List ℕ).
    VisitsShelf folder (Headed g.D.DeskStore.Store.state heads (ExchangesAtFile asked))
    (g.W.Write.contents c.args.machine.now.writer) end done)
    c.in_ok-shelf.ensures.folder visited in
    inr (done, opened.is_waiting, opened.are_sealed, here, c.graver.ensures ∙ ap (graver done) c.opened_answer.ensures)
