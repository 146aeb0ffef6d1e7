-- Answers the contract of `inbox_sealed` (`src/keyed.rt`).
use Rattle.std.proofs.Common.{ℕ, List, Option, inr, true, ap, subst, ◌∙◌}
use Rattle.ill_exchange.specs.Nights.{InboxAtFile}
use Rattle.ill_text.specs.Visits.{graver}
use Rattle.ill_shelf.specs.Shelf.{Headed, VisitsShelf}
use Rattle.ill_shelf.proofs.keyed.inbox_sealed.Goals as goal

-- Proves the contract of `inbox_sealed`. `open_letters` writes nothing, and `take_at_desks` visits the desks. `graver`
-- combines its answer with that of the letters. The visits are on the shelf in the folder of `place` (`here`).
pub returns : goal.returns
returns g c =
    let done = c.take_at_desks-done.result in
    let opened = c.in_ok-opened.opened in
    let quiet = ap (λ writer. g.W.Write.contents writer) c.in_ok-opened.ensures.silent in
    let end = g.W.Write.contents c.take_at_desks-done.new.machine.writer in
    let visited = subst (λ (start : Option (List ℕ)).
    VisitsShelf c.in_ok-shelf.shelf.folder.now (Headed g.D.DeskStore.Store.state true InboxAtFile) start end done) quiet
    c.take_at_desks-done.ensures in
    let here = subst (λ (folder : List ℕ).
    VisitsShelf folder (Headed g.D.DeskStore.Store.state true InboxAtFile) (g.W.Write.contents c.args.machine.now.writer) end
    done)
    c.in_ok-shelf.ensures.folder visited in
    inr (done, opened.is_waiting, opened.are_sealed, here, c.graver.ensures ∙ ap (graver done) c.opened_answer.ensures)
