-- Answers the contract of `exchange_of_shelf` (`src/on_shelf.rt`).
use Rattle.std.proofs.Common.{ℕ, List, Option, ap, subst}
use Rattle.ill_exchange.specs.Nights.{ExchangesAtFile, asked_night}
use Rattle.ill_shelf.specs.Shelf.{Headed, VisitsShelf, is_lines}
use Rattle.ill_shelf.proofs.on_shelf.exchange_of_shelf.Goals as goal

-- Proves the contract of `exchange_of_shelf`. The shelf that was opened is that in the folder, and `look_at_shelf`
-- writes nothing.
pub returns : goal.returns
returns g c =
    let heads = is_lines c.args.night.now.form in
    let asked = asked_night c.args.night.now in
    let end = g.W.Write.contents c.exchange_at_desks.new.machine.writer in
    let result = c.exchange_at_desks.result in
    let visited = subst (λ (start : Option (List ℕ)).
    VisitsShelf c.in_ok-shelf.shelf.folder.now (Headed g.D.DeskStore.Store.state heads (ExchangesAtFile asked)) start end result)
    (ap (λ writer. g.W.Write.contents writer) c.in_ok-shelf.ensures.silent) c.exchange_at_desks.ensures in
    subst (λ (folder : List ℕ).
    VisitsShelf folder (Headed g.D.DeskStore.Store.state heads (ExchangesAtFile asked))
    (g.W.Write.contents c.args.machine.now.writer) end result)
    c.in_ok-shelf.ensures.folder visited
