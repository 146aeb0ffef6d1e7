-- Answers the contract of `inbox_of_shelf` (`src/on_shelf.rt`).
use Rattle.std.proofs.Common.{ℕ, List, true, subst}
use Rattle.ill_exchange.specs.Nights.{InboxAtFile}
use Rattle.ill_shelf.specs.Shelf.{Headed, VisitsShelf}
use Rattle.ill_shelf.proofs.on_shelf.inbox_of_shelf.Goals as goal

-- Proves the contract of `inbox_of_shelf`. The shelf that was opened is that in the folder.
pub returns : goal.returns
returns g c =
    subst (λ (folder : List ℕ). VisitsShelf folder (Headed g.D.DeskStore.Store.state true InboxAtFile)
    (g.W.Write.contents c.args.machine.now.writer)
    (g.W.Write.contents c.take_at_desks.new.machine.writer) c.take_at_desks.result) c.in_ok-shelf.ensures.folder
    c.take_at_desks.ensures
