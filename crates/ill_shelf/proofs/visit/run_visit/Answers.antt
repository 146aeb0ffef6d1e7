-- Answers the contract of `run_visit` (`src/visit.rt`).
use Rattle.std.proofs.Common.{subst, sym}
use Rattle.ill_shelf.specs.declared.visit.Visit.{Visit}
use Rattle.ill_place.specs.Place.{place_of}
use Rattle.ill_shelf.specs.Shelf.{RunsVisit}
use Rattle.ill_shelf.proofs.visit.run_visit.Goals as goal

-- Proves that the sides of the desk at this path are shown.
pub returns-in-Status : goal.returns-in-Status
returns-in-Status g c =
    subst (λ (visit : Visit). RunsVisit visit (place_of g.D.DeskStore.Store.state c.args.place.now.path.now)
    (g.W.Write.contents c.args.machine.now.writer)
    (g.W.Write.contents c.status.new.machine.writer) c.status.result) (sym c.in-Status.is) c.status.ensures
