-- States the loop invariant of `visit_all` (`src/visit.rt`).
use Rattle.std.proofs.Common.{map, take}
use Rattle.std.specs.Prelude.{string_bytes}
use Rattle.ill_shelf.specs.Shelf.{Headed, RunsVisit, VisitsAll, is_headed}
use Rattle.ill_shelf.proofs.visit.visit_all.Given as goal

-- The desks at the first `place` paths were visited.
abbrev pub invariant-loop-place : goal.invariant-loop-place
invariant-loop-place g l =
    VisitsAll (Headed g.D.DeskStore.Store.state (is_headed l.visit) (RunsVisit l.visit))
    (take l.place (map (λ path. string_bytes path) l.paths))
    (g.W.Write.contents l.fn.machine.writer)
    (g.W.Write.contents l.machine.writer) l.answer
