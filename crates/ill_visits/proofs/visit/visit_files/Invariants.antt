-- States the loop invariant of `visit_files` (`src/visit.rt`).
use Rattle.std.proofs.Common.{map, take}
use Rattle.std.specs.Prelude.{string_bytes}
use Rattle.ill_visits.specs.Visits.{RunsVisit, are_several}
use Rattle.ill_text.specs.Visits.{VisitsEach}
use Rattle.ill_visits.proofs.visit.visit_files.Given as goal

-- The desks in the first `place` files were visited, as those of all files are.
abbrev pub invariant-loop-place : goal.invariant-loop-place
invariant-loop-place g l =
    VisitsEach (RunsVisit l.visit l.form (are_several (map (λ file. string_bytes file) l.files)))
    (take l.place (map (λ file. string_bytes file) l.files)) (g.W.Write.contents l.fn.machine.writer)
    (g.W.Write.contents l.machine.writer)
    l.answer
