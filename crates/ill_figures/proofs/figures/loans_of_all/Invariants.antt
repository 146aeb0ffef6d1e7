-- States the loop invariant of `loans_of_all` (`src/figures.rt`).
use Rattle.std.proofs.Common.{◌≡◌, map, take}
use Rattle.ill_figures.specs.Figures.{loans_of}
use Rattle.ill_figures.specs.LoanFigures.{mentioned}
use Rattle.ill_figures.proofs.figures.loans_of_all.Given as goal

-- The figures of the loans so far are appended.
abbrev pub invariant-loop-side : goal.invariant-loop-side
invariant-loop-side l = record {
  appended : l.loans.items ≡ loans_of (map mentioned l.mentions) l.came (map (λ side. side.now) (take l.side-index l.sides));
}
