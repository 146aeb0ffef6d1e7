-- States the loop invariant of `push_issued` (`src/loan_figures.rt`).
use Rattle.std.proofs.Common.{◌≡◌, ◌++◌, map, take}
use Rattle.ill_figures.specs.LoanFigures.{issued_dated, mentioned}
use Rattle.ill_figures.proofs.loan_figures.push_issued.Given as goal

-- The messages so far are appended, with their days.
abbrev pub invariant-loop-apdu : goal.invariant-loop-apdu
invariant-loop-apdu l = record {
  appended : l.messages.items ≡ l.initial.messages.items
      ++ map (issued_dated (map mentioned l.mentions)) (take l.apdu-index l.apdus);
}
