-- States the loop invariant of `push_heard` (`src/loan_figures.rt`).
use Rattle.std.proofs.Common.{◌≡◌, ◌++◌, filter, map, take}
use Rattle.ill_beside.specs.Heard.{is_heard}
use Rattle.ill_figures.specs.LoanFigures.{mentioned, taken_dated}
use Rattle.ill_figures.proofs.loan_figures.push_heard.Given as goal

-- The messages so far that the record of `side` shows as taken are appended, with their days.
abbrev pub invariant-loop-apdu : goal.invariant-loop-apdu
invariant-loop-apdu l = record {
  appended : l.messages.items ≡ l.initial.messages.items
      ++ map (taken_dated (map mentioned l.mentions)) (filter (is_heard l.side) (take l.apdu-index l.kept));
}
