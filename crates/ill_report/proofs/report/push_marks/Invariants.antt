-- States the loop invariant of `push_marks` (`src/report.rt`).
use Rattle.std.proofs.Common.{◌≡◌, ◌++◌, take}
use Rattle.std.specs.List.{flat_map}
use Rattle.ill_report.specs.Report.{news_mark}
use Rattle.ill_report.proofs.report.push_marks.Given as goal

-- The texts of the messages so far are appended to the page.
abbrev pub invariant-loop-apdu : goal.invariant-loop-apdu
invariant-loop-apdu l = record {
  printed : l.page.items ≡ l.initial.page.items ++ flat_map (news_mark l.side) (take l.apdu-index l.kept);
}
