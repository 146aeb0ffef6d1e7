-- States the loop invariant of `push_actions` (`src/report.rt`).
use Rattle.std.proofs.Common.{◌≡◌, ◌++◌, take}
use Rattle.std.specs.List.{flat_map}
use Rattle.ill_report.specs.Report.{action_text}
use Rattle.ill_report.proofs.report.push_actions.Given as goal

-- The texts of the verbs so far are appended to the page.
abbrev pub invariant-loop-verb : goal.invariant-loop-verb
invariant-loop-verb l = record {
  printed : l.page.items ≡ l.initial.page.items ++ flat_map (action_text) (take l.verb-index l.verbs);
}
