-- States the loop invariant of `push_kept` (`src/loan_lines.rt`).
use Rattle.std.proofs.Common.{◌≡◌, ◌++◌, true, take}
use Rattle.std.specs.Prelude.{codes}
use Rattle.std.specs.List.{flat_map}
use Rattle.ill_show.specs.LoanLines.{marked_lines}
use Rattle.ill_show.proofs.loan_lines.push_kept.Given as goal

-- The lines of the messages so far are appended.
abbrev pub invariant-loop-apdu : goal.invariant-loop-apdu
invariant-loop-apdu l = record {
  shown : l.lines.items ≡ l.initial.lines.items ++ flat_map (marked_lines (codes "came") true) (take l.apdu-index l.kept);
}
