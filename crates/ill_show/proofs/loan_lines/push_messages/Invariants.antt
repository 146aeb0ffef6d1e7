-- States the loop invariant of `push_messages` (`src/loan_lines.rt`).
use Rattle.std.proofs.Common.{◌≡◌, ◌++◌, take}
use Rattle.std.specs.List.{flat_map}
use Rattle.ill_show.specs.LoanLines.{message_lines}
use Rattle.ill_show.proofs.loan_lines.push_messages.Given as goal

-- The lines of the messages so far are appended.
abbrev pub invariant-loop-apdu : goal.invariant-loop-apdu
invariant-loop-apdu l = record {
  shown : l.lines.items ≡ l.initial.lines.items ++ flat_map (message_lines l.released) (take l.apdu-index l.apdus);
}
