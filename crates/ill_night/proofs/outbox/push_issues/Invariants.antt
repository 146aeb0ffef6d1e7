-- States the loop invariant of `push_issues` (`src/outbox.rt`).
use Rattle.std.proofs.Common.{◌≡◌, ◌++◌, map, drop}
use Rattle.ill_night.specs.Outbox.{issue_of, issues_of}
use Rattle.ill_night.proofs.outbox.push_issues.Given as goal

-- `leaving`, and the messages that are left, are the old messages and all of `apdus`.
abbrev pub invariant-loop-apdu : goal.invariant-loop-apdu
invariant-loop-apdu l = record {
  there : map issue_of l.leaving.items ++ issues_of l.side (drop l.apdu-index l.apdus)
      ≡ map issue_of l.initial.leaving.items ++ issues_of l.side l.apdus;
}
