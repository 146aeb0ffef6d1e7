-- States the loop invariant of `leaving_sides` (`src/outbox.rt`).
use Rattle.std.proofs.Common.{◌≡◌, ◌++◌, map, drop}
use Rattle.ill_words.specs.Sides.{held_of}
use Rattle.ill_night.specs.Outbox.{issue_of, leaving_desk}
use Rattle.ill_night.proofs.outbox.leaving_sides.Given as goal

-- `leaving`, and the messages of the sides that are left, are all messages that leave.
abbrev pub invariant-loop-held : goal.invariant-loop-held
invariant-loop-held l = record {
  there : map issue_of l.leaving.items ++ leaving_desk l.asking (map held_of (drop l.held-index l.sides))
      ≡ leaving_desk l.asking (map held_of l.sides);
}
