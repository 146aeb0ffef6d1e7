-- States the loop invariant of `push_desk` (`src/status.rt`).
use Rattle.std.proofs.Common.{◌≡◌, ◌++◌, drop}
use Rattle.ill_show.specs.Objects.{status_of_desk}
use Rattle.ill_show.proofs.status.push_desk.Given as goal

-- `lines`, and the texts of the sides that are left, are the old lines and the texts of all sides.
abbrev pub invariant-loop-place : goal.invariant-loop-place
invariant-loop-place g l = record {
  shown : l.lines.items ++ status_of_desk l.form (drop l.place l.desk.live.held)
      ≡ l.initial.lines.items ++ status_of_desk l.form l.desk.live.held;
}
