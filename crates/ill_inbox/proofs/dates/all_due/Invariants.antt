-- States the loop invariant of `all_due` (`src/dates.rt`).
use Rattle.std.proofs.Common.{◌≡◌, ◌++◌, drop}
use Rattle.ill_inbox.specs.Dates.{all_due}
use Rattle.ill_inbox.proofs.dates.all_due.Given as goal

-- The deeds in `dues`, and the deeds of the loans that are left, are all deeds.
abbrev pub invariant-loop-place : goal.invariant-loop-place
invariant-loop-place l = record {
  all : l.dues.items ++ all_due l.which l.today (drop l.place l.sides.sides) ≡ all_due l.which l.today l.sides.sides;
}
