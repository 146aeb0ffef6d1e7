-- States the loop invariant of `asked_by` (`src/asked.rt`).
use Rattle.std.proofs.Common.{◌≡◌, ◌++◌, drop}
use Rattle.std.specs.List.{zip}
use Rattle.ill_night.specs.Outbox.{asked_by}
use Rattle.ill_night.proofs.asked.asked_by.Given as goal

-- The bytes in `asked`, and those of the message files that are left, are all bytes that ask.
abbrev pub invariant-loop-place : goal.invariant-loop-place
invariant-loop-place g l = record {
  there : l.asked.items ++ asked_by l.desk.live (zip (drop l.place l.message_files) (drop l.place l.verdicts))
      ≡ asked_by l.desk.live (zip l.message_files l.verdicts);
}
