-- States the loop invariant of `days_at` (`src/keyed_diary.rt`).
use Rattle.std.proofs.Common.{◌≡◌, [], take}
use Rattle.ill_beside.specs.KeyedDiary.{looks_days}
use Rattle.ill_beside.specs.Places.{looked_up}
use Rattle.ill_beside.proofs.keyed_diary.days_at.Given as goal

-- `days` has what the places so far give.
abbrev pub invariant-loop-place : goal.invariant-loop-place
invariant-loop-place l = record {
  days : l.days.items ≡ looked_up (looks_days l.key) l.lines [] (take l.place-index l.places);
}
