-- States the loop invariant of `last_line` (`src/keyed_diary.rt`).
use Rattle.std.proofs.Common.{◌≡◌, None, take}
use Rattle.ill_beside.specs.KeyedDiary.{looks_last}
use Rattle.ill_beside.specs.Places.{looked_up}
use Rattle.ill_beside.proofs.keyed_diary.last_line.Given as goal

-- `found` is what the places so far give.
abbrev pub invariant-loop-place : goal.invariant-loop-place
invariant-loop-place l = record {
  last : l.found ≡ looked_up (looks_last l.key) l.lines None (take l.place-index l.places);
}
