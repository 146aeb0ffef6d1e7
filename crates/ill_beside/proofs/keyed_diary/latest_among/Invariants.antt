-- States the loop invariant of `latest_among` (`src/keyed_diary.rt`).
use Rattle.std.proofs.Common.{◌≡◌, take}
use Rattle.ill_beside.specs.KeyedDiary.{latest_among}
use Rattle.ill_beside.proofs.keyed_diary.latest_among.Given as goal

-- `found` is the latest of the last lines of the messages so far.
abbrev pub invariant-loop-message : goal.invariant-loop-message
invariant-loop-message l = record {
  latest : l.found ≡ latest_among l.places.by_key.entries l.lines (take l.message-index l.messages);
}
