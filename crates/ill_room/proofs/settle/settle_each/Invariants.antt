-- States the loop invariant of `settle_each` (`src/settle.rt`).
use Rattle.ill_room.specs.Room.{Answers, is_correct_room}
use Rattle.ill_room.proofs.RoomLemmas.{SettlesTo}
use Rattle.ill_room.proofs.settle.settle_each.Given as goal

-- The message files below `number` were settled, or stay. If `all_done` is set, each of them was settled.
abbrev pub invariant-loop-number : goal.invariant-loop-number
invariant-loop-number g l = record {
  there : Answers is_correct_room (SettlesTo l.number l.judged.verdicts.now) (g.R.Room.state l.initial.room) l.all_done
      (g.R.Room.state l.room);
}
