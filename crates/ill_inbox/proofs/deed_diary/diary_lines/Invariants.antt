-- States the loop invariant of `diary_lines` (`src/deed_diary.rt`).
use Rattle.std.proofs.Common.{◌≡◌, take, Bor}
use Rattle.std.specs.List.{flat_map}
use Rattle.ill_inbox.specs.declared.due.Due.{Due}
use Rattle.ill_inbox.specs.DeedDiary.{deed_diary_line}
use Rattle.ill_inbox.proofs.deed_diary.diary_lines.Given as goal

-- `lines` has the lines of the deeds so far.
abbrev pub invariant-loop-due : goal.invariant-loop-due
invariant-loop-due g l = record {
  so_far : l.lines.items ≡ flat_map (λ (due : Bor Due). deed_diary_line g.H.Held.effects l.begin l.desk.live due.now)
      (take l.due-index l.done);
}
