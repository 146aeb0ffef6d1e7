-- States the loop invariant of `came_lines` (`src/diary.rt`).
use Rattle.std.proofs.Common.{◌≡◌, take}
use Rattle.ill_text.specs.Diary.{came_lines}
use Rattle.ill_text.proofs.diary.came_lines.Given as goal

-- `lines` are the lines of the messages so far, those before the place `apdu-index`.
abbrev pub invariant-loop-apdu : goal.invariant-loop-apdu
invariant-loop-apdu l = record {
  appended : l.lines.items ≡ came_lines l.begin (take l.apdu-index l.apdus);
}
