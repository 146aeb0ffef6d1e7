-- States the loop invariant of `push_parts` (`src/diary.rt`).
use Rattle.std.proofs.Common.{◌≡◌, ◌++◌, map, take}
use Rattle.std.specs.List.{flat_map}
use Rattle.ill_beside.specs.Diary.{part_line, printed}
use Rattle.ill_beside.proofs.diary.push_parts.Given as goal

-- The lines of the parts so far are appended.
abbrev pub invariant-loop-part : goal.invariant-loop-part
invariant-loop-part l = record {
  shown : l.text.items ≡ l.initial.text.items ++ flat_map part_line (map printed (take l.part-index l.parts));
}
