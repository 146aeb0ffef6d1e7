-- States the loop invariant of `push_taken` (`src/diary.rt`).
use Rattle.std.proofs.Common.{◌≡◌, ◌++◌, filter, map, take}
use Rattle.ill_beside.specs.Diary.{named, taken_named}
use Rattle.ill_beside.specs.Heard.{is_heard}
use Rattle.ill_beside.proofs.diary.push_taken.Given as goal

-- The messages so far that the record of `side` shows as taken are appended, named by their types.
abbrev pub invariant-loop-apdu : goal.invariant-loop-apdu
invariant-loop-apdu l = record {
  appended : map named l.messages.items ≡ map named l.initial.messages.items
      ++ map taken_named (filter (is_heard l.side) (take l.apdu-index l.kept));
}
