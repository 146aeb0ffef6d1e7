-- States the loop invariant of `push_issued` (`src/diary.rt`).
use Rattle.std.proofs.Common.{◌≡◌, ◌++◌, map, take}
use Rattle.ill_beside.specs.Diary.{issued_named, named}
use Rattle.ill_beside.proofs.diary.push_issued.Given as goal

-- The messages so far are appended, each named by its verb.
abbrev pub invariant-loop-apdu : goal.invariant-loop-apdu
invariant-loop-apdu l = record {
  appended : map named l.messages.items ≡ map named l.initial.messages.items ++ map issued_named (take l.apdu-index l.apdus);
}
