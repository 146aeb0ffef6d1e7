-- States the loop invariant of `file_verdicts` (`src/letters.rt`).
use Rattle.std.proofs.Common.{◌≡◌, ◌++◌, drop, map}
use Rattle.std.specs.List.{zip}
use Rattle.ill_room.specs.Letters.{file_verdict, file_verdicts}
use Rattle.ill_room.proofs.letters.file_verdicts.Given as goal

-- The verdicts so far, and those of the message files that are left, are all verdicts of files.
abbrev pub invariant-loop-place : goal.invariant-loop-place
invariant-loop-place l = record {
  there : l.settled.items ++ map (λ message_file.
      file_verdict (zip l.message_files l.verdicts) message_file.0.letter message_file.1)
      (zip (drop l.place l.message_files) (drop l.place l.verdicts))
      ≡ file_verdicts (zip l.message_files l.verdicts);
}
