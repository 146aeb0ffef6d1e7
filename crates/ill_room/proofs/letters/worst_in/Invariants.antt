-- States the loop invariant of `worst_in` (`src/letters.rt`).
use Rattle.std.proofs.Common.{◌≡◌, drop}
use Rattle.std.specs.List.{fold, zip}
use Rattle.ill_room.specs.Letters.{worse_if_in}
use Rattle.ill_room.proofs.letters.worst_in.Given as goal

-- The worst of `worst` and the verdicts that are left is the worst of all.
abbrev pub invariant-loop-place : goal.invariant-loop-place
invariant-loop-place l = record {
  there : fold (worse_if_in l.number) l.worst (zip (drop l.place l.message_files) (drop l.place l.verdicts))
      ≡ fold (worse_if_in l.number) l.fn.verdict (zip l.message_files l.verdicts);
}
