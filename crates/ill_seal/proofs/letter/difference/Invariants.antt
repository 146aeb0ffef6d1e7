-- States the loop invariant of `difference` (`src/letter.rt`).
use Rattle.std.proofs.Common.{◌≡◌, drop}
use Rattle.ill_seal.specs.Letter.{difference}
use Rattle.ill_seal.proofs.letter.difference.Given as goal

-- The bits so far, and those in which the bytes that are left differ, are those of all bytes.
abbrev pub invariant-loop-place : goal.invariant-loop-place
invariant-loop-place l = difference l.difference (drop l.place l.seal) (drop l.place l.other) ≡ difference 0 l.seal l.other
