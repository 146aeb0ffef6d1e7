-- States the loop invariant of `grouped` (`src/key.rt`).
use Rattle.std.proofs.Common.{◌≡◌, ◌++◌, drop}
use Rattle.ill_seal.specs.KeyText.{grouped}
use Rattle.ill_seal.proofs.key.grouped.Given as goal

-- `text`, and then the groups of the digits that are left, are the groups of all digits.
abbrev pub invariant-loop-place : goal.invariant-loop-place
invariant-loop-place l = l.text.items ++ grouped l.place (drop l.place l.digits) ≡ grouped 0 l.digits
