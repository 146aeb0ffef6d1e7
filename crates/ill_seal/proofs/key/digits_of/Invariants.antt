-- States the loop invariant of `digits_of` (`src/key.rt`).
use Rattle.std.proofs.Common.{◌≡◌, take}
use Rattle.ill_seal.specs.KeyText.{digits_of}
use Rattle.ill_seal.proofs.key.digits_of.Given as goal

-- `digits` has the bytes so far that are not white.
abbrev pub invariant-loop-byte : goal.invariant-loop-byte
invariant-loop-byte l = l.digits.items ≡ digits_of (take l.byte-index l.text)
