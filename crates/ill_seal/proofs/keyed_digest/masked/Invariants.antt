-- States the loop invariant of `masked` (`src/keyed_digest.rt`).
use Rattle.std.proofs.Common.{◌≡◌, length, take}
use Rattle.ill_seal.specs.Hmac.{filled, masked}
use Rattle.ill_seal.proofs.keyed_digest.masked.Given as goal

-- The block has 64 bytes. Those below `place` are the bytes of the filled key, masked.
abbrev pub invariant-loop-place : goal.invariant-loop-place
invariant-loop-place l = (length l.block ≡ 64) × (take l.place l.block ≡ masked l.mask (take l.place (filled l.key)))
