-- States the loop invariant and the measure of `read_whole` (`src/input.rt`).
use Rattle.std.proofs.Common.{◌≡◌, ◌≤◌, ◌-◌, length}
use Rattle.std.specs.Io.KnownBytes.{Consumes}
use Rattle.ill_text.proofs.input.read_whole.Given as goal

-- The bytes so far were read, and are at most `limit`. The buffer `piece` has 4,096 bytes.
abbrev pub invariant-loop-bytes : goal.invariant-loop-bytes
invariant-loop-bytes g l = record {
  size : length l.piece ≡ 4096;
  so_far : Consumes (g.R.Read.remaining l.initial.reader) (g.R.Read.remaining l.reader) l.bytes.items;
  few : length l.bytes.items ≤ l.limit;
}

-- Returns the number of bytes that may still be read: what `limit` leaves.
abbrev pub decreases-loop-bytes : goal.decreases-loop-bytes
decreases-loop-bytes g l = l.limit - length l.bytes.items
