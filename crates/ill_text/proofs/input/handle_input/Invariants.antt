-- States the loop invariant and the measure of `handle_input` (`src/input.rt`).
use Rattle.std.proofs.Common.{◌≡◌, length}
use Rattle.ill_text.proofs.InputLemmas.{ReadSoFar, most_bytes_left}
use Rattle.ill_text.proofs.input.handle_input.Given as goal

-- The APDUs whose encodings were read have been handled, and the bytes after them are held (`ReadSoFar`). The buffer
-- `piece` has 4,096 bytes.
abbrev pub invariant-loop-feed : goal.invariant-loop-feed
invariant-loop-feed g l = record {
  size : length l.piece ≡ 4096;
  so_far : ReadSoFar g.H.Handler.handles (g.R.Read.remaining l.initial.reader) (g.R.Read.remaining l.reader)
      (l.initial.counted.handler, l.initial.context) l.counted.count l.feed
      (l.counted.handler, l.context);
}

-- Returns an upper bound of the bytes that may still be read.
abbrev pub decreases-loop-feed : goal.decreases-loop-feed
decreases-loop-feed g l = most_bytes_left l.counted.count l.feed
