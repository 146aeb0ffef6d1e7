-- The loop of `reading::read_counted` keeps this invariant.
use Rattle.std.proofs.Common.{◌≡◌, ◌+◌, ◌≤◌, length, take}
use Rattle.std.specs.Io.KnownBytes.{Consumes}
use Rattle.ill_der.specs.Stream.{AreUnfinished}
use Rattle.ill_der.proofs.reading.read_counted.Given as goal

-- The bytes read are the first `size` bytes of the buffer, and each proper prefix of them is unfinished.
-- Each turn of the loop has read at least one byte.
abbrev pub invariant-loop : goal.invariant-loop
invariant-loop g l = record {
  room : length l.bytes ≡ 359;
  size : l.size ≤ 359;
  turns : l.counter ≤ l.size;
  ticks : l.steps ≡ l.initial.steps + l.counter;
  read : Consumes (g.R.CountedRead.remaining l.initial.reader) (g.R.CountedRead.remaining l.reader) (take l.size l.bytes);
  unfinished : AreUnfinished (take l.size l.bytes);
}
