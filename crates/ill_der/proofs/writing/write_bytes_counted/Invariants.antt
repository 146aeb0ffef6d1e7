-- The loop of `writing::write_bytes_counted` keeps this invariant.
use Rattle.std.proofs.Common.{◌≡◌, ◌+◌, ◌≤◌, length, take}
use Rattle.std.specs.Io.KnownBytes.{Appends}
use Rattle.ill_der.proofs.writing.write_bytes_counted.Given as goal

-- The first `written` bytes were written, at least one in each turn of the loop.
abbrev pub invariant-loop : goal.invariant-loop
invariant-loop g l = record {
  prefix : l.written ≤ length l.bytes;
  turns : l.counter ≤ l.written;
  ticks : l.steps ≡ l.initial.steps + l.counter;
  appended : Appends (g.W.CountedWrite.contents l.initial.writer) (g.W.CountedWrite.contents l.writer) (take l.written l.bytes);
}
