-- States the loop invariant of `parts` (`src/decoding_v2.rt`).
use Rattle.std.proofs.Common.{◌≡◌, ◌+◌, ◌-◌, ◌*◌, ◌≤◌, length}
use Rattle.ill_record.specs.Layout.{read_all}
use Rattle.ill_record.specs.RecordsV2.{part}
use Rattle.ill_record.proofs.Lists.{after}
use Rattle.ill_record.proofs.decoding_v2.parts.Given as goal

-- Reading the sides that are left, with the sides so far before them, gives the whole list.
abbrev pub invariant-loop : goal.invariant-loop
invariant-loop l = record {
  turns : l.counter ≤ l.count;
  so_many : length l.sides.items ≡ l.counter;
  room : l.cursor.at ≤ l.fn.cursor.at + 65537 * l.counter;
  read : after l.sides.items (read_all part (l.count - l.counter) l.cursor) ≡ read_all part l.count l.fn.cursor;
}
