-- States the loop invariant of `read_apdus` (`src/decoding.rt`).
use Rattle.std.proofs.Common.{◌≡◌, ◌+◌, ◌-◌, ◌*◌, ◌≤◌}
use Rattle.ill_record.specs.Layout.{apdu, read_all}
use Rattle.ill_record.proofs.Lists.{after}
use Rattle.ill_record.proofs.decoding.read_apdus.Given as goal

-- Reading the APDUs that are left, with the APDUs so far before them, gives the whole list.
abbrev pub invariant-loop : goal.invariant-loop
invariant-loop l = record {
  turns : l.counter ≤ l.count;
  room : l.cursor.at ≤ l.fn.cursor.at + 359 * l.counter;
  read : after l.apdus.items (read_all apdu (l.count - l.counter) l.cursor) ≡ read_all apdu l.count l.fn.cursor;
}
