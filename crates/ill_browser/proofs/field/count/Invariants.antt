-- States the loop invariant of `count` (`src/field.rt`).
use Rattle.std.proofs.Common.{◌≡◌, ◌≤◌, map, take}
use Rattle.ill_browser.specs.Fields.{count_named, field_shown}
use Rattle.ill_browser.proofs.field.count.Given as goal

-- The count is that of the fields so far. It is at most their number.
abbrev pub invariant-loop-field : goal.invariant-loop-field
invariant-loop-field l = record {
  counted : l.count ≡ count_named l.name (map field_shown (take l.field-index l.fields));
  most : l.count ≤ l.field-index;
}
