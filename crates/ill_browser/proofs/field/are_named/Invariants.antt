-- States the loop invariant of `are_named` (`src/field.rt`).
use Rattle.std.proofs.Common.{◌≡◌, map, take}
use Rattle.ill_browser.specs.Fields.{are_named, field_shown}
use Rattle.ill_browser.proofs.field.are_named.Given as goal

-- `so_far` is true exactly if each field so far has one of the names.
abbrev pub invariant-loop-field : goal.invariant-loop-field
invariant-loop-field l =
    l.so_far ≡ are_named (map (λ name. name.now) l.names) (map field_shown (take l.field-index l.fields))
