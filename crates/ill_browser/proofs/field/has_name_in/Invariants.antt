-- States the loop invariant of `has_name_in` (`src/field.rt`).
use Rattle.std.proofs.Common.{◌≡◌, map, take}
use Rattle.std.specs.List.{list_any}
use Rattle.ill_browser.specs.Fields.{field_shown, is_named}
use Rattle.ill_browser.proofs.field.has_name_in.Given as goal

-- `so_far` is true exactly if the field has one of the names so far.
abbrev pub invariant-loop-name : goal.invariant-loop-name
invariant-loop-name l =
    l.so_far ≡ list_any (λ name. is_named name (field_shown l.field)) (map (λ name. name.now) (take l.name-index l.names))
