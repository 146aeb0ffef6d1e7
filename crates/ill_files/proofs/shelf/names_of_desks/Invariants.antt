-- States the loop invariant of `names_of_desks` (`src/shelf.rt`).
use Rattle.std.proofs.Common.{map}
use Rattle.std.specs.Prelude.{string_bytes}
use Rattle.ill_files.specs.ShelfNames.{AreDeskNames}
use Rattle.ill_files.proofs.shelf.names_of_desks.Given as goal

-- Each name so far is that of the desk of a group.
abbrev pub invariant-loop-name : goal.invariant-loop-name
invariant-loop-name g l = record {
  desks : AreDeskNames l.role (map (λ name. string_bytes name) l.desks.items);
}
