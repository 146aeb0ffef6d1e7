-- States the loop invariant of `desks_in` (`src/shelf.rt`).
use Rattle.std.proofs.Common.{map}
use Rattle.std.specs.Prelude.{string_bytes}
use Rattle.ill_files.specs.ShelfNames.{AreOnShelf}
use Rattle.ill_files.proofs.shelf.desks_in.Given as goal

-- Each path so far is that of a desk of the shelf.
abbrev pub invariant-loop-name : goal.invariant-loop-name
invariant-loop-name g l = record {
  desks : AreOnShelf l.folder (map (λ path. string_bytes path) l.desks.items);
}
