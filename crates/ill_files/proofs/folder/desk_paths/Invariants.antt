-- States the loop invariant of `desk_paths` (`src/folder.rt`).
use Rattle.std.proofs.Common.{map}
use Rattle.std.specs.Prelude.{string_bytes}
use Rattle.ill_files.specs.Folders.{AreFoundAt}
use Rattle.ill_files.proofs.folder.desk_paths.Given as goal

-- Each file so far is found at one of the paths.
abbrev pub invariant-loop-path : goal.invariant-loop-path
invariant-loop-path g l = record {
  files : AreFoundAt (map (λ path. path.now) l.paths) (map (λ file. string_bytes file) l.found.files.items);
}
