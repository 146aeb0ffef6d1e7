-- States the loop invariant of `push_names` (`src/folder.rt`).
use Rattle.std.proofs.Common.{map}
use Rattle.std.specs.Prelude.{string_bytes}
use Rattle.ill_files.specs.Folders.{GetsFiles, IsEntryOf}
use Rattle.ill_files.proofs.folder.push_names.Given as goal

-- Each file so far is an entry of the folder, after those that were found before.
abbrev pub invariant-loop-name : goal.invariant-loop-name
invariant-loop-name g l = record {
  files : GetsFiles (IsEntryOf l.folder) (map (λ file. string_bytes file) l.initial.found.files.items)
      (map (λ file. string_bytes file) l.found.files.items);
}
