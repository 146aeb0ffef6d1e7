-- States the loop invariant of `paths_of` (`src/show.rt`).
use Rattle.std.proofs.Common.{◌≡◌, ◌++◌, map, drop}
use Rattle.std.specs.Prelude.{string_bytes}
use Rattle.ill_web.proofs.show.paths_of.Given as goal

-- `paths`, and the paths of the files that are left, are those of all files.
abbrev pub invariant-loop-file : goal.invariant-loop-file
invariant-loop-file l = record {
  there : map (λ path. path.now) l.paths.items ++ map (λ file. string_bytes file) (drop l.file-index l.files)
      ≡ map (λ file. string_bytes file) l.files;
}
