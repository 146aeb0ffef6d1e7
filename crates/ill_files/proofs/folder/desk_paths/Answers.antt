-- Answers the contract of `desk_paths` (`src/folder.rt`).
use Rattle.std.proofs.Common.{Bor, List, ℕ, map}
use Rattle.std.specs.Prelude.{string_bytes}
use Rattle.ill_files.proofs.FoldersLemmas.{asked_at, found_more}
use Rattle.ill_files.proofs.folder.desk_paths.Goals as goal

-- Proves the loop invariant of `desk_paths` after one more path. Its files are found at it.
pub loop-path-preserved : goal.loop-path-preserved
loop-path-preserved g c =
    let texts : Bor (List ℕ) → List ℕ = λ path. path.now in
    let asked = asked_at texts c.args.paths.now c.loop-path.path-index _ c.loop-path-test.true in
    record {
      files = found_more (map texts c.args.paths.now) _ _ _ asked c.loop-path.invariant.files
          c.in_ok-push_path.ensures;
    }
