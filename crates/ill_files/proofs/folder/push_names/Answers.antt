-- Answers the contract of `push_names` (`src/folder.rt`).
use Rattle.ill_files.specs.Folders.{IsEntryOf}
use Rattle.ill_files.proofs.FoldersLemmas.{gets_more}
use Rattle.ill_files.proofs.folder.push_names.Goals as goal

-- Proves the loop invariant of `push_names` after one more name.
pub loop-name-preserved : goal.loop-name-preserved
loop-name-preserved g c = record {
  files = gets_more (IsEntryOf c.args.folder.now) _ _ _ c.loop-name.invariant.files c.in_ok-push_name.ensures;
}
