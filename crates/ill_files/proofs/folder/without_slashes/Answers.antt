-- Answers the contract of `without_slashes` (`src/folder.rt`).
use Rattle.ill_files.proofs.FoldersLemmas.{cut_slashes}
use Rattle.ill_files.proofs.folder.without_slashes.Goals as goal

-- Proves the contract of `without_slashes`. By `cut_slashes` only slashes were cut off the end of the path.
pub returns : goal.returns
returns c =
    let cut = c.trim_end_matches.ensures.matches.0 in
    cut_slashes c.args.path.now cut.0 c.trim_end_matches.result.now cut.1
