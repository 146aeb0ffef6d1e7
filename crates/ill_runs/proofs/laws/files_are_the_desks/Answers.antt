-- Proves the contract of `files_are_the_desks` (`src/laws.rt`). A file is read as one record only.
use Rattle.ill_runs.proofs.BadLibraries.{desk_is_in_file}
use Rattle.ill_runs.proofs.laws.files_are_the_desks.Goals as goal

pub returns : goal.returns
returns c = desk_is_in_file
