-- Answers the contract of `home_of` (`src/on_shelf.rt`).
use Rattle.std.specs.Prelude.{string_bytes}
use Rattle.ill_shelf.proofs.HomeLemmas.{is_home}
use Rattle.ill_shelf.proofs.on_shelf.home_of.Goals as goal

-- Proves that the path is that of the desk of the group, on the shelf in this folder.
pub returns-clause-home : goal.returns-clause-home
returns-clause-home g c =
    is_home c.args.folder.now c.in_ok-shelf.shelf.folder.now c.in_ok-shelf.shelf.role c.args.txn.now.group c.group.result.now
    (string_bytes c.in_ok-file.file) c.in_ok-shelf.ensures.folder c.group.ensures.value c.in_ok-file.ensures
