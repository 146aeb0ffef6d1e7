-- Answers the law `groups_have_their_own_desks` (`src/shelf.rt`), which is `own_desk`.
use Rattle.ill_files.proofs.ShelfNamesLemmas.{own_desk}
use Rattle.ill_files.proofs.shelf.groups_have_their_own_desks.Goals as goal

pub returns : goal.returns
returns c = own_desk
