-- Answers the contract of `push_unless_retired` (`src/shelf.rt`).
use Rattle.std.proofs.Common.{◌++◌, refl}
use Rattle.std.specs.Prelude.{codes, string_bytes}
use Rattle.ill_files.specs.ShelfNames.{IsOnShelf}
use Rattle.ill_files.proofs.DesksLemmas.{one_more}
use Rattle.ill_files.proofs.shelf.push_unless_retired.Goals as goal

-- Proves the contract of `push_unless_retired` if the group is not retired. The path is that of the desk in this
-- folder.
pub returns : goal.returns
returns g c = λ is_named all.
    one_more (IsOnShelf c.args.folder.now) (λ path. string_bytes path) c.args.desks.now.items c.push.new.self.items
    c.in_ok-path.path (c.args.folder.now ++ (codes "/" ++ c.args.name.now)) c.in_ok-push.ensures.items c.in_ok-path.ensures
    (c.args.name.now, is_named, refl) all
