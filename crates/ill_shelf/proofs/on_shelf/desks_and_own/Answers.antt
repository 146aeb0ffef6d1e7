-- Answers the contract of `desks_and_own` (`src/on_shelf.rt`).
use Rattle.std.proofs.Common.{inl, refl}
use Rattle.std.specs.Prelude.{codes, string_bytes}
use Rattle.ill_files.specs.ShelfNames.{IsOnShelf}
use Rattle.ill_files.proofs.DesksLemmas.{one_more}
use Rattle.ill_shelf.proofs.on_shelf.desks_and_own.Goals as goal

-- Proves that the paths are those of desks of the shelf. The last one is that of its own desk.
pub returns-clause-on_shelf : goal.returns-clause-on_shelf
returns-clause-on_shelf g c =
    one_more (IsOnShelf c.args.shelf.now.folder.now) (λ path. string_bytes path) c.in_ok-desks.desks.items
    c.push.new.self.items c.in_ok-own_desk.field-0 (string_bytes c.in_ok-own_desk.field-0) c.in_ok-push.ensures.items refl
    (codes ".shelf", inl refl, c.in_ok-own_desk.ensures) c.in_ok-desks.ensures.on_shelf
