-- Answers the contract of `desks_in` (`src/shelf.rt`).
use Rattle.std.proofs.Common.{map, subst, sym}
use Rattle.std.specs.Prelude.{string_bytes}
use Rattle.ill_files.specs.ShelfNames.{AreDeskNames, IsNamedOnShelf}
use Rattle.ill_files.proofs.DesksLemmas.{named_at}
use Rattle.ill_files.proofs.shelf.desks_in.Goals as goal

-- Proves the loop invariant of `desks_in` after one more desk. By `named_at` its name is one on a shelf.
pub loop-name-preserved : goal.loop-name-preserved
loop-name-preserved g c =
    let items = c.deref-name-items.result.now in
    let names = subst (λ items. AreDeskNames c.args.role (map (λ name. string_bytes name) items))
    (sym c.deref-name-items.ensures.value) c.in_ok-names.ensures in
    let is_named = named_at c.args.role (λ name. string_bytes name) items c.loop-name.name-index c.name-item.result names
    c.loop-name-test.true c.name-item.is in
    record {
      desks = c.in_ok-push_unless_retired.ensures (subst IsNamedOnShelf (sym c.as_str.ensures.value) is_named)
          c.loop-name.invariant.desks;
    }
