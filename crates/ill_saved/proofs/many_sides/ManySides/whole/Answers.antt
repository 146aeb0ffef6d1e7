-- Proves the contract of `ManySides::whole` (`src/many_sides.rt`).
-- Consistent sides back themselves with all messages released.
use Rattle.ill_saved.proofs.Contents.{as_many_counted, whole_backable, whole_held}
use Rattle.ill_saved.proofs.many_sides.ManySides.whole.Goals as goal

-- Each side has a count, and the sides back themselves.
pub invariant_of-result : goal.invariant_of-result
invariant_of-result c =
    let all = c.args.sides in
    let counted = c.in_ok-released.released.items in (
      as_many_counted all.sides counted c.in_ok-released.ensures,
      whole_backable all counted c.requires.rules c.in_ok-released.ensures,
    )

-- All messages are released.
pub returns : goal.returns
returns c = whole_held c.args.sides c.in_ok-released.released.items c.in_ok-released.ensures
