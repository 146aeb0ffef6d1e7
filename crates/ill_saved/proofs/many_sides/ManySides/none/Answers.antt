-- Proves the contract of `ManySides::none` (`src/many_sides.rt`).
-- A desk that holds no side backs itself.
use Rattle.std.proofs.Common.{rules, ◌≡◌, [], ap, sym, subst}
use Rattle.ill_record.specs.Side.{IsConsistent}
use Rattle.ill_record.specs.Ranges.{Each}
use Rattle.ill_record.specs.Sides.{SidesOf}
use Rattle.ill_saved.specs.ManySides.{counts, held_of}
use Rattle.ill_saved.proofs.Contents.{as_many_counted, none_are, whole_backable}
use Rattle.ill_saved.proofs.many_sides.ManySides.none.Goals as goal

-- No side is held, so each side has a count, and the empty list of sides backs the desk's contents.
pub invariant_of-result : goal.invariant_of-result
invariant_of-result c =
    let all = c.in-Ok.sides in
    let counted = c.new-in-Ok.result.items in
    let is : all ≡ record { role = c.args.role; sides = [] } = search rules in
    let whole : counted ≡ counts all.sides = search rules in (
      as_many_counted all.sides counted whole,
      whole_backable all counted (subst (λ (held : SidesOf). Each IsConsistent held.sides) (sym is) (none_are IsConsistent))
          whole,
    )

-- The desk holds no sides.
pub returns : goal.returns
unfolding held_of
returns c =
    let all = c.in-Ok.sides in
    let is : all ≡ record { role = c.args.role; sides = [] } = search rules in
    ap (λ (held : SidesOf). record { role = held.role; held = held_of held.sides c.new-in-Ok.result.items }) is
