-- Proves the contract of `ManySides::may_begin` (`src/many_sides.rt`).
-- The number of held entries is the number of sides.
use Rattle.std.proofs.Common.{rules, ◌≡◌, nat_lt, length, true, false, ap, sym, ◌∙◌}
use Rattle.ill_record.specs.Sides.{most_sides}
use Rattle.ill_saved.proofs.Contents.{as_many_held}
use Rattle.ill_saved.proofs.many_sides.ManySides.may_begin.Goals.{After-len}
use Rattle.ill_saved.proofs.many_sides.ManySides.may_begin.Goals as goal

-- The number of held entries is the number of sides.
as_many : (c : After-len) → length c.args.self.now.held ≡ length c.self.inside.sides.sides
as_many c = sym (ap (λ live. length live.held) c.self.view_is)
    ∙ as_many_held c.self.inside.sides.sides c.self.inside.released.items c.self.invariant.0

-- If the sides are fewer than the limit, there is room.
pub returns-then-len-lt-SIDES_LIMIT : goal.returns-then-len-lt-SIDES_LIMIT
returns-then-len-lt-SIDES_LIMIT c =
    let may : c.args.begins ≡ true = search rules in
    let room : nat_lt (length c.self.inside.sides.sides) most_sides ≡ true = search rules in
    (may, ap (λ n. nat_lt n most_sides) (as_many (goal.at.returns-then-len-lt-SIDES_LIMIT c).After-len) ∙ room)

-- If the sides are at the limit, there is no room.
pub returns-else-len-lt-SIDES_LIMIT : goal.returns-else-len-lt-SIDES_LIMIT
returns-else-len-lt-SIDES_LIMIT c =
    let may : c.args.begins ≡ true = search rules in
    let none : nat_lt (length c.self.inside.sides.sides) most_sides ≡ false = search rules in
    (may, ap (λ n. nat_lt n most_sides) (as_many (goal.at.returns-else-len-lt-SIDES_LIMIT c).After-len) ∙ none)
