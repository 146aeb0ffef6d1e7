-- Proves the contract of `ManySides::shown` (`src/many_sides.rt`).
-- The side and its released count are those of the held entry.
use Rattle.std.proofs.Common.{rules, ◌≡◌, Some, None, ap, sym, ◌∙◌}
use Rattle.ill_saved.specs.Shown.{shown_of}
use Rattle.ill_record.specs.Sides.{side_with}
use Rattle.ill_saved.specs.ManySides.{idle_held, found_or}
use Rattle.ill_saved.proofs.Contents.{as_seen, held_there, none_held_there}
use Rattle.ill_saved.proofs.many_sides.ManySidesHoldings.shown.Goals as goal

-- If the side is held, the result has its parts and its released count. By `seen` the sides in memory are those of the
-- contents `live`. By `held` the entry of `txn` has the side.
pub returns-in-Some : goal.returns-in-Some
returns-in-Some c =
    let live = c.args.self.now in
    let txn = c.args.txn.now in
    let seen = as_seen c.self.inside.sides c.self.inside.released.items live c.self.invariant.0 c.self.view_is in
    let there : side_with txn c.self.inside.sides.sides ≡ Some c.in-Some.side.now = search rules in
    let held = ap (found_or (idle_held live.role txn))
    (held_there live txn c.in-Some.side.now (ap (λ all. side_with txn all.sides) (sym seen) ∙ there)) in
    c.of.ensures ∙ ap (shown_of c.in-Some.side.now) c.released_of.ensures.value
    ∙ sym (ap (λ held. shown_of held.side held.released) held)

-- If the side is not held, the result has the parts of an idle side. By `seen` the sides in memory are those of the
-- contents `live`. By `held` the entry of `txn` is the idle one.
pub returns-in-None : goal.returns-in-None
returns-in-None c =
    let live = c.args.self.now in
    let txn = c.args.txn.now in
    let seen = as_seen c.self.inside.sides c.self.inside.released.items live c.self.invariant.0 c.self.view_is in
    let none : side_with txn c.self.inside.sides.sides ≡ None = search rules in
    let held = ap (found_or (idle_held live.role txn))
    (none_held_there live txn (ap (λ all. side_with txn all.sides) (sym seen) ∙ none)) in
    c.idle.ensures live.role txn ∙ sym (ap (λ held. shown_of held.side held.released) held)
