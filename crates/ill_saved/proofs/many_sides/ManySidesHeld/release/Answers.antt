-- Proves the contract of `ManySides::release` (`src/many_sides.rt`).
-- The record has the number of issued messages of each side.
use Rattle.std.proofs.Common.{◌≡◌, ap, sym, subst, ◌∙◌}
use Rattle.ill_record.specs.RecordsV2.{AreSides}
use Rattle.ill_saved.specs.ManySides.{counts, whole_of}
use Rattle.ill_saved.proofs.Contents.{as_many_counted, as_seen, each_consistent, whole_backable, whole_held}
use Rattle.ill_saved.proofs.many_sides.ManySidesHeld.release.Goals as goal

-- Each side has a count, and the sides back themselves. `all` are the sides in memory, which are those of the desk's
-- contents (`seen`) and may be saved (`are`).
pub invariant_of-self : goal.invariant_of-self
invariant_of-self c =
    let all = c.self.inside.sides in
    let seen = sym (as_seen all c.self.inside.released.items c.args.self.now c.self.invariant.0 c.self.view_is) in
    let are = subst AreSides seen c.requires.fits.0 in
    let counted : c.args.committed.counts.items ≡ counts all.sides = c.requires.fits.1 ∙ ap (λ held. counts held.sides) seen in (
      as_many_counted all.sides c.args.committed.counts.items counted,
      whole_backable all c.args.committed.counts.items (each_consistent all.sides are.each) counted,
    )

-- All messages are released.
pub returns : goal.returns
returns c =
    let all = c.self.inside.sides in
    let seen = as_seen all c.self.inside.released.items c.args.self.now c.self.invariant.0 c.self.view_is in
    let counted : c.args.committed.counts.items ≡ counts all.sides =
    c.requires.fits.1 ∙ ap (λ held. counts held.sides) (sym seen) in
    whole_held all c.args.committed.counts.items counted ∙ ap whole_of seen
