-- Proves the contract of `ManySides::record` (`src/many_sides.rt`).
-- Sides that may be saved (`AreSides`) are read from their encoding.
use Rattle.std.proofs.Common.{subst, ap, ◌∙◌}
use Rattle.ill_record.specs.RecordsV2.{AreSides}
use Rattle.ill_saved.specs.ManySides.{counts, AreBackable}
use Rattle.ill_saved.proofs.Contents.{as_seen, each_consistent, sides_record}
use Rattle.ill_saved.proofs.many_sides.ManySidesHeld.record.Goals as goal

-- The counts are those of the sides.
pub returns-clause-fits : goal.returns-clause-fits
returns-clause-fits c =
    let seen = as_seen c.self.inside.sides c.self.inside.released.items c.args.self.now c.self.invariant.0 c.self.view_is in
    (subst AreSides seen c.in_ok-bytes.ensures.sides, c.in_ok-counts.ensures ∙ ap (λ held. counts held.sides) seen)

-- The bytes are the record of the sides.
pub returns-clause-record : goal.returns-clause-record
returns-clause-record c =
    let all = c.self.inside.sides in
    let are = c.in_ok-bytes.ensures.sides in
    sides_record c.follows_issues.ensures all c.self.inside.released.items c.self.invariant.0 (each_consistent all.sides are.each)
    c.sides_read_again.ensures are c.in_ok-bytes.bytes.items c.args.self.now c.in_ok-bytes.ensures.bytes c.self.view_is
    (subst AreBackable c.self.view_is c.self.invariant.1)

-- One desk may hold the sides, and each is consistent and in range (`AreSides`).
pub returns-clause-range : goal.returns-clause-range
returns-clause-range c =
    subst AreSides (as_seen c.self.inside.sides c.self.inside.released.items c.args.self.now c.self.invariant.0 c.self.view_is)
    c.in_ok-bytes.ensures.sides
