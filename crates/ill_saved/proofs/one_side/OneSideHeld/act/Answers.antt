-- Proves the contract of `OneSide::act` (`src/one_side.rt`).
-- An action leads to the new side by a transition, or the side is unchanged.
use Rattle.std.proofs.Common.{subst}
use Rattle.ill_saved.specs.Holdings.{StaysBacked}
use Rattle.ill_saved.specs.OneSide.{OneBacks, one_side}
use Rattle.ill_saved.proofs.Desks.{acts_rules}
use Rattle.ill_saved.proofs.one_side.OneSideHeld.act.Goals as goal

-- The held side satisfies `Rules` if the side refuses the action.
pub invariant_of-self : goal.invariant_of-self
invariant_of-self c =
    let held = c.self.inside in
    (acts_rules c.rows_grow.ensures c.rows_keep_request.ensures held.committed_record held.side c.act.new.self held.released
    c.args.action.now c.act.result c.act.ensures c.self.invariant).0

-- The held side satisfies `Rules` after the side has performed the action.
pub invariant_of-self-2 : goal.invariant_of-self-2
invariant_of-self-2 c =
    let held = c.self.inside in
    (acts_rules c.rows_grow.ensures c.rows_keep_request.ensures held.committed_record held.side c.act.new.self held.released
    c.args.action.now c.act.result c.act.ensures c.self.invariant).0

-- All bytes that backed the old side back the new one.
pub returns-clause-backed : goal.returns-clause-backed
returns-clause-backed c =
    let held = c.self.inside in
    let right = acts_rules c.rows_grow.ensures c.rows_keep_request.ensures held.committed_record held.side c.act.new.self
    held.released c.args.action.now c.act.result c.act.ensures c.self.invariant in
    subst (λ old. StaysBacked one_side OneBacks old (record { side = c.act.new.self; released = held.released })) c.self.view_is
    right.1
