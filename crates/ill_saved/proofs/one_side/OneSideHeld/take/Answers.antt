-- Proves the contract of `OneSide::take` (`src/one_side.rt`).
-- A message leads to the new side by a transition, or the side is unchanged.
use Rattle.std.proofs.Common.{subst}
use Rattle.ill_saved.specs.Holdings.{StaysBacked}
use Rattle.ill_saved.specs.OneSide.{OneBacks, one_side}
use Rattle.ill_saved.proofs.Desks.{takes_rules}
use Rattle.ill_saved.proofs.one_side.OneSideHeld.take.Goals as goal

-- The held side satisfies `Rules` if the side refuses the APDU.
pub invariant_of-self : goal.invariant_of-self
invariant_of-self c =
    let held = c.self.inside in
    (takes_rules c.rows_grow.ensures c.rows_keep_request.ensures held.committed_record held.side c.take.new.self held.released
    c.args.apdu.now c.take.result c.take.ensures c.self.invariant).0

-- All bytes that backed the old side back the new one, if it refuses the APDU.
pub returns-in_err-take-clause-backed : goal.returns-in_err-take-clause-backed
returns-in_err-take-clause-backed c =
    let held = c.self.inside in
    let right = takes_rules c.rows_grow.ensures c.rows_keep_request.ensures held.committed_record held.side c.take.new.self
    held.released c.args.apdu.now c.take.result c.take.ensures c.self.invariant in
    subst (λ old. StaysBacked one_side OneBacks old (record { side = c.take.new.self; released = held.released })) c.self.view_is
    right.1

-- The held side satisfies `Rules` after the side has taken the APDU.
pub invariant_of-self-2 : goal.invariant_of-self-2
invariant_of-self-2 c =
    let held = c.self.inside in
    (takes_rules c.rows_grow.ensures c.rows_keep_request.ensures held.committed_record held.side c.take.new.self held.released
    c.args.apdu.now c.take.result c.take.ensures c.self.invariant).0

-- All bytes that backed the old side back the new one, after it has taken the APDU.
pub returns-clause-backed : goal.returns-clause-backed
returns-clause-backed c =
    let held = c.self.inside in
    let right = takes_rules c.rows_grow.ensures c.rows_keep_request.ensures held.committed_record held.side c.take.new.self
    held.released c.args.apdu.now c.take.result c.take.ensures c.self.invariant in
    subst (λ old. StaysBacked one_side OneBacks old (record { side = c.take.new.self; released = held.released })) c.self.view_is
    right.1
