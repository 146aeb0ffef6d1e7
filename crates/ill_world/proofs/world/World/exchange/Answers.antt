-- Proves the clauses `performs` and `converged` of `World::exchange` (`src/world.rt`). It performs both halves of a
-- round, after which `one_round_is_enough` holds.
use Rattle.std.proofs.Common.{◌++◌, subst}
use Rattle.ill_record.specs.declared.role.Role.TheVariants.{Requester, Responder}
use Rattle.ill_world.specs.World.{Parties, happens, run_of}
use Rattle.ill_world.specs.Round.{half_of, round_of, Performs, CanAnswer, AreConverged}
use Rattle.ill_world.proofs.Rounds.{performs_prefix, performs_both, performed, prefix_further}
use Rattle.ill_world.proofs.world.World.exchange.Goals as goal

-- If memory runs out in the first half, a prefix of the events of the round has happened.
pub returns-in_err-pass_on-clause-performs : goal.returns-in_err-pass_on-clause-performs
returns-in_err-pass_on-clause-performs c =
    let w = c.args.self.now in
    let first = half_of Requester w in
    let second = half_of Responder (run_of w first) in
    let done = c.in_err-pass_on.ensures in
    performs_prefix happens (first ++ second) done.0 w c.pass_on.new.self c.from_residual.result c.from_residual.ensures.0
    (prefix_further done.0 first second done.1) done.2

-- The first half has happened. The second half, or a prefix of it, goes on from the world after the first.
pub returns-clause-performs : goal.returns-clause-performs
returns-clause-performs c =
    let w = c.args.self.now in
    let first = half_of Requester w in
    let between = c.pass_on.new.self in
    let second = subst (λ v. Performs run_of (half_of Responder v) between c.pass_on-2.result c.pass_on-2.new.self)
    c.in_ok-pass_on.ensures c.pass_on-2.ensures in
    performs_both happens first (half_of Responder (run_of w first)) w between c.pass_on-2.new.self c.pass_on-2.result
    c.in_ok-pass_on.ensures second

-- After a whole round both sides are converged, if the responder could answer before. `step` is the law for `old`.
pub returns-clause-converged : goal.returns-clause-converged
returns-clause-converged c =
    let old = c.args.self.now in
    let w : Parties = record { requester = c.self.inside.requester; responder = c.self.inside.responder } in
    let step = subst (λ (v : Parties). CanAnswer v.responder.live → AreConverged (run_of v (round_of v))) c.self.view_is
    (c.one_round_is_enough.ensures.stands c.self.invariant.0 w c.self.invariant.1) in
    performed happens (λ new. CanAnswer old.responder.live → AreConverged new) (round_of old) old c.pass_on-2.new.self
    c.pass_on-2.result (returns-clause-performs c) step
