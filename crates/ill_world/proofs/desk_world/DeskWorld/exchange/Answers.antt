-- Proves the clauses `performs` and `converged` of `DeskWorld::exchange` (`src/desk_world.rt`). It performs both halves
-- of a round, after which `one_desk_round_is_enough` holds.
use Rattle.std.proofs.Common.{◌++◌, subst}
use Rattle.ill_values.specs.TxnId.{Qualifiers}
use Rattle.ill_record.specs.declared.role.Role.TheVariants.{Requester, Responder}
use Rattle.ill_world.specs.Desks.{DeskParties, desks_happen, desks_run, project}
use Rattle.ill_world.specs.Round.{Performs, CanAnswer, AreConverged}
use Rattle.ill_world.specs.DeskRound.{desk_half_of, desk_round_of}
use Rattle.ill_world.proofs.Rounds.{performs_prefix, performs_both, performed, prefix_further}
use Rattle.ill_world.proofs.desk_world.DeskWorld.exchange.Goals as goal

-- If memory runs out in the first half, a prefix of the events of the round has happened.
pub returns-in_err-pass_on-clause-performs : goal.returns-in_err-pass_on-clause-performs
returns-in_err-pass_on-clause-performs c =
    let w = c.args.self.now in
    let first = desk_half_of Requester w in
    let second = desk_half_of Responder (desks_run w first) in
    let done = c.in_err-pass_on.ensures in
    performs_prefix desks_happen (first ++ second) done.0 w c.pass_on.new.self c.from_residual.result c.from_residual.ensures.0
    (prefix_further done.0 first second done.1) done.2

-- The first half has happened. The second half, or a prefix of it, goes on from the desks after the first.
pub returns-clause-performs : goal.returns-clause-performs
returns-clause-performs c =
    let w = c.args.self.now in
    let first = desk_half_of Requester w in
    let between = c.pass_on.new.self in
    let second = subst (λ v. Performs desks_run (desk_half_of Responder v) between c.pass_on-2.result c.pass_on-2.new.self)
    c.in_ok-pass_on.ensures c.pass_on-2.ensures in
    performs_both desks_happen first (desk_half_of Responder (desks_run w first)) w between c.pass_on-2.new.self
    c.pass_on-2.result c.in_ok-pass_on.ensures second

-- After a whole round both sides of each transaction are converged, if the responder could answer before. `step` is the
-- law for `old`.
pub returns-clause-converged : goal.returns-clause-converged
returns-clause-converged c =
    let old = c.args.self.now in
    let w : DeskParties = record { requester = c.self.inside.requester; responder = c.self.inside.responder } in
    let step = subst (λ (v : DeskParties).
    (txn : Qualifiers) → CanAnswer (project txn v).responder.live → AreConverged (project txn (desks_run v (desk_round_of v))))
    c.self.view_is
    (λ txn. c.one_desk_round_is_enough.ensures.converged txn w c.self.invariant) in
    performed desks_happen (λ new. (txn : Qualifiers) → CanAnswer (project txn old).responder.live
    → AreConverged (project txn new))
    (desk_round_of old) old c.pass_on-2.new.self c.pass_on-2.result
    (returns-clause-performs c) step
