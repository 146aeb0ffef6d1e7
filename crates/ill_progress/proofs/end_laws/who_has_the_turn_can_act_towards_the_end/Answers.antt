-- Proves the contract of `who_has_the_turn_can_act_towards_the_end` (`src/end_laws.rt`). If two records are converged,
-- one of both has the turn.
use Rattle.std.proofs.Common.{inl, inr}
use Rattle.ill_progress.proofs.EndsActs.{can_wish, can_do}
use Rattle.ill_progress.proofs.end_laws.who_has_the_turn_can_act_towards_the_end.Goals as goal

pub returns-clause-asks : goal.returns-clause-asks
returns-clause-asks c = can_wish

pub returns-clause-lends : goal.returns-clause-lends
returns-clause-lends c = can_do

pub returns-clause-converged : goal.returns-clause-converged
returns-clause-converged c =
    λ x y step unended asking lending. elim (c.one_of_two_converged_sides_acts.ensures.acts x y step unended) [
      | inl mine ↦ inl (can_wish x mine.0 asking)
      | inr mine ↦ inr (can_do y mine.0 lending)
    ]
