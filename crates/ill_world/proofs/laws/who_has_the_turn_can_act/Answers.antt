-- Proves the clauses of `who_has_the_turn_can_act` (`src/laws.rt`). If two records are converged, and the loan is not
-- over, one of both has the turn.
use Rattle.std.proofs.Common.{inl, inr}
use Rattle.ill_world.proofs.Turns.{can_ask, can_lend}
use Rattle.ill_world.proofs.laws.who_has_the_turn_can_act.Goals as goal

pub returns-clause-asks : goal.returns-clause-asks
returns-clause-asks c = can_ask

pub returns-clause-lends : goal.returns-clause-lends
returns-clause-lends c = can_lend

pub returns-clause-converged : goal.returns-clause-converged
returns-clause-converged c =
    λ x y step unended asking lending. elim (c.one_of_two_converged_sides_acts.ensures.acts x y step unended) [
      | inl mine ↦ inl (can_ask x mine.0 asking)
      | inr mine ↦ inr (can_lend y mine.0 lending)
    ]
