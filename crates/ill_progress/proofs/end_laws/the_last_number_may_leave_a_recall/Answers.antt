-- Proves the clauses of `the_last_number_may_leave_a_recall` (`src/end_laws.rt`). No deed has a row in RECALL.
use Rattle.std.proofs.Common.{refl}
use Rattle.ill_progress.proofs.EndsActs.{recalled_refuses}
use Rattle.ill_progress.proofs.EndsLast.{last_asks, last_lends, last_converged, last_used}
use Rattle.ill_progress.proofs.end_laws.the_last_number_may_leave_a_recall.Goals as goal

pub returns-clause-refused : goal.returns-clause-refused
returns-clause-refused c =
    λ x y step is used.
    (λ wish. c.no_action_lacks_a_number.ensures.asks x wish used, λ deed today. recalled_refuses x y deed today step is)

pub returns-clause-worked : goal.returns-clause-worked
returns-clause-worked c = (last_asks, last_lends, last_converged, refl, last_used)
