-- Proves the clauses `open` and `over` of `nights_are_rounds` (`src/laws.rt`). If the loan is over for the requester,
-- both sides are at rest, and neither sends.
use Rattle.ill_world.proofs.Nights.{night_is_round, night_is_saves}
use Rattle.ill_world.proofs.laws.nights_are_rounds.Goals as goal

pub returns-clause-open : goal.returns-clause-open
returns-clause-open c = λ txn w stands is_open. night_is_round txn (c.world_stands.ensures.after txn) w stands is_open

pub returns-clause-over : goal.returns-clause-over
returns-clause-over c =
    λ txn w stands over. night_is_saves txn (c.world_stands.ensures.after txn) w
    (c.requester_is_over_last.ensures txn w stands over) over
