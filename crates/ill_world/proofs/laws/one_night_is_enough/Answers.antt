-- Proves the clauses `stands` and `run` of `one_night_is_enough` (`src/laws.rt`). A night is a round, or both sides are
-- at rest already.
use Rattle.ill_world.specs.World.{first_world}
use Rattle.ill_world.proofs.Nights.{one_night}
use Rattle.ill_world.proofs.Runs.{run_stands}
use Rattle.ill_world.proofs.laws.one_night_is_enough.Goals as goal

pub returns-clause-stands : goal.returns-clause-stands
returns-clause-stands c =
    λ txn w stands can.
    one_night w (c.nights_are_rounds.ensures.open txn w stands) (c.nights_are_rounds.ensures.over txn w stands)
    (c.requester_is_over_last.ensures txn w stands)
    (c.one_round_is_enough.ensures.stands txn w stands can)

-- A run keeps the invariant, so that the clause `stands` holds after it.
pub returns-clause-run : goal.returns-clause-run
returns-clause-run c =
    λ txn events can.
    returns-clause-stands c txn _ (run_stands txn (c.world_stands.ensures.after txn) (first_world txn) events
    (c.world_stands.ensures.first txn)) can
