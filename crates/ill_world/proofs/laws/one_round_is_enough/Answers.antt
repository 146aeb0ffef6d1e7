-- Proves the clauses `stands` and `run` of `one_round_is_enough` (`src/laws.rt`). By the tables `has_heard` holds of
-- each message of a round, so that the records are converged.
use Rattle.ill_world.specs.World.{first_world}
use Rattle.ill_world.proofs.OneRound.{TransitionsHear, one_round}
use Rattle.ill_world.proofs.Runs.{run_stands}
use Rattle.ill_world.proofs.laws.one_round_is_enough.Goals as goal

-- The laws of the tables make up `TransitionsHear`, from which `one_round` follows.
pub returns-clause-stands : goal.returns-clause-stands
returns-clause-stands c =
    let rows : TransitionsHear = record {
      requester_txn = c.requester_keeps_txn.ensures.takes;
      requester_issues = c.requester_issues.ensures.takes;
      requester_takes = c.requester_has_heard.ensures.takes;
      requester_stays = c.requester_has_heard.ensures.stays;
      responder_txn = c.responder_keeps_txn.ensures.takes;
      responder_issues = c.responder_issues.ensures.takes;
      responder_ends = c.responder_ends.ensures.takes;
      responder_final = c.responder_is_final.ensures.takes;
      responder_takes = c.responder_has_heard.ensures.takes;
      responder_stays = c.responder_has_heard.ensures.stays;
    } in
    λ txn w stands can. one_round rows txn (c.world_stands.ensures.after txn) w stands can

-- A run keeps the invariant, so that the clause `stands` holds after it.
pub returns-clause-run : goal.returns-clause-run
returns-clause-run c =
    λ txn events can.
    returns-clause-stands c txn _ (run_stands txn (c.world_stands.ensures.after txn) (first_world txn) events
    (c.world_stands.ensures.first txn)) can
