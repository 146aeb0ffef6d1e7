-- Proves the contract of `night_facts` (`src/night_laws.rt`).
use Rattle.ill_progress.proofs.night_laws.night_facts.Goals as goal

-- Each fact is a clause of a law that is called.
pub returns : goal.returns
returns c = λ txn. record {
  after = c.world_stands.ensures.after txn;
  rests = c.requester_is_over_last.ensures txn;
  converged = c.one_round_is_enough.ensures.stands txn;
  rounds = c.nights_are_rounds.ensures.open txn;
  saves = c.nights_are_rounds.ensures.over txn;
  night = c.one_night_is_enough.ensures.stands txn;
  over_stays = c.what_is_over_stays.ensures.requester;
  requester_issues = c.requester_issues.ensures.takes;
  responder_txn = c.responder_keeps_txn.ensures.takes;
  responder_takes = c.responder_has_heard.ensures.takes;
  responder_stays = c.responder_has_heard.ensures.stays;
}
