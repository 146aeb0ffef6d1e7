-- Proves the contract of `what_is_over_stays` (`src/laws/turns.rt`).
use Rattle.ill_core.proofs.TurnLemmas.{requester_stays, responder_stays}
use Rattle.ill_core.proofs.laws.turns.what_is_over_stays.Goals as goal

pub returns-clause-requester : goal.returns-clause-requester
returns-clause-requester c = requester_stays

pub returns-clause-responder : goal.returns-clause-responder
returns-clause-responder c = responder_stays
