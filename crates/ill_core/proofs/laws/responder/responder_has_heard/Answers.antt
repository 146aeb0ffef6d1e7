-- Proves the contract of `responder_has_heard` (`src/laws/responder.rt`).
use Rattle.ill_core.proofs.ResponderMoves.{takes_heard, takes_stays}
use Rattle.ill_core.proofs.laws.responder.responder_has_heard.Goals as goal

pub returns-clause-takes : goal.returns-clause-takes
returns-clause-takes c = takes_heard

pub returns-clause-stays : goal.returns-clause-stays
returns-clause-stays c = takes_stays
