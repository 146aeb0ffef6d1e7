-- Proves the contract of `responder_recalls` (`src/laws/responder.rt`).
use Rattle.ill_core.proofs.ResponderRecalls.{acts_recall, takes_recall}
use Rattle.ill_core.proofs.laws.responder.responder_recalls.Goals as goal

pub returns-clause-acts : goal.returns-clause-acts
returns-clause-acts c = acts_recall

pub returns-clause-takes : goal.returns-clause-takes
returns-clause-takes c = takes_recall
