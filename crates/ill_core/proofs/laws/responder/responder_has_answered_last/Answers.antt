-- Proves the contract of `responder_has_answered_last` (`src/laws/responder.rt`).
use Rattle.ill_core.proofs.ResponderQuestions.{acts_has_answered, takes_has_answered}
use Rattle.ill_core.proofs.laws.responder.responder_has_answered_last.Goals as goal

pub returns-clause-acts : goal.returns-clause-acts
returns-clause-acts c = acts_has_answered

pub returns-clause-takes : goal.returns-clause-takes
returns-clause-takes c = takes_has_answered
