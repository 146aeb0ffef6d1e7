-- Proves the contract of `responder_was_asked` (`src/laws/responder.rt`).
use Rattle.ill_core.proofs.ResponderQuestions.{acts_asked, takes_asked}
use Rattle.ill_core.proofs.laws.responder.responder_was_asked.Goals as goal

pub returns-clause-acts : goal.returns-clause-acts
returns-clause-acts c = acts_asked

pub returns-clause-takes : goal.returns-clause-takes
returns-clause-takes c = takes_asked
