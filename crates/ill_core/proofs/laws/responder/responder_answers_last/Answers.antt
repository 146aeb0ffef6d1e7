-- Proves the contract of `responder_answers_last` (`src/laws/responder.rt`).
use Rattle.ill_core.proofs.ResponderLaws.{acts_answer_last, takes_answer_last}
use Rattle.ill_core.proofs.laws.responder.responder_answers_last.Goals as goal

pub returns-clause-acts : goal.returns-clause-acts
returns-clause-acts c = acts_answer_last

pub returns-clause-takes : goal.returns-clause-takes
returns-clause-takes c = takes_answer_last
