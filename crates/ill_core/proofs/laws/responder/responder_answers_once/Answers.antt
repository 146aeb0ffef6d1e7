-- Proves the contract of `responder_answers_once` (`src/laws/responder.rt`).
use Rattle.ill_core.proofs.ResponderLaws.{acts_once, takes_once}
use Rattle.ill_core.proofs.laws.responder.responder_answers_once.Goals as goal

pub returns-clause-acts : goal.returns-clause-acts
returns-clause-acts c = acts_once

pub returns-clause-takes : goal.returns-clause-takes
returns-clause-takes c = takes_once
