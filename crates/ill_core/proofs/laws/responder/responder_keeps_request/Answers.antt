-- Proves the contract of `responder_keeps_request` (`src/laws/responder.rt`).
use Rattle.ill_core.proofs.ResponderLaws.{acts_request, takes_request}
use Rattle.ill_core.proofs.laws.responder.responder_keeps_request.Goals as goal

pub returns-clause-acts : goal.returns-clause-acts
returns-clause-acts c = acts_request

pub returns-clause-takes : goal.returns-clause-takes
returns-clause-takes c = takes_request
