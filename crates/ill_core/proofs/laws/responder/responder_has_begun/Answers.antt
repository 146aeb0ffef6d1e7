-- Proves the contract of `responder_has_begun` (`src/laws/responder.rt`).
use Rattle.ill_core.proofs.ResponderLaws.{acts_begun, request_begins}
use Rattle.ill_core.proofs.laws.responder.responder_has_begun.Goals as goal

pub returns-clause-acts : goal.returns-clause-acts
returns-clause-acts c = acts_begun

pub returns-clause-takes : goal.returns-clause-takes
returns-clause-takes c = request_begins
