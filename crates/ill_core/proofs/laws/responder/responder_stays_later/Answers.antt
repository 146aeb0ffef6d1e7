-- Proves the contract of `responder_stays_later` (`src/laws/responder.rt`).
use Rattle.ill_core.proofs.ResponderLaws.{acts_later, takes_later}
use Rattle.ill_core.proofs.laws.responder.responder_stays_later.Goals as goal

pub returns-clause-acts : goal.returns-clause-acts
returns-clause-acts c = acts_later

pub returns-clause-takes : goal.returns-clause-takes
returns-clause-takes c = takes_later
