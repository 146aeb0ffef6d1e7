-- Proves the contract of `responder_ends` (`src/laws/responder.rt`).
use Rattle.ill_core.proofs.ResponderLaws.{acts_end, takes_end}
use Rattle.ill_core.proofs.laws.responder.responder_ends.Goals as goal

pub returns-clause-acts : goal.returns-clause-acts
returns-clause-acts c = acts_end

pub returns-clause-takes : goal.returns-clause-takes
returns-clause-takes c = takes_end
