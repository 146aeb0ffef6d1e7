-- Proves the contract of `responder_keeps_last` (`src/laws/responder.rt`).
use Rattle.ill_core.proofs.ResponderLaws.{acts_keep_last, takes_keep_last}
use Rattle.ill_core.proofs.laws.responder.responder_keeps_last.Goals as goal

pub returns-clause-acts : goal.returns-clause-acts
returns-clause-acts c = acts_keep_last

pub returns-clause-takes : goal.returns-clause-takes
returns-clause-takes c = takes_keep_last
