-- Proves the contract of `responder_is_final` (`src/laws/responder.rt`).
use Rattle.ill_core.proofs.ResponderLaws.{acts_final, takes_final}
use Rattle.ill_core.proofs.laws.responder.responder_is_final.Goals as goal

pub returns-clause-acts : goal.returns-clause-acts
returns-clause-acts c = acts_final

pub returns-clause-takes : goal.returns-clause-takes
returns-clause-takes c = takes_final
