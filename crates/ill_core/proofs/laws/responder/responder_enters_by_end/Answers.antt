-- Proves the contract of `responder_enters_by_end` (`src/laws/responder.rt`).
use Rattle.ill_core.proofs.ResponderLaws.{acts_enter, takes_enter}
use Rattle.ill_core.proofs.laws.responder.responder_enters_by_end.Goals as goal

pub returns-clause-acts : goal.returns-clause-acts
returns-clause-acts c = acts_enter

pub returns-clause-takes : goal.returns-clause-takes
returns-clause-takes c = takes_enter
