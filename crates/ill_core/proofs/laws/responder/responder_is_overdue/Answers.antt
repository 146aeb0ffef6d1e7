-- Proves the contract of `responder_is_overdue` (`src/laws/responder.rt`).
use Rattle.ill_core.proofs.ResponderOverdue.{acts_overdue, takes_overdue}
use Rattle.ill_core.proofs.laws.responder.responder_is_overdue.Goals as goal

pub returns-clause-acts : goal.returns-clause-acts
returns-clause-acts c = acts_overdue

pub returns-clause-takes : goal.returns-clause-takes
returns-clause-takes c = takes_overdue
