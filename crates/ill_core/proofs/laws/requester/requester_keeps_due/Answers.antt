-- Proves the contract of `requester_keeps_due` (`src/laws/requester.rt`).
use Rattle.ill_core.proofs.RequesterLaws.{acts_due, takes_due}
use Rattle.ill_core.proofs.laws.requester.requester_keeps_due.Goals as goal

pub returns-clause-acts : goal.returns-clause-acts
returns-clause-acts c = acts_due

pub returns-clause-takes : goal.returns-clause-takes
returns-clause-takes c = takes_due
