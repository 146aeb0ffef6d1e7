-- Proves the contract of `requester_has_begun` (`src/laws/requester.rt`).
use Rattle.ill_core.proofs.RequesterLaws.{acts_begun, takes_begun}
use Rattle.ill_core.proofs.laws.requester.requester_has_begun.Goals as goal

pub returns-clause-acts : goal.returns-clause-acts
returns-clause-acts c = acts_begun

pub returns-clause-takes : goal.returns-clause-takes
returns-clause-takes c = takes_begun
