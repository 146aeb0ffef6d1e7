-- Proves the contract of `requester_stays_later` (`src/laws/requester.rt`).
use Rattle.ill_core.proofs.RequesterLaws.{acts_later, takes_later}
use Rattle.ill_core.proofs.laws.requester.requester_stays_later.Goals as goal

pub returns-clause-acts : goal.returns-clause-acts
returns-clause-acts c = acts_later

pub returns-clause-takes : goal.returns-clause-takes
returns-clause-takes c = takes_later
