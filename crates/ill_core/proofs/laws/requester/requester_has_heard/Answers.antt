-- Proves the contract of `requester_has_heard` (`src/laws/requester.rt`).
use Rattle.ill_core.proofs.RequesterHearing.{takes_heard, takes_hearing}
use Rattle.ill_core.proofs.laws.requester.requester_has_heard.Goals as goal

pub returns-clause-takes : goal.returns-clause-takes
returns-clause-takes c = takes_heard

pub returns-clause-stays : goal.returns-clause-stays
returns-clause-stays c = takes_hearing
