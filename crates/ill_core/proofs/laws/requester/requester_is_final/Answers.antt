-- Proves the contract of `requester_is_final` (`src/laws/requester.rt`).
use Rattle.ill_core.proofs.RequesterLaws.{acts_final, takes_final}
use Rattle.ill_core.proofs.laws.requester.requester_is_final.Goals as goal

pub returns-clause-acts : goal.returns-clause-acts
returns-clause-acts c = acts_final

pub returns-clause-takes : goal.returns-clause-takes
returns-clause-takes c = takes_final
