-- Proves the contract of `requester_keeps_rules` (`src/laws/requester.rt`).
use Rattle.ill_core.proofs.RequesterLaws.{acts_kept, takes_kept}
use Rattle.ill_core.proofs.laws.requester.requester_keeps_rules.Goals as goal

pub returns-clause-acts : goal.returns-clause-acts
returns-clause-acts c = acts_kept

pub returns-clause-takes : goal.returns-clause-takes
returns-clause-takes c = takes_kept
