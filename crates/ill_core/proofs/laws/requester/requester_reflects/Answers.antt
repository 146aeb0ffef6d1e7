-- Proves the contract of `requester_reflects` (`src/laws/requester.rt`).
use Rattle.ill_core.proofs.RequesterReflecting.{acts_reflects, takes_reflects}
use Rattle.ill_core.proofs.laws.requester.requester_reflects.Goals as goal

pub returns-clause-acts : goal.returns-clause-acts
returns-clause-acts c = acts_reflects

pub returns-clause-takes : goal.returns-clause-takes
returns-clause-takes c = takes_reflects
