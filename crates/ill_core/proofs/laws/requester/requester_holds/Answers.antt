-- Proves the contract of `requester_holds` (`src/laws/requester.rt`).
use Rattle.ill_core.proofs.RequesterLaws.{takes_holds}
use Rattle.ill_core.proofs.laws.requester.requester_holds.Goals as goal

pub returns : goal.returns
returns c = takes_holds
