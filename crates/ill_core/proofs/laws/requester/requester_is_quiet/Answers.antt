-- Proves the contract of `requester_is_quiet` (`src/laws/requester.rt`).
use Rattle.ill_core.proofs.RequesterLaws.{takes_quiet}
use Rattle.ill_core.proofs.laws.requester.requester_is_quiet.Goals as goal

pub returns : goal.returns
returns c = takes_quiet
