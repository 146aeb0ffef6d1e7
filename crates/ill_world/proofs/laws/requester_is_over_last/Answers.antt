-- Answers the contract of `requester_is_over_last` (`src/laws.rt`).
use Rattle.ill_world.proofs.Nights.{at_rest}
use Rattle.ill_world.proofs.laws.requester_is_over_last.Goals as goal

pub returns : goal.returns
returns c = at_rest
