-- Answers the contract of `was_granted` (`src/laws.rt`).
use Rattle.ill_world.proofs.Claims.{was_granted}
use Rattle.ill_world.proofs.laws.was_granted.Goals as goal

pub returns : goal.returns
returns c = was_granted
