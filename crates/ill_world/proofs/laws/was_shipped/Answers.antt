-- Answers the contract of `was_shipped` (`src/laws.rt`).
use Rattle.ill_world.proofs.Claims.{was_shipped}
use Rattle.ill_world.proofs.laws.was_shipped.Goals as goal

pub returns : goal.returns
returns c = was_shipped
