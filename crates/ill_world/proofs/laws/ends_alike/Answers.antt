-- Answers the contract of `ends_alike` (`src/laws.rt`).
use Rattle.ill_world.proofs.Claims.{ends_alike}
use Rattle.ill_world.proofs.laws.ends_alike.Goals as goal

pub returns : goal.returns
returns c = ends_alike
