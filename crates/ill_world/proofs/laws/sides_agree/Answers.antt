-- Answers the contract of `sides_agree` (`src/laws.rt`).
use Rattle.ill_world.proofs.Agreements.{agrees}
use Rattle.ill_world.proofs.laws.sides_agree.Goals as goal

pub returns : goal.returns
returns c = agrees
