-- Answers the contract of `no_disagreeing_world_agrees` (`src/laws.rt`).
use Rattle.ill_world.proofs.BadWorlds.{not_agreed}
use Rattle.ill_world.proofs.laws.no_disagreeing_world_agrees.Goals as goal

pub returns : goal.returns
returns c = not_agreed
