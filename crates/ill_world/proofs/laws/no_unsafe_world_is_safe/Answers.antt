-- Answers the contract of `no_unsafe_world_is_safe` (`src/laws.rt`).
use Rattle.ill_world.proofs.BadWorlds.{not_safe}
use Rattle.ill_world.proofs.laws.no_unsafe_world_is_safe.Goals as goal

pub returns : goal.returns
returns c = not_safe
