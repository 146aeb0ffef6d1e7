-- Answers the contract of `every_run_is_safe` (`src/laws.rt`).
use Rattle.std.proofs.Common.{take}
use Rattle.ill_world.proofs.laws.every_run_is_safe.Goals as goal

pub returns : goal.returns
returns c = λ txn events n. c.every_world_is_safe.ensures txn (take n events)
