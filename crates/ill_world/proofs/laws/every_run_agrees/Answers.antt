-- Answers the contract of `every_run_agrees` (`src/laws.rt`).
use Rattle.std.proofs.Common.{take}
use Rattle.ill_world.proofs.laws.every_run_agrees.Goals as goal

pub returns : goal.returns
returns c = λ txn events n. c.every_world_agrees.ensures txn (take n events)
