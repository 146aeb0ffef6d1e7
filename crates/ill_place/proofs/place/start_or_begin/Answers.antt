-- Answers the contract of `start_or_begin` (`src/place.rt`).
use Rattle.std.proofs.Common.{◌∙◌}
use Rattle.ill_place.proofs.place.start_or_begin.Goals as goal

-- Proves that a desk is begun at the place, since the load that found no record kept the path of the store.
pub returns-in-Err-NoRecord-default-clause-opens : goal.returns-in-Err-NoRecord-default-clause-opens
returns-in-Err-NoRecord-default-clause-opens g c = λ path at.
    c.begin.ensures.begins path (c.in-Err-NoRecord-default.ensures.store.path ∙ at)
