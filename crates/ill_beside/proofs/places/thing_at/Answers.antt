-- Answers the contract of `thing_at` (`src/places.rt`).
use Rattle.ill_beside.proofs.PlacesLemmas.{item_at}
use Rattle.ill_beside.proofs.places.thing_at.Goals as goal

-- Proves the contract of `thing_at` by the contract of `get`, which it calls.
pub returns : goal.returns
returns g c = item_at c.args.things.now c.args.place c.get.result c.get.ensures.lookup
