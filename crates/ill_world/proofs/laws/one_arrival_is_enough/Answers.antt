-- Proves the contract of `one_arrival_is_enough` (`src/laws.rt`). By the tables a requester that takes a message that
-- ends the request gets to the states of this end. A responder that takes a Returned gets to RETURNED or CHECKED-IN.
use Rattle.ill_world.proofs.Arrivals.{arrives}
use Rattle.ill_world.proofs.laws.one_arrival_is_enough.Goals as goal

pub returns : goal.returns
returns c =
    let requester = c.requester_follows.ensures in
    arrives (record {
      shipped = requester.shipped;
      ended = requester.ended;
      cancelled = requester.cancelled;
      returned = c.responder_follows.ensures;
    })
