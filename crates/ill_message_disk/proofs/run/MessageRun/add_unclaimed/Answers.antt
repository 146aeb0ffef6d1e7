-- Answers the contract of `MessageRun::add_unclaimed` (`src/run.rt`).
use Rattle.std.proofs.Common.{sym, subst, None}
use Rattle.ill_message_disk.specs.TakenPaths.{IsInOrder}
use Rattle.ill_message_disk.proofs.Adding.{add_spread}
use Rattle.ill_message_disk.proofs.Taken.{known_still}
use Rattle.ill_message_disk.proofs.run.MessageRun.add_unclaimed.Goals as goal

-- A message file of which the run takes no care leaves the others spread, and the sets as they are.
pub invariant_of-self-2 : goal.invariant_of-self-2
invariant_of-self-2 g c = subst (λ l. IsInOrder c.self.inside.asked c.self.inside.taken l) (sym c.in_ok-push.ensures.items)
    (record {
      spread = add_spread c.self.inside.asked c.self.inside.spots.items None c.self.invariant.spread tt;
      known = known_still c.self.inside.taken c.self.inside.spots.items c.self.invariant.known;
    })
