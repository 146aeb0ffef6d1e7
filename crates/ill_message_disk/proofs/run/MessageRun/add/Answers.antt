-- Answers the contract of `MessageRun::add` (`src/run.rt`).
use Rattle.std.proofs.Common.{sym, subst, Option, IfSome, ◌≡◌, true}
use Rattle.ill_message_disk.specs.Runs.{is_admitted}
use Rattle.ill_message_disk.specs.TakenPaths.{TakenOf, AreKnown, IsInOrder}
use Rattle.ill_message_disk.proofs.Adding.{add_spread, adds}
use Rattle.ill_message_disk.proofs.run.MessageRun.add.Goals as goal

-- With the new message file the message files of the run are spread, and the sets have their paths.
pub invariant_of-self-2 : goal.invariant_of-self-2
invariant_of-self-2 g c = subst (λ l. IsInOrder c.self.inside.asked c.with_paths-taken.result l) (sym c.in_ok-push.ensures.items)
    (record {
      spread = add_spread c.self.inside.asked c.self.inside.spots.items c.in_ok-spot.spot c.self.invariant.spread
          (subst (λ l. IfSome c.in_ok-spot.spot (λ s. is_admitted c.self.inside.asked l s ≡ true)) c.deref.ensures.value
          c.in_ok-spot.ensures.admitted);
      known = c.with_paths-taken.ensures c.self.inside.spots.items
          (subst (λ (sets : Option TakenOf). AreKnown sets c.self.inside.spots.items) (sym c.take_sets.ensures.taken)
          c.self.invariant.known);
    })

-- The message file that was appended is the one for which `spot_at` looked.
pub returns-clause-added : goal.returns-clause-added
returns-clause-added g c = adds g.D.Disk.state _ _ _ _ _ c.in_ok-spot.spot c.self.view_is c.deref.ensures.value
    c.in_ok-push.ensures.items (λ correct. (c.in_ok-spot.ensures.looks.done correct).spot)
