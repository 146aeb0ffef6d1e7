-- Proves the contract and the invariant of `World::new` (`src/world.rt`). Two parties of idle sides are the first
-- world.
use Rattle.std.proofs.Common.{sym, subst}
use Rattle.ill_world.specs.Invariant.{Invariant}
use Rattle.ill_world.proofs.Worlds.{first_is}
use Rattle.ill_world.proofs.world.World.new.Goals as goal

pub returns : goal.returns
returns c =
    first_is c.args.txn.now _ _ _ _ _ _ c.in_ok-copy.ensures c.in_ok-copy-2.ensures c.idle-requester.ensures
    c.idle-responder.ensures c.in_ok-new.ensures c.in_ok-new-2.ensures

pub invariant_of-result : goal.invariant_of-result
invariant_of-result c =
    let first = first_is c.args.txn.now _ _ _ _ _ _ c.in_ok-copy.ensures c.in_ok-copy-2.ensures c.idle-requester.ensures
    c.idle-responder.ensures c.in_ok-new.ensures c.in_ok-new-2.ensures in
    (c.args.txn.now, subst (Invariant c.args.txn.now) (sym first) (c.world_stands.ensures.first c.args.txn.now))
