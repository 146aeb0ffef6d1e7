-- Proves the contract of `dates_rise` (`src/responder/rules.rt`). It holds because each date is tested against the last
-- one before it.
use Rattle.std.proofs.Common.{true, false, refl, sym, ◌∙◌}
use Rattle.ill_core.proofs.ResponderLists.{rise_at}
use Rattle.ill_core.proofs.responder.rules.dates_rise.Goals as goal

-- If the APDU grants a date that is not after the last one, the dates do not rise.
pub returns-then-not-may_follow : goal.returns-then-not-may_follow
returns-then-not-may_follow c =
    sym (c.loop-apdu.invariant ∙ rise_at c.loop-apdu.last c.grant-found.result _ false _ _ c.apdu-item.result
    c.loop-apdu-test.true c.apdu-item.is c.grant-found.ensures c.if-not-may_follow.ensures refl)

-- If the APDU grants no date or a later one, the test of the rest decides.
pub loop-apdu-preserved : goal.loop-apdu-preserved
loop-apdu-preserved c =
    c.loop-apdu.invariant ∙ rise_at c.loop-apdu.last c.grant-found.result c.or-last.result true _ _ c.apdu-item.result
    c.loop-apdu-test.true c.apdu-item.is c.grant-found.ensures c.if-not-may_follow.ensures c.or-last.ensures
