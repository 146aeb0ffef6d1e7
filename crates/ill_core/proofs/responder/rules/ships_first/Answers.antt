-- Proves the contract of `ships_first` (`src/responder/rules.rt`). It holds because the first Shipped or Renew-Answer
-- yes decides.
use Rattle.std.proofs.Common.{true, false, refl, sym, ◌∙◌}
use Rattle.ill_core.proofs.ResponderLists.{ships_at}
use Rattle.ill_core.proofs.responder.rules.ships_first.Goals as goal

-- If a Shipped comes first, the test is true.
pub returns-then-is_shipped : goal.returns-then-is_shipped
returns-then-is_shipped c =
    sym (c.loop-apdu.invariant ∙ ships_at true _ _ _ c.apdu-item.result c.loop-apdu-test.true c.apdu-item.is
    c.if-is_shipped.ensures refl)

-- If a Renew-Answer yes comes first, the test is false.
pub returns-then-is_renewal : goal.returns-then-is_renewal
returns-then-is_renewal c =
    sym (c.loop-apdu.invariant ∙ ships_at false true _ _ c.apdu-item.result c.loop-apdu-test.true c.apdu-item.is
    c.if-is_shipped.ensures c.if-is_renewal.ensures)

-- If an APDU is neither, the test of the rest decides.
pub loop-apdu-preserved : goal.loop-apdu-preserved
loop-apdu-preserved c =
    c.loop-apdu.invariant ∙ ships_at false false _ _ c.apdu-item.result c.loop-apdu-test.true c.apdu-item.is
    c.if-is_shipped.ensures c.if-is_renewal.ensures
