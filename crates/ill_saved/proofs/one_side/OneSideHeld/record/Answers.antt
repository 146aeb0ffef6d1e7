-- Proves the contract of `OneSide::record` (`src/one_side.rt`).
-- The next committed record has the record of the side as its bytes.
use Rattle.std.proofs.Common.{subst}
use Rattle.ill_saved.proofs.Desks.{next_record}
use Rattle.ill_saved.specs.Holdings.{IsRecordOf}
use Rattle.std.specs.Prelude.{IfOk}
use Rattle.ill_saved.specs.OneSide.{OneBacks, one_side}
use Rattle.ill_saved.proofs.one_side.OneSideHeld.record.Goals as goal

-- The next committed record has the record of the side as its bytes.
pub returns-clause-record : goal.returns-clause-record
returns-clause-record c =
    let held = c.self.inside in
    subst (λ live. IfOk c.next.result (λ made. IsRecordOf one_side OneBacks made.bytes live)) c.self.view_is
    (next_record c.read_again.ensures held.side held.released c.next.result c.next.ensures c.self.invariant.0)
