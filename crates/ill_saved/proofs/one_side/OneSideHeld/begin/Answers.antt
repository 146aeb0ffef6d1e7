-- Proves the contract of `OneSide::begin` (`src/one_side.rt`).
-- The idle side backs itself with no message released.
use Rattle.std.proofs.Common.{◌≡◌, sym, subst}
use Rattle.ill_record.specs.Side.{idle_of}
use Rattle.ill_saved.specs.OneSide.{OneBacks, one_side}
use Rattle.ill_saved.proofs.Desks.{idle_backs}
use Rattle.ill_record.proofs.Transitions.{idle_is_idle}
use Rattle.ill_saved.proofs.one_side.OneSideHeld.begin.Goals as goal

-- The idle side backs itself.
pub returns-clause-backed : goal.returns-clause-backed
returns-clause-backed c =
    let idle = subst (λ side. side ≡ idle_of side) (sym c.idle.ensures) (idle_is_idle _ _) in
    subst (λ held. OneBacks (one_side.unsaved held) held) (sym c.alone.ensures) (idle_backs c.idle.result idle)
