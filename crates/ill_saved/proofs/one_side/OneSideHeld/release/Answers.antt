-- Proves the contract of `OneSide::release` (`src/one_side.rt`).
-- The committed record has all messages of the live side.
use Rattle.std.proofs.Common.{arith, sym, subst}
use Rattle.ill_saved.specs.CommittedBytes.{IsCommittedRecord}
use Rattle.ill_saved.proofs.Desks.{keeps_whole}
use Rattle.ill_saved.proofs.one_side.OneSideHeld.release.Goals as goal

-- The committed record has all messages of the side.
pub invariant_of-self : goal.invariant_of-self
invariant_of-self c =
    let held = c.self.inside in
    let is = subst (λ live. IsCommittedRecord c.args.committed live.side) (sym c.self.view_is) c.requires.fits in (
      omega (arith, c.issued_count-self-inside.ensures),
      keeps_whole c.args.committed held.side c.issued_count-self-inside.result is c.issued_count-self-inside.ensures,
    )
