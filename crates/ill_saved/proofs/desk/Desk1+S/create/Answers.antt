-- Proves the contract of `Desk1::create` (`src/desk.rt`).
-- The idle side backs itself with no message released.
use Rattle.std.proofs.Common.{sym, subst}
use Rattle.ill_saved.specs.OneSide.{OneBacks, one_side}
use Rattle.ill_saved.proofs.Desks.{idle_backs}
use Rattle.ill_saved.proofs.desk.Desk1+S.create.Goals as goal

-- The idle side backs itself.
pub over-requires : goal.over-requires
over-requires g c =
    record {
      backed = subst (λ held. OneBacks (one_side.unsaved held) held) (sym c.alone.ensures)
          (idle_backs c.args.first c.requires.idle);
    }
