-- Proves the contract of `Sides::place` (`src/sides.rt`).
-- Each side has its own transaction as its key, at one index.
use Rattle.std.proofs.Common.{ap, ◌∙◌}
use Rattle.std.specs.Prelude.{position}
use Rattle.ill_core.specs.Issued.{is_same_txn}
use Rattle.ill_record.proofs.Finding.{position_mapped}
use Rattle.ill_record.specs.Side.{txn_of}
use Rattle.ill_record.proofs.sides.Sides.place.Goals as goal

-- The index of the entry is the place of the side.
pub returns-clause-place : goal.returns-clause-place
returns-clause-place c =
    let test = is_same_txn c.args.txn.now in
    c.get_index_of.ensures.index ∙ ap (position test) c.self.invariant.keys
    ∙ position_mapped test txn_of _ ∙ ap (λ held. position (λ side. test (txn_of side)) held.sides) c.self.view_is
