-- Proves the contract of `Sides::new` (`src/sides.rt`).
use Rattle.ill_record.proofs.DeskEntry.{none_filed}
use Rattle.ill_record.proofs.sides.Sides.new.Goals as goal

-- The entries of an empty map satisfy `AreFiled`.
pub invariant_of-result : goal.invariant_of-result
invariant_of-result c = none_filed c.args.role _ c.new.ensures.empty
