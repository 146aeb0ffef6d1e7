-- Answers the contract of `stamp` (`src/request.rt`).
use Rattle.ill_line.proofs.RequestLemmas.{refused_mapped}
use Rattle.ill_line.proofs.request.stamp.Goals as goal

-- A justified refusal of the day or of the name is a justified refusal of the stamp.
pub returns-in-Err : goal.returns-in-Err
returns-in-Err c = refused_mapped _ _ _ c.in-Err.ensures
