-- Answers the contract of `stamp_if` (`src/request.rt`).
use Rattle.ill_line.proofs.RequestLemmas.{refused_on}
use Rattle.ill_line.proofs.request.stamp_if.Goals as goal

-- A justified refusal of `stamp` is a justified refusal of `stamp_if`, which reads the stamp first.
pub returns-in-Err : goal.returns-in-Err
returns-in-Err c = refused_on _ _ _ c.in-Err.ensures
