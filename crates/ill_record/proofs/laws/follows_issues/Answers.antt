-- Proves the contract of `follows_issues` (`src/laws.rt`).
use Rattle.ill_record.proofs.Transitions.{follows_issues}
use Rattle.ill_record.proofs.laws.follows_issues.Goals as goal

-- If transitions lead from one side to another, the second has issued all messages of the first.
pub returns : goal.returns
returns c = follows_issues c.rows_grow.ensures
