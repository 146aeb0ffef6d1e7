-- Answers the law `each_loan_is_counted_once` (`src/laws.rt`).
use Rattle.ill_figures.proofs.CountLaws.{all_counted, one_outcome, one_reason}
use Rattle.ill_figures.proofs.laws.each_loan_is_counted_once.Goals as goal

-- All loans that were asked are counted.
pub returns-clause-all : goal.returns-clause-all
returns-clause-all c = all_counted

-- Each loan has one outcome.
pub returns-clause-outcome : goal.returns-clause-outcome
returns-clause-outcome c = one_outcome

-- Each loan that was refused has one reason.
pub returns-clause-reason : goal.returns-clause-reason
returns-clause-reason c = one_reason
