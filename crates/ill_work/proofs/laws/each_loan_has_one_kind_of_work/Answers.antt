-- Proves the clause `counted` of `each_loan_has_one_kind_of_work` (`src/laws.rt`).
use Rattle.ill_work.proofs.CountLemmas.{counts_add_up}
use Rattle.ill_work.proofs.laws.each_loan_has_one_kind_of_work.Goals as goal

-- The numbers of all kinds add up, by `counts_add_up`.
pub returns-clause-counted : goal.returns-clause-counted
returns-clause-counted c = counts_add_up
