-- Proves the contract of `loan_is_json` (`src/laws.rt`). It is the lemma `loan_is`.
use Rattle.ill_json.proofs.LineLemmas.{loan_is}
use Rattle.ill_json.proofs.laws.loan_is_json.Goals as goal

pub returns : goal.returns
returns c = loan_is
