-- Answers the contract of `an_input_is_one_letter` (`src/laws.rt`).
use Rattle.ill_key.proofs.LetterLemmas.{by_seal, left_sealed}
use Rattle.ill_key.proofs.laws.an_input_is_one_letter.Goals as goal

-- Proves the clause `opens`. By `by_seal` an input from which messages are taken is a letter with just these.
pub returns-clause-opens : goal.returns-clause-opens
returns-clause-opens c = by_seal c.what_opens_was_sealed.ensures.opens

-- Proves the clause `left`. By `left_sealed` an input that is refused as `NotSealed` does not open.
pub returns-clause-left : goal.returns-clause-left
returns-clause-left c = left_sealed
