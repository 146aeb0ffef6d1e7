-- Proves the contract of `run_words` (`src/words.rt`).
use Rattle.ill_tool.proofs.words.run_words.Goals as goal

-- Proves the clause `ends`. `read_words` returns the reading of the line. By the contract of `run_line` the status is
-- that of this reading.
pub returns-clause-ends : goal.returns-clause-ends
returns-clause-ends g c = (c.read_words.result, c.run_line.ensures.ends)
