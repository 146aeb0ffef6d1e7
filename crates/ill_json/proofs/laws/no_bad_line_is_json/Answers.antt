-- Proves the clauses of `no_bad_line_is_json` (`src/laws.rt`) by the lemmas of `BadLines`.
use Rattle.ill_json.proofs.BadLines.{not_a_line, not_lines}
use Rattle.ill_json.proofs.laws.no_bad_line_is_json.Goals as goal

pub returns-clause-line : goal.returns-clause-line
returns-clause-line c = not_a_line

pub returns-clause-lines : goal.returns-clause-lines
returns-clause-lines c = not_lines
