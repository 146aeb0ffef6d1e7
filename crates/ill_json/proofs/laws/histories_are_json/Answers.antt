-- Proves the contract of `histories_are_json` (`src/laws.rt`). It is the lemma `parts_are`.
use Rattle.ill_json.proofs.LineLemmas.{parts_are}
use Rattle.ill_json.proofs.laws.histories_are_json.Goals as goal

pub returns : goal.returns
returns c = parts_are
