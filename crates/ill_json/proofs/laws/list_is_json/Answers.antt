-- Proves the contract of `list_is_json` (`src/laws.rt`). It is the lemma `list_are`.
use Rattle.ill_json.proofs.LineLemmas.{list_are}
use Rattle.ill_json.proofs.laws.list_is_json.Goals as goal

pub returns : goal.returns
returns c = list_are
