-- Proves the contract of `fields_are_found` (`src/laws.rt`). It is the lemma `fields_found`.
use Rattle.ill_json.proofs.Found.{fields_found}
use Rattle.ill_json.proofs.laws.fields_are_found.Goals as goal

pub returns : goal.returns
returns c = fields_found
