-- Answers the contract of `verify_is_json` (`src/laws.rt`).
use Rattle.ill_json.proofs.RecordLines.{record_is}
use Rattle.ill_json.proofs.laws.verify_is_json.Goals as goal

-- Proves the clause `record` of `verify_is_json`. The line of a record has the fields of an object.
pub returns-clause-record : goal.returns-clause-record
returns-clause-record c = record_is
