-- Proves the contract of `verb_names_are_read` (`src/laws/names.rt`). It holds because the name of each verb is read as
-- this verb.
use Rattle.ill_core.specs.Verbs.{verb_name, all_verbs}
use Rattle.ill_core.proofs.NameLemmas.{verb_again}
use Rattle.ill_core.proofs.laws.names.verb_names_are_read.Goals as goal

pub returns : goal.returns
returns c = c.names_are_read.ensures verb_name all_verbs verb_again
