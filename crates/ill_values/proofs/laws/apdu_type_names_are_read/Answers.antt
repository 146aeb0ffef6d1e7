-- Proves the law `laws::apdu_type_names_are_read`: the name of a type, and no other text, is read as that type.
use Rattle.ill_values.specs.Types.{apdu_type_name, all_types}
use Rattle.ill_values.proofs.Names.{apdu_type_again}
use Rattle.ill_values.proofs.laws.apdu_type_names_are_read.Goals as goal

pub returns : goal.returns
returns c = c.names_are_read.ensures apdu_type_name all_types apdu_type_again
