-- Proves the law `laws::result_names_are_read`: the name of a result, and no other text, is read as that result.
use Rattle.ill_values.specs.Results.{result_name, all_results}
use Rattle.ill_values.proofs.Names.{result_again}
use Rattle.ill_values.proofs.laws.result_names_are_read.Goals as goal

pub returns : goal.returns
returns c = c.names_are_read.ensures result_name all_results result_again
