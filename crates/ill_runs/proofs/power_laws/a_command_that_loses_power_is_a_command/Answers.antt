-- Proves the contract of `a_command_that_loses_power_is_a_command` (`src/power_laws.rt`). The lemma `cut_is_command`
-- gives the command. The law `longest` says that the message of a failed save was short enough to be read.
use Rattle.ill_runs.proofs.CutOffLemmas.{cut_is_command}
use Rattle.ill_runs.proofs.power_laws.a_command_that_loses_power_is_a_command.Goals as goal

pub returns : goal.returns
returns c = cut_is_command c.longest.ensures.most
