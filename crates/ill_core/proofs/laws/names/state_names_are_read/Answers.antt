-- Proves the contract of `state_names_are_read` (`src/laws/names.rt`). It holds because the name of each state is read
-- as this state.
use Rattle.ill_core.specs.State.{state_name, all_states}
use Rattle.ill_core.proofs.NameLemmas.{state_again}
use Rattle.ill_core.proofs.laws.names.state_names_are_read.Goals as goal

pub returns : goal.returns
returns c = c.names_are_read.ensures state_name all_states state_again
