-- Proves the contract of `a_night_of_a_kept_group_is_enough` (`src/retire_laws.rt`). All events of the night happen.
use Rattle.ill_progress.proofs.RetirementLoans.{night_of_kept}
use Rattle.ill_progress.proofs.retire_laws.a_night_of_a_kept_group_is_enough.Goals as goal

pub returns : goal.returns
returns c = night_of_kept c.a_night_of_a_group_is_enough.ensures.run
