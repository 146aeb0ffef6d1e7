-- Proves the clauses of `no_bad_desk_event_passes` (`src/desk_laws.rt`). Each case of a bad event contradicts its
-- definition, by the lemmas of `BadDesks` and `BadChanges`.
use Rattle.ill_world.proofs.BadChanges.{none_too_much}
use Rattle.ill_world.proofs.BadDesks.{none_missed, none_missed_new, none_changed, none_in_vain_at}
use Rattle.ill_world.proofs.desk_laws.no_bad_desk_event_passes.Goals as goal

pub returns-clause-reaches : goal.returns-clause-reaches
returns-clause-reaches c = none_missed

pub returns-clause-begins : goal.returns-clause-begins
returns-clause-begins c = none_missed_new

pub returns-clause-plain : goal.returns-clause-plain
returns-clause-plain c = none_too_much

pub returns-clause-changes : goal.returns-clause-changes
returns-clause-changes c = none_changed

pub returns-clause-arrives : goal.returns-clause-arrives
returns-clause-arrives c = none_in_vain_at
