-- Proves the clause `done` of `no_bad_night_passes` (`src/laws.rt`): of the message files that are done with, none is
-- left undone.
use Rattle.ill_nights.proofs.BadNights.{none_undone}
use Rattle.ill_nights.proofs.laws.no_bad_night_passes.Goals as goal

pub returns-clause-done : goal.returns-clause-done
returns-clause-done c = none_undone
