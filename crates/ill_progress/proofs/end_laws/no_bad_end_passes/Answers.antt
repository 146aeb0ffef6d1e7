-- Proves the clauses of `no_bad_end_passes` (`src/end_laws.rt`) by the lemmas of `BadEnds`.
use Rattle.std.proofs.Common.{refl}
use Rattle.ill_progress.specs.Ends.{is_act_to_end}
use Rattle.ill_progress.proofs.BadEnds.{not_misjudged, ends_by_events, numbers_for_five}
use Rattle.ill_progress.proofs.end_laws.no_bad_end_passes.Goals as goal

pub returns-clause-acts : goal.returns-clause-acts
returns-clause-acts c = λ event misjudges. not_misjudged event (is_act_to_end event) misjudges refl

pub returns-clause-ends : goal.returns-clause-ends
returns-clause-ends c = ends_by_events

pub returns-clause-numbers : goal.returns-clause-numbers
returns-clause-numbers c = numbers_for_five
