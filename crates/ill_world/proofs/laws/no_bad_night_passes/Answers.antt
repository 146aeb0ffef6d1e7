-- Proves the clauses of `no_bad_night_passes` (`src/laws.rt`). Each case of a wrong answer, or of records not at rest,
-- contradicts a definition, by `BadSendings` and `BadNights`.
use Rattle.std.proofs.Common.{refl}
use Rattle.ill_words.specs.Sending.{is_over, wants_sending}
use Rattle.ill_world.specs.Night.{asks}
use Rattle.ill_words.proofs.BadSendings.{not_misjudged, not_misjudged_sending}
use Rattle.ill_world.proofs.BadNights.{not_misasked, not_at_rest}
use Rattle.ill_world.proofs.laws.no_bad_night_passes.Goals as goal

pub returns-clause-over : goal.returns-clause-over
returns-clause-over c = λ side misjudges. not_misjudged side (is_over side) misjudges refl

pub returns-clause-sends : goal.returns-clause-sends
returns-clause-sends c = λ was_asked side misjudges.
    not_misjudged_sending was_asked side (wants_sending was_asked side) misjudges refl

pub returns-clause-asks : goal.returns-clause-asks
returns-clause-asks c = λ side misjudges. not_misasked side (asks side) misjudges refl

pub returns-clause-rest : goal.returns-clause-rest
returns-clause-rest c = not_at_rest
