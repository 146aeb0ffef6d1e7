-- Proves the clauses of `no_bad_sending_passes` (`src/laws.rt`). Each case of a wrong answer contradicts its
-- definition, by the lemmas of `BadSendings`.
use Rattle.std.proofs.Common.{refl}
use Rattle.ill_words.specs.Sending.{is_over, wants_sending}
use Rattle.ill_words.proofs.BadSendings.{not_misjudged, not_misjudged_sending}
use Rattle.ill_words.proofs.laws.no_bad_sending_passes.Goals as goal

pub returns-clause-over : goal.returns-clause-over
returns-clause-over c = λ side misjudges. not_misjudged side (is_over side) misjudges refl

pub returns-clause-sends : goal.returns-clause-sends
returns-clause-sends c = λ was_asked side misjudges.
    not_misjudged_sending was_asked side (wants_sending was_asked side) misjudges refl
