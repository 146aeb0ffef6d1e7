-- Answers the law `overdue_is_possible_when_it_is_due` (`src/possible.rt`).
use Rattle.ill_words.proofs.PossibleLemmas.{overdue_possible}
use Rattle.ill_words.proofs.possible.overdue_is_possible_when_it_is_due.Goals as goal

pub returns : goal.returns
returns c = overdue_possible
