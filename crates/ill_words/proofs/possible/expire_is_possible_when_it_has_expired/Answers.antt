-- Answers the law `expire_is_possible_when_it_has_expired` (`src/possible.rt`).
use Rattle.ill_words.proofs.PossibleLemmas.{expire_possible}
use Rattle.ill_words.proofs.possible.expire_is_possible_when_it_has_expired.Goals as goal

pub returns : goal.returns
returns c = expire_possible
