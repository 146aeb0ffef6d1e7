-- Answers the law `requester_verbs_are_possible` (`src/possible.rt`).
use Rattle.ill_words.proofs.PossibleLemmas.{all_of_requester}
use Rattle.ill_words.proofs.possible.requester_verbs_are_possible.Goals as goal

pub returns : goal.returns
returns c = all_of_requester
