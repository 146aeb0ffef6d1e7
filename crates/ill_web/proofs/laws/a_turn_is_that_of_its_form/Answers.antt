-- Proves the contract of `a_turn_is_that_of_its_form` (`src/laws.rt`).
use Rattle.ill_web.proofs.TurnLemmas.{turn_is_of_form}
use Rattle.ill_web.proofs.laws.a_turn_is_that_of_its_form.Goals as goal

pub returns : goal.returns
returns c = turn_is_of_form
