-- Proves the contract of `an_own_form_alone_has_a_turn` (`src/laws.rt`).
use Rattle.ill_web.proofs.TurnLemmas.{own_has_turn}
use Rattle.ill_web.proofs.laws.an_own_form_alone_has_a_turn.Goals as goal

pub returns : goal.returns
returns c = own_has_turn c.a_change_is_asked_by_an_own_form.ensures
