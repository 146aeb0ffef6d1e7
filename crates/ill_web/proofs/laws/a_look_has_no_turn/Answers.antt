-- Proves the contract of `a_look_has_no_turn` (`src/laws.rt`).
use Rattle.ill_web.proofs.TurnLemmas.{look_has_none}
use Rattle.ill_web.proofs.laws.a_look_has_no_turn.Goals as goal

pub returns : goal.returns
returns c = look_has_none c.no_request_is_misread.ensures
