-- Proves the contract of `a_refused_request_gets_its_reason` (`src/laws.rt`).
use Rattle.ill_web.proofs.TurnLemmas.{refused_is_told}
use Rattle.ill_web.proofs.laws.a_refused_request_gets_its_reason.Goals as goal

pub returns : goal.returns
returns c = refused_is_told
