-- Proves the contract of `responder_is_quiet` (`src/laws/responder.rt`).
use Rattle.ill_core.proofs.ResponderRows.{takes_quiet}
use Rattle.ill_core.proofs.laws.responder.responder_is_quiet.Goals as goal

pub returns : goal.returns
returns c = takes_quiet
