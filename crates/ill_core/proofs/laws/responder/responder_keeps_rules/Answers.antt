-- Proves the contract of `responder_keeps_rules` (`src/laws/responder.rt`).
use Rattle.ill_core.proofs.ResponderKept.{takes_kept}
use Rattle.ill_core.proofs.ResponderLaws.{acts_kept}
use Rattle.ill_core.proofs.laws.responder.responder_keeps_rules.Goals as goal

pub returns-clause-acts : goal.returns-clause-acts
returns-clause-acts c = acts_kept

pub returns-clause-takes : goal.returns-clause-takes
returns-clause-takes c = takes_kept
