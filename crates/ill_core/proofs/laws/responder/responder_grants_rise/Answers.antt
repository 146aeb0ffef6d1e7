-- Proves the contract of `responder_grants_rise` (`src/laws/responder.rt`).
use Rattle.ill_core.proofs.ResponderGrants.{acts_rise, takes_rise}
use Rattle.ill_core.proofs.laws.responder.responder_grants_rise.Goals as goal

pub returns-clause-acts : goal.returns-clause-acts
returns-clause-acts c = acts_rise

pub returns-clause-takes : goal.returns-clause-takes
returns-clause-takes c = takes_rise
