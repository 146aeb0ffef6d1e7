-- Proves the contract of `responder_ends_once` (`src/laws/responder.rt`).
use Rattle.ill_core.proofs.ResponderLaws.{acts_end_once, takes_end_once}
use Rattle.ill_core.proofs.laws.responder.responder_ends_once.Goals as goal

pub returns-clause-acts : goal.returns-clause-acts
returns-clause-acts c = acts_end_once

pub returns-clause-takes : goal.returns-clause-takes
returns-clause-takes c = takes_end_once
