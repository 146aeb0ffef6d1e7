-- Proves the contract of `responder_shows` (`src/laws/responder.rt`).
use Rattle.ill_core.proofs.ResponderLaws.{acts_shows, takes_shows}
use Rattle.ill_core.proofs.laws.responder.responder_shows.Goals as goal

pub returns-clause-acts : goal.returns-clause-acts
returns-clause-acts c = acts_shows

pub returns-clause-takes : goal.returns-clause-takes
returns-clause-takes c = takes_shows
