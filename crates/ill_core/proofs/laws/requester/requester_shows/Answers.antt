-- Proves the contract of `requester_shows` (`src/laws/requester.rt`).
use Rattle.ill_core.proofs.RequesterLaws.{acts_shows, takes_shows}
use Rattle.ill_core.proofs.laws.requester.requester_shows.Goals as goal

pub returns-clause-acts : goal.returns-clause-acts
returns-clause-acts c = acts_shows

pub returns-clause-takes : goal.returns-clause-takes
returns-clause-takes c = takes_shows
