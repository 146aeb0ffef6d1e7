-- Proves the contract of `requester_answers_once` (`src/laws/requester.rt`).
use Rattle.ill_core.proofs.RequesterLaws.{acts_once, takes_once}
use Rattle.ill_core.proofs.laws.requester.requester_answers_once.Goals as goal

pub returns-clause-acts : goal.returns-clause-acts
returns-clause-acts c = acts_once

pub returns-clause-takes : goal.returns-clause-takes
returns-clause-takes c = takes_once
