-- Proves the contract of `requester_keeps_txn` (`src/laws/requester.rt`).
use Rattle.ill_core.proofs.RequesterLaws.{acts_txn, takes_txn}
use Rattle.ill_core.proofs.laws.requester.requester_keeps_txn.Goals as goal

pub returns-clause-acts : goal.returns-clause-acts
returns-clause-acts c = acts_txn

pub returns-clause-takes : goal.returns-clause-takes
returns-clause-takes c = takes_txn
