-- Proves the contract of `responder_keeps_txn` (`src/laws/responder.rt`).
use Rattle.ill_core.proofs.ResponderLaws.{acts_txn, takes_txn}
use Rattle.ill_core.proofs.laws.responder.responder_keeps_txn.Goals as goal

pub returns-clause-acts : goal.returns-clause-acts
returns-clause-acts c = acts_txn

pub returns-clause-takes : goal.returns-clause-takes
returns-clause-takes c = takes_txn
