-- Proves the contract of `responder_issues` (`src/laws/responder.rt`), each clause by the lemma on all deeds or on all
-- messages.
use Rattle.ill_core.proofs.ResponderMoves.{takes_few}
use Rattle.ill_core.proofs.ResponderRows.{acts_few}
use Rattle.ill_core.proofs.ResponderLaws.{acts_issue, takes_issue}
use Rattle.ill_core.proofs.laws.responder.responder_issues.Goals as goal

pub returns-clause-acts : goal.returns-clause-acts
returns-clause-acts c = acts_issue

pub returns-clause-takes : goal.returns-clause-takes
returns-clause-takes c = takes_issue

pub returns-clause-few : goal.returns-clause-few
returns-clause-few c = acts_few

pub returns-clause-few_taken : goal.returns-clause-few_taken
returns-clause-few_taken c = takes_few
