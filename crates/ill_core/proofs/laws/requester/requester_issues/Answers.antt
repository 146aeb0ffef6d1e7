-- Proves the contract of `requester_issues` (`src/laws/requester.rt`), each clause by the lemma on all wishes or on all
-- messages.
use Rattle.ill_core.proofs.RequesterRows.{acts_few}
use Rattle.ill_core.proofs.RequesterLaws.{acts_issue, takes_issue}
use Rattle.ill_core.proofs.laws.requester.requester_issues.Goals as goal

pub returns-clause-acts : goal.returns-clause-acts
returns-clause-acts c = acts_issue

pub returns-clause-takes : goal.returns-clause-takes
returns-clause-takes c = takes_issue

pub returns-clause-few : goal.returns-clause-few
returns-clause-few c = acts_few
