-- Proves the contract of `requester_replies` (`src/laws/requester.rt`).
use Rattle.ill_core.proofs.RequesterLaws.{acts_reply}
use Rattle.ill_core.proofs.laws.requester.requester_replies.Goals as goal

pub returns : goal.returns
returns c = acts_reply
