-- Proves the contract of `requester_rules` (`src/laws/requester.rt`).
use Rattle.ill_core.proofs.Rules.{requester_rules, is_requester}
use Rattle.ill_core.proofs.laws.requester.requester_rules.Goals as goal

pub returns : goal.returns
returns c x = (requester_rules x, is_requester x)
