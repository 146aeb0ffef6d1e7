-- Proves the contract of `responder_rules` (`src/laws/responder.rt`).
use Rattle.ill_core.proofs.Rules.{responder_rules, is_responder}
use Rattle.ill_core.proofs.laws.responder.responder_rules.Goals as goal

pub returns : goal.returns
returns c y = (responder_rules y, is_responder y)
