-- Answers the contract of `few_outcomes_change` (`src/laws.rt`).
use Rattle.ill_world.proofs.Changes.{world_changes}
use Rattle.ill_world.proofs.laws.few_outcomes_change.Goals as goal

pub returns : goal.returns
returns c = world_changes (record { requester = c.requester_is_quiet.ensures; responder = c.responder_is_quiet.ensures })
