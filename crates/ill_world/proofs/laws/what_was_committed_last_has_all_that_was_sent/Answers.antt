-- Answers the contract of `what_was_committed_last_has_all_that_was_sent` (`src/laws.rt`).
use Rattle.ill_world.proofs.Copies.{last_has_all}
use Rattle.ill_world.proofs.laws.what_was_committed_last_has_all_that_was_sent.Goals as goal

pub returns : goal.returns
returns c = last_has_all
