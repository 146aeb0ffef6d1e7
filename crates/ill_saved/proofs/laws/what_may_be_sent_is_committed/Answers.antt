-- Proves the contract of `what_may_be_sent_is_committed` (`src/laws.rt`).
use Rattle.ill_saved.specs.Holdings.{committed_live}
use Rattle.ill_saved.specs.OneSide.{one_side}
use Rattle.ill_saved.specs.ManySides.{many_sides}
use Rattle.ill_saved.proofs.CommittedMessages.{one_has, many_have}
use Rattle.ill_saved.proofs.laws.what_may_be_sent_is_committed.Goals as goal

-- Each message that may be sent is that message of the committed record.
pub returns : goal.returns
returns c = record {
  one = λ committed live. one_has c.follows_issues.ensures (committed_live one_side committed live) live;
  many = λ committed live. many_have c.follows_issues.ensures (committed_live many_sides committed live) live;
}
