-- Proves the contract of `what_may_be_sent_outlasts_the_power` (`src/laws.rt`).
use Rattle.ill_saved.specs.Holdings.{committed_live}
use Rattle.ill_saved.specs.ManySides.{many_sides}
use Rattle.ill_saved.proofs.CommittedMessages.{many_have}
use Rattle.ill_saved.proofs.laws.what_may_be_sent_outlasts_the_power.Goals as goal

-- Each message that may be sent is that message of each record that a loss of power may leave.
pub returns-clause-left : goal.returns-clause-left
returns-clause-left g c correct left txn number a is_left may =
    many_have c.follows_issues.ensures (committed_live many_sides left c.args.desk.now.live) c.args.desk.now.live txn number a
    ((c.sides.ensures.backed correct).later left is_left) may

-- During a save, too, each message that may be sent is that message of each record that may be left.
pub returns-clause-left_in_save : goal.returns-clause-left_in_save
returns-clause-left_in_save g c backed left txn number a is_left may =
    many_have c.follows_issues.ensures (committed_live many_sides left c.args.desk.now.live) c.args.desk.now.live txn number a
    (backed left is_left) may
