-- Proves the contract of `take_turn` (`src/act.rt`), if the form is answered.
use Rattle.ill_web.specs.Entries.{stamp_on}
use Rattle.ill_web.specs.Pages.{said}
use Rattle.ill_web.specs.Sent.{sent_form}
use Rattle.ill_web.proofs.TurnLemmas.{has_turn}
use Rattle.ill_web.proofs.act.take_turn.Goals as goal

-- By `has_turn` the form that `answer` has answered has a turn, and `tell` tells what came.
pub returns : goal.returns
returns g c =
    let stamp = stamp_on c.args.house.now.operator.now.today c.args.house.now.user.now in
    has_turn stamp (sent_form c.args.sent.now) _ _ c.answer-answered.result (said c.tell.result) c.answer-answered.ensures
    c.tell.ensures
