-- Proves the contract of `ArrivalGuards::hold` (`src/responder/deliveries.rt`). It holds because `hold` joins the tests
-- of the two lists of guards.
use Rattle.ill_core.specs.ResponderTables.{reply_guards, past_guards}
use Rattle.ill_core.proofs.TableLemmas.{both_met}
use Rattle.ill_core.proofs.responder.deliveries.ArrivalGuards.hold.Goals as goal

pub returns : goal.returns
returns c =
    let y = c.args.self.now.responder.now in
    let k = c.args.self.now.number in
    both_met c.args.asked (reply_guards y k) (past_guards y k) _ _ c.reply_holds.ensures c.past_holds.ensures
