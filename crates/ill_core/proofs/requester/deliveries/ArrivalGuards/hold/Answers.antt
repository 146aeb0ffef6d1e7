-- Proves the contract of `ArrivalGuards::hold` (`src/requester/deliveries.rt`). It holds because `hold` joins the tests
-- of the four lists of guards.
use Rattle.std.proofs.Common.{◌++◌}
use Rattle.ill_core.specs.RequesterTables.{number_guards, cancel_guards, renew_guards, due_guards}
use Rattle.ill_core.proofs.TableLemmas.{both_met}
use Rattle.ill_core.proofs.requester.deliveries.ArrivalGuards.hold.Goals as goal

pub returns : goal.returns
returns c =
    let x = c.args.self.now.requester.now in
    let k = c.args.self.now.number in
    let asked = c.args.asked in
    let cancels = both_met asked (number_guards x k) (cancel_guards x k) _ _ c.number_holds.ensures c.cancel_holds.ensures in
    let renews = both_met asked (number_guards x k ++ cancel_guards x k) (renew_guards x k) _ _ cancels c.renew_holds.ensures in
    both_met asked ((number_guards x k ++ cancel_guards x k) ++ renew_guards x k) (due_guards x c.args.self.now.date) _ _ renews
    c.due_holds.ensures
