-- Proves the contract of `take_message` (`src/requester/deliveries.rt`). It holds because the first row that fits gives
-- the answer of `take_message`.
use Rattle.std.proofs.Common.{rules, ◌≡◌, Some, sym, subst}
use Rattle.ill_core.specs.Requester.{RequesterRecord, requester_of, IsRequester}
use Rattle.ill_core.specs.RequesterTables.{delivery_row}
use Rattle.ill_core.proofs.RequesterTable.{takes_this, takes_none, takes_kept, after_is}
use Rattle.ill_core.proofs.requester.deliveries.take_message.Goals as goal

-- The record after the row satisfies the rules of a requester.
pub invariant_of-requester : goal.invariant_of-requester
invariant_of-requester c =
    let r = c.requester.inside in
    let x : RequesterRecord = requester_of r.issued.txn r.standing.state r.standing.held r.standing.checked_in r.standing.due
    r.issued.apdus in
    let a = c.args.apdu.now in
    let row = c.in-Some.row.now in
    let fits : delivery_row x a ≡ Some row = search rules in
    let e = c.after-next.ensures in
    let same = after_is x row _ _ _ _ _ _ e.state e.held e.checked_in e.due in
    subst IsRequester (sym same) (search (rules, takes_kept x a row c.requester.invariant fits))

-- If a row fits, its answer and the record after it are those of `take_message`.
pub returns-in-Some : goal.returns-in-Some
returns-in-Some c =
    let r = c.requester.inside in
    let x : RequesterRecord = requester_of r.issued.txn r.standing.state r.standing.held r.standing.checked_in r.standing.due
    r.issued.apdus in
    let a = c.args.apdu.now in
    let row = c.in-Some.row.now in
    let fits : delivery_row x a ≡ Some row = search rules in
    let e = c.after-next.ensures in
    let same = after_is x row _ _ _ _ _ _ e.state e.held e.checked_in e.due in
    search (rules, takes_this x a row fits, same)

-- If no row fits, `take_message` answers a conflict.
pub returns-in-None : goal.returns-in-None
returns-in-None c = search (rules, takes_none)
