-- Proves the contract of `take_message` (`src/responder/deliveries.rt`). It holds because the first row that fits gives
-- the answer of `take_message`.
use Rattle.std.proofs.Common.{rules, ◌≡◌, true, Some, sym, subst}
use Rattle.ill_core.specs.Issued.{is_same_txn}
use Rattle.ill_core.specs.Responder.{ResponderRecord, responder_of, IsResponder}
use Rattle.ill_core.specs.ResponderTables.{delivery_row}
use Rattle.ill_core.proofs.ResponderTable.{takes_none, takes_numbered, takes_refused, delivery_kept, after_is}
use Rattle.ill_core.proofs.responder.deliveries.take_message.Goals as goal

-- If `grow` is refused, the definitions allow this refusal, and the record does not change.
pub returns-in_err-grow-in-Some : goal.returns-in_err-grow-in-Some
returns-in_err-grow-in-Some c =
    let y = c.args.responder.now in
    let a = c.args.apdu.now in
    let row = c.in-Some.row.now in
    let fits : delivery_row y a ≡ Some row = search rules in
    search (rules, takes_refused y a row c.in_err-grow-in-Some.field-0.0 fits)

-- The record after the row satisfies the rules of a responder.
pub invariant_of-responder-in-Some : goal.invariant_of-responder-in-Some
invariant_of-responder-in-Some c =
    let r = c.responder.inside in
    let y : ResponderRecord = responder_of r.issued.txn r.standing.state r.standing.accepted r.standing.last_cancel
    r.standing.last_renew r.standing.received r.request r.issued.apdus in
    let a = c.args.apdu.now in
    let row = c.in-Some.row.now in
    let fits : delivery_row y a ≡ Some row = search rules in
    let same : is_same_txn a.txn y.txn ≡ true = search rules in
    let e = c.after-next.ensures in
    let g = c.in_ok-grow-in-Some.ensures in
    let parts = after_is y a row _ _ _ _ _ _ _ _ _ g.txn e.state e.accepted e.cancel e.renew e.received g.request g.issued in
    subst IsResponder (sym parts) (search (rules, delivery_kept y a row c.responder.invariant same fits g.numbered))

-- If a row fits and `grow` succeeds, the answer and the record are those of `take_message`.
pub returns-in_ok-grow-in-Some : goal.returns-in_ok-grow-in-Some
returns-in_ok-grow-in-Some c =
    let r = c.responder.inside in
    let y : ResponderRecord = responder_of r.issued.txn r.standing.state r.standing.accepted r.standing.last_cancel
    r.standing.last_renew r.standing.received r.request r.issued.apdus in
    let a = c.args.apdu.now in
    let row = c.in-Some.row.now in
    let fits : delivery_row y a ≡ Some row = search rules in
    let e = c.after-next.ensures in
    let g = c.in_ok-grow-in-Some.ensures in
    let parts = after_is y a row _ _ _ _ _ _ _ _ _ g.txn e.state e.accepted e.cancel e.renew e.received g.request g.issued in
    search (rules, takes_numbered y a row fits, parts)

-- If no row fits, `take_message` answers a conflict.
pub returns-in-None : goal.returns-in-None
returns-in-None c = search (rules, takes_none)
