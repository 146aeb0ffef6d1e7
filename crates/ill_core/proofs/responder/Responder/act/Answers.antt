-- Proves the contract of `Responder::act` (`src/responder.rt`). It holds because the row, the date and the number give
-- the record or the refusal of `acts`.
use Rattle.std.proofs.Common.{rules, ◌≡◌, Some, Ok, sym, subst}
use Rattle.ill_core.specs.Issued.{next_number, with_next}
use Rattle.ill_core.specs.Responder.{ResponderRecord, responder_of, IsResponder}
use Rattle.ill_core.specs.ResponderActions.{acts}
use Rattle.ill_core.specs.ResponderTables.{deed_row, check_date, deed_body, after_deed}
use Rattle.ill_core.proofs.ResponderTable.{acts_this, acts_forbidden, acts_numberless, acts_wanting, deed_kept, deed_is}
use Rattle.ill_core.proofs.Rules.{responder_rules}
use Rattle.ill_core.proofs.responder.Responder.act.Goals as goal

-- If a row fits and the date forbids the deed, the answer is the refusal of the date.
pub returns-in_err-check_date : goal.returns-in_err-check_date
returns-in_err-check_date c =
    let y = c.args.self.now in
    let row = c.in-Some.row.now in
    let has : deed_row y.state c.args.deed.now ≡ Some row = search rules in
    search (rules, acts_forbidden y c.args.deed.now c.args.today row c.in_err-check_date.field-0.0 has)

-- If row and date allow the deed and no number is left, the answer is the refusal of the number.
pub returns-in_err-number : goal.returns-in_err-number
returns-in_err-number c =
    let y = c.args.self.now in
    let row = c.in-Some.row.now in
    let has : deed_row y.state c.args.deed.now ≡ Some row = search rules in
    let date : check_date y c.args.deed.now c.args.today ≡ Ok tt = search rules in
    search (rules, acts_numberless y c.args.deed.now c.args.today row c.in_err-number.field-0.0 has date)

-- If `issue` is out of memory, so is `act`, and the record does not change.
pub returns-in_err-issue : goal.returns-in_err-issue
returns-in_err-issue c =
    let y = c.args.self.now in
    let row = c.in-Some.row.now in
    let has : deed_row y.state c.args.deed.now ≡ Some row = search rules in
    let date : check_date y c.args.deed.now c.args.today ≡ Ok tt = search rules in
    let next : next_number y.issued ≡ Ok c.in_ok-number.number = search rules in
    search (rules, acts_wanting y c.args.deed.now c.args.today row c.in_ok-number.number has date next)

-- If a row fits, the record has the number or the date that the APDU of the deed needs.
pub body_of-body-requires : goal.body_of-body-requires
body_of-body-requires c =
    let r = c.self.inside in
    let y : ResponderRecord = responder_of r.issued.txn r.standing.state r.standing.accepted r.standing.last_cancel
    r.standing.last_renew r.standing.received r.request r.issued.apdus in
    search (rules, responder_rules y c.self.invariant)

-- The record after the row and the new APDU satisfies the rules of a responder.
pub invariant_of-self-2 : goal.invariant_of-self-2
invariant_of-self-2 c =
    let r = c.self.inside in
    let y : ResponderRecord = responder_of r.issued.txn r.standing.state r.standing.accepted r.standing.last_cancel
    r.standing.last_renew r.standing.received r.request r.issued.apdus in
    let deed = c.args.deed.now in
    let row = c.in-Some.row.now in
    let number = c.in_ok-number.number in
    let body = deed_body y deed in
    let has : deed_row y.state deed ≡ Some row = search rules in
    let date : check_date y deed c.args.today ≡ Ok tt = search rules in
    let next : next_number y.issued ≡ Ok number = search rules in
    let e = c.after-self-inside.ensures in
    let more : c.issue.new.self.apdus ≡ with_next y.txn y.issued body = search rules in
    let parts = deed_is y row number body _ _ _ _ _ _ _ c.in_ok-issue.ensures.txn e.state e.accepted e.cancel e.renew e.received
    more in
    let done : acts y deed c.args.today ≡ Ok (after_deed y row number body) =
    acts_this y deed c.args.today row number has date next in
    subst IsResponder (sym parts) (deed_kept y (after_deed y row number body) deed c.args.today c.self.invariant done)

-- The record after the row and the new APDU is the record of `acts`.
pub returns : goal.returns
returns c =
    let r = c.self.inside in
    let y : ResponderRecord = responder_of r.issued.txn r.standing.state r.standing.accepted r.standing.last_cancel
    r.standing.last_renew r.standing.received r.request r.issued.apdus in
    let deed = c.args.deed.now in
    let row = c.in-Some.row.now in
    let number = c.in_ok-number.number in
    let body = deed_body y deed in
    let has : deed_row y.state deed ≡ Some row = search rules in
    let date : check_date y deed c.args.today ≡ Ok tt = search rules in
    let next : next_number y.issued ≡ Ok number = search rules in
    let e = c.after-self-inside.ensures in
    let more : c.issue.new.self.apdus ≡ with_next y.txn y.issued body = search rules in
    let parts = deed_is y row number body _ _ _ _ _ _ _ c.in_ok-issue.ensures.txn e.state e.accepted e.cancel e.renew e.received
    more in
    let done : acts y deed c.args.today ≡ Ok (after_deed y row number body) =
    acts_this y deed c.args.today row number has date next in
    search (rules, done, parts)
