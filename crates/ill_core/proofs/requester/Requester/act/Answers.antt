-- Proves the contract of `Requester::act` (`src/requester.rt`). It holds because the first row that fits gives the
-- record or the refusal of `acts`.
use Rattle.std.proofs.Common.{rules, ◌≡◌, Ok, Err, Some, sym, subst}
use Rattle.ill_core.specs.declared.refusal.Refusal.TheVariants as refusals
use Rattle.ill_core.specs.RequesterActions.{Acts}
use Rattle.ill_core.specs.Issued.{next_number, with_next}
use Rattle.ill_core.specs.Requester.{RequesterRecord, requester_of, IsRequester}
use Rattle.ill_core.specs.RequesterTables.{wish_row, wish_body}
use Rattle.ill_core.proofs.RequesterTable.{acts_this, transition_there, wished_kept, wished_is, act_used, act_memory}
use Rattle.ill_core.proofs.requester.Requester.act.Goals as goal

-- If a row fits and no number is left, the answer is the refusal of the number.
pub returns-in_err-number : goal.returns-in_err-number
returns-in_err-number c =
    let x = c.args.self.now in
    let wish = c.args.wish.now in
    let row = c.in-Some.row.now in
    let fits : wish_row x wish ≡ Some row = search rules in
    let refused : next_number x.issued ≡ Err c.in_err-number.field-0.0 = search rules in
    let answer : c.from_residual.result ≡ Err c.in_err-number.field-0.0 = search rules in
    subst (λ r. Acts x wish r x) (sym answer) (act_used x wish row _ fits refused)

-- If a row fits, the wish has a transition.
pub body_of-requires : goal.body_of-requires
body_of-requires c = record { done = transition_there c.args.self.now c.args.wish.now c.in-Some.row.now (search rules) }

-- If `body_of` is out of memory, so is `act`, and the record does not change.
pub returns-in_err-body : goal.returns-in_err-body
returns-in_err-body c =
    let x = c.args.self.now in
    let wish = c.args.wish.now in
    let row = c.in-Some.row.now in
    let fits : wish_row x wish ≡ Some row = search rules in
    let next : next_number x.issued ≡ Ok c.in_ok-number.number = search rules in
    let memory : c.in_err-body.field-0.0 ≡ refusals.OutOfMemory = search rules in
    let answer : c.from_residual-in_err-body.result ≡ Err c.in_err-body.field-0.0 = search rules in
    subst (λ r. Acts x wish r x) (sym answer) (act_memory x wish row _ _ fits next memory)

-- If `issue` is out of memory, so is `act`, and the record does not change.
pub returns-in_err-issue : goal.returns-in_err-issue
returns-in_err-issue c =
    let x = c.args.self.now in
    let wish = c.args.wish.now in
    let row = c.in-Some.row.now in
    let fits : wish_row x wish ≡ Some row = search rules in
    let next : next_number x.issued ≡ Ok c.in_ok-number.number = search rules in
    let memory : c.in_err-issue.field-0.0 ≡ refusals.OutOfMemory = search rules in
    let answer : c.from_residual-in_err-issue.result ≡ Err c.in_err-issue.field-0.0 = search rules in
    let same : c.issue.new.self ≡ c.self.inside.issued = search rules in
    search (rules, act_memory x wish row _ _ fits next memory)

-- The record after the row and the new APDU satisfies the rules of a requester.
pub invariant_of-self-2 : goal.invariant_of-self-2
invariant_of-self-2 c =
    let r = c.self.inside in
    let x : RequesterRecord = requester_of r.issued.txn r.standing.state r.standing.held r.standing.checked_in r.standing.due
    r.issued.apdus in
    let row = c.in-Some.row.now in
    let fits : wish_row x c.args.wish.now ≡ Some row = search rules in
    let next : next_number x.issued ≡ Ok c.in_ok-number.number = search rules in
    let issued : c.issue.new.self.apdus ≡ with_next x.txn x.issued (wish_body x c.args.wish.now) = search rules in
    let e = c.after-standing.ensures in
    let same = wished_is x c.args.wish.now row c.in_ok-number.number _ _ _ _ _ _ c.issue.ensures.txn e.state e.held e.checked_in
    e.due issued in
    subst IsRequester (sym same) (wished_kept x c.args.wish.now row _ _ c.self.invariant fits next)

-- The record after the row and the new APDU is the record of `acts`.
pub returns : goal.returns
returns c =
    let r = c.self.inside in
    let x : RequesterRecord = requester_of r.issued.txn r.standing.state r.standing.held r.standing.checked_in r.standing.due
    r.issued.apdus in
    let row = c.in-Some.row.now in
    let fits : wish_row x c.args.wish.now ≡ Some row = search rules in
    let next : next_number x.issued ≡ Ok c.in_ok-number.number = search rules in
    let issued : c.issue.new.self.apdus ≡ with_next x.txn x.issued (wish_body x c.args.wish.now) = search rules in
    let e = c.after-standing.ensures in
    let same = wished_is x c.args.wish.now row c.in_ok-number.number _ _ _ _ _ _ c.issue.ensures.txn e.state e.held e.checked_in
    e.due issued in
    search (rules, acts_this x c.args.wish.now row c.in_ok-number.number _ fits next, same)
